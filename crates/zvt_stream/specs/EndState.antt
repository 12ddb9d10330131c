-- One end of a line, as a call sees it.
use Rattle.std.specs.Prelude.{◌≡◌, ℕ, ◌+◌, List, Option}
use Rattle.zvt_stream.specs.LineRun.{failed_reads, failed_writes}
use Rattle.zvt_stream.specs.StreamState.{StreamState}
use Rattle.zvt_stream.specs.declared.line.LineFault.{LineFault}

-- The stream, the bytes still to come, the bytes written, the number of reads, failed ones included, and the numbers of
-- failed reads and writes.
pub record EndState : Type 0 where
  pub stream : StreamState
  pub coming : Option (List ℕ)
  pub written : Option (List ℕ)
  pub reads : ℕ
  pub failed_reads : ℕ
  pub failed_writes : ℕ

abbrev pub end_state : StreamState → Option (List ℕ) → Option (List ℕ) → (reads failed_reads failed_writes : ℕ) → EndState
end_state stream coming written reads failed_reads failed_writes =
    record { stream = stream; coming = coming; written = written; reads = reads; failed_reads = failed_reads; failed_writes = failed_writes }

-- No read and no write failed.
pub record NoneFails (old new : EndState) : Type 0 where
  pub reads : new.failed_reads ≡ old.failed_reads
  pub writes : new.failed_writes ≡ old.failed_writes

-- The one read or write that the fault represents failed, and no other.
pub record OneFails (fault : LineFault) (old new : EndState) : Type 0 where
  pub reads : new.failed_reads ≡ old.failed_reads + failed_reads fault
  pub writes : new.failed_writes ≡ old.failed_writes + failed_writes fault
