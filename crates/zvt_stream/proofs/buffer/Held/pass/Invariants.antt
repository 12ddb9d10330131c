use Rattle.std.proofs.Common.{◌≡◌, ◌≤◌, ◌++◌, ◌-◌, length, take}
use Rattle.zvt_stream.proofs.PassingLemmas.{AtMost}
use Rattle.zvt_stream.proofs.buffer.Held.pass.Given as goal

abbrev pub invariant-frame : goal.invariant-frame
invariant-frame l = record {
  within : l.taken ≤ length l.piece;
  bytes : l.self.bytes ≡ l.fn.self.bytes ++ take l.taken l.piece;
  room : l.self.room ≡ l.fn.self.room;
  at_most : AtMost l.self.bytes;
}

abbrev pub decreases-frame : goal.decreases-frame
decreases-frame l = length l.piece - l.taken
