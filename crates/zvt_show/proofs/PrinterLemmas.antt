-- What a printer writes, and that it keeps its pages and its device.
use Rattle.std.proofs.Common.{◌≡◌, ℕ, List, Option, Result, subst, sym}
use Rattle.zvt_grammar.specs.Reading.{Reading}
use Rattle.zvt_trace.specs.Chunks.{AnswersFeed}
use Rattle.zvt_trace.specs.Listening.{AnswersFrom, AnswersWalk}
use Rattle.zvt_trace.specs.TraceEvent.{At}
use Rattle.zvt_trace.specs.declared.chunks.Walker.{Walker}
use Rattle.zvt_trace.specs.declared.fault.Tally.{Tally}
use Rattle.zvt_trace.specs.declared.fault.TraceFault.{TraceFault}
use Rattle.zvt_trace.specs.declared.listener.Scope.{Scope}
use Rattle.zvt_trace.proofs.KeptLemmas.{Keeps, SaysLess, end_as, end_kept, feed_as, feed_kept, walk_as, walk_kept}
use Rattle.zvt_show.specs.Printed.{FailsPrinting, Prints, printed}
use Rattle.zvt_show.specs.declared.pages.Pages.{Pages}
use Rattle.zvt_show.specs.declared.pages.Printer.{Printer}
use Rattle.zvt_show.proofs.PageLemmas.{fails, writes}

-- the same pages are lent
pub same_pages : {W : Type 0} (written : W → Option (List ℕ)) (failures : W → ℕ) → Keeps (λ (p : Printer W). p.pages.ghost_name) (Prints written failures) (FailsPrinting written failures)
same_pages written failures = record { by_event = λ old event new h. h.1.0; by_failure = λ old event why new h. h.1.0 }

-- and the same device
pub same_writer : {W : Type 0} (written : W → Option (List ℕ)) (failures : W → ℕ) → Keeps (λ (p : Printer W). p.writer.ghost_name) (Prints written failures) (FailsPrinting written failures)
same_writer written failures = record { by_event = λ old event new h. h.1.1; by_failure = λ old event why new h. h.1.1 }

pub only_written : {W : Type 0} (written : W → Option (List ℕ)) (failures : W → ℕ) → SaysLess (λ (p : Printer W). p) (Prints written failures) (writes (printed written failures)) (FailsPrinting written failures) (fails (printed written failures))
only_written written failures = record { by_event = λ old event new h. h.0; by_failure = λ old event why new h. h.0 }

-- ---- what becomes of the lent pages and the lent device

module _ {W : Type 0} (written : W → Option (List ℕ)) (failures : W → ℕ) (old new : Printer W) (pages : Pages) (writer : W) where
  -- they are what the printer left
  pub record Ended : Type 0 where
    pub pages_are : pages ≡ new.pages.now
    pub writer_is : writer ≡ new.writer.now

  pub ended : (old.pages.ghost_name ≡ new.pages.ghost_name → pages ≡ new.pages.now) → (old.writer.ghost_name ≡ new.writer.ghost_name → writer ≡ new.writer.now)
      → new.pages.ghost_name ≡ old.pages.ghost_name → new.writer.ghost_name ≡ old.writer.ghost_name → Ended
  ended pages_are writer_is same_pages same_writer = record { pages_are = pages_are (sym same_pages); writer_is = writer_is (sym same_writer) }

  -- what is said of them is said of the printer's page
  pub on_page : (P : Option (List ℕ) → List ℕ → ℕ → Type 0) → Ended → P (written writer) pages.block (failures writer) → P (printed written failures new).written (printed written failures new).block (printed written failures new).failures
  on_page P are so =
      subst (λ (w : W). P (written w) new.pages.now.block (failures w)) are.writer_is (subst (λ (p : Pages). P (written writer) p.block (failures writer)) are.pages_are so)

pub walk_ended : {W : Type 0} (written : W → Option (List ℕ)) (failures : W → ℕ) (old new : Printer W) (pages : Pages) (writer : W) (r : Reading) (scope : Scope) (lines : List (List ℕ)) (answer : Result Tally TraceFault)
    → (old.pages.ghost_name ≡ new.pages.ghost_name → pages ≡ new.pages.now) → (old.writer.ghost_name ≡ new.writer.ghost_name → writer ≡ new.writer.now)
    → AnswersWalk r (Prints written failures) (FailsPrinting written failures) scope lines old new answer → Ended written failures old new pages writer
walk_ended written failures old new pages writer r scope lines answer pages_are writer_is walked =
    ended written failures old new pages writer pages_are writer_is
    (walk_kept (λ (p : Printer _). p.pages.ghost_name) (Prints written failures) (FailsPrinting written failures) (same_pages written failures) r scope lines answer old new walked)
    (walk_kept (λ (p : Printer _). p.writer.ghost_name) (Prints written failures) (FailsPrinting written failures) (same_writer written failures) r scope lines answer old new walked)

pub walk_written : {W : Type 0} (written : W → Option (List ℕ)) (failures : W → ℕ) (old new : Printer W) (r : Reading) (scope : Scope) (lines : List (List ℕ)) (answer : Result Tally TraceFault)
    → AnswersWalk r (Prints written failures) (FailsPrinting written failures) scope lines old new answer → AnswersWalk r (writes (printed written failures)) (fails (printed written failures)) scope lines old new answer
walk_written written failures old new r scope lines answer walked =
    walk_as (λ (p : Printer _). p) (Prints written failures) (writes (printed written failures)) (FailsPrinting written failures) (fails (printed written failures)) (only_written written failures) r scope lines answer old new walked

pub feed_ended : {W : Type 0} (written : W → Option (List ℕ)) (failures : W → ℕ) (old new : Printer W) (pages : Pages) (writer : W) (r : Reading) (scope : Scope) (bytes : List ℕ) (earlier : List At) (walker : Walker) (answer : Result Unit TraceFault)
    → (old.pages.ghost_name ≡ new.pages.ghost_name → pages ≡ new.pages.now) → (old.writer.ghost_name ≡ new.writer.ghost_name → writer ≡ new.writer.now)
    → AnswersFeed r (Prints written failures) (FailsPrinting written failures) scope bytes earlier walker old new answer → Ended written failures old new pages writer
feed_ended written failures old new pages writer r scope bytes earlier walker answer pages_are writer_is fed =
    ended written failures old new pages writer pages_are writer_is
    (feed_kept (λ (p : Printer _). p.pages.ghost_name) (Prints written failures) (FailsPrinting written failures) (same_pages written failures) r scope bytes earlier walker answer old new fed)
    (feed_kept (λ (p : Printer _). p.writer.ghost_name) (Prints written failures) (FailsPrinting written failures) (same_writer written failures) r scope bytes earlier walker answer old new fed)

pub feed_written : {W : Type 0} (written : W → Option (List ℕ)) (failures : W → ℕ) (old new : Printer W) (r : Reading) (scope : Scope) (bytes : List ℕ) (earlier : List At) (walker : Walker) (answer : Result Unit TraceFault)
    → AnswersFeed r (Prints written failures) (FailsPrinting written failures) scope bytes earlier walker old new answer → AnswersFeed r (writes (printed written failures)) (fails (printed written failures)) scope bytes earlier walker old new answer
feed_written written failures old new r scope bytes earlier walker answer fed =
    feed_as (λ (p : Printer _). p) (Prints written failures) (writes (printed written failures)) (FailsPrinting written failures) (fails (printed written failures)) (only_written written failures) r scope bytes earlier walker answer old new fed

pub end_ended : {W : Type 0} (written : W → Option (List ℕ)) (failures : W → ℕ) (old new : Printer W) (pages : Pages) (writer : W) (r : Reading) (scope : Scope) (lines : List (List ℕ)) (earlier : List At) (answer : Result Tally TraceFault)
    → (old.pages.ghost_name ≡ new.pages.ghost_name → pages ≡ new.pages.now) → (old.writer.ghost_name ≡ new.writer.ghost_name → writer ≡ new.writer.now)
    → AnswersFrom r (Prints written failures) (FailsPrinting written failures) scope lines earlier old new answer → Ended written failures old new pages writer
end_ended written failures old new pages writer r scope lines earlier answer pages_are writer_is walked =
    ended written failures old new pages writer pages_are writer_is
    (end_kept (λ (p : Printer _). p.pages.ghost_name) (Prints written failures) (FailsPrinting written failures) (same_pages written failures) r scope lines earlier answer old new walked)
    (end_kept (λ (p : Printer _). p.writer.ghost_name) (Prints written failures) (FailsPrinting written failures) (same_writer written failures) r scope lines earlier answer old new walked)

pub end_written_as : {W : Type 0} (written : W → Option (List ℕ)) (failures : W → ℕ) (old new : Printer W) (r : Reading) (scope : Scope) (lines : List (List ℕ)) (earlier : List At) (answer : Result Tally TraceFault)
    → AnswersFrom r (Prints written failures) (FailsPrinting written failures) scope lines earlier old new answer → AnswersFrom r (writes (printed written failures)) (fails (printed written failures)) scope lines earlier old new answer
end_written_as written failures old new r scope lines earlier answer walked =
    end_as (λ (p : Printer _). p) (Prints written failures) (writes (printed written failures)) (FailsPrinting written failures) (fails (printed written failures)) (only_written written failures) r scope lines earlier answer old new walked
