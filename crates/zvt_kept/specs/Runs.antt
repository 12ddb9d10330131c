-- One order of a till with its journal, from end to end.
use Rattle.std.specs.Prelude.{ℕ, List, Option, Result, Ok, Err}
use Rattle.zvt_stream.specs.StreamState.{StreamState}
use Rattle.zvt_till.specs.Line.{Fails, Runs}
use Rattle.zvt_till.specs.declared.line.RunFault.{RunFault}
use Rattle.zvt_till.specs.declared.orders.Order.{Order}
use Rattle.zvt_till.specs.declared.outcomes.Outcome.{Outcome}
use Rattle.zvt_kept.specs.Keeping.{kept_orders}
use Rattle.zvt_kept.specs.KeptTill.{Hears, KeptValue, LosesLine, has_failed, kept_rests, till_of}

module _ {D : Type 0} (seen : D → List ℕ) (may_leave : D → List ℕ → Type 0) (moment : D → ℕ) (left_since : D → ℕ → List ℕ → Type 0) (faults : D → ℕ) where
  -- it came to this, as of any till that orders are run with
  abbrev pub RanKept : Order → (before after : StreamState) → (old new : KeptValue D) → (coming left first last : Option (List ℕ)) → (turns reads_before reads_after : ℕ) → Result Outcome RunFault → Type 0
  RanKept order before after old new coming left first last turns reads_before reads_after (Ok outcome) =
      Runs (kept_orders seen may_leave moment left_since faults) (Hears seen may_leave moment left_since faults) kept_rests has_failed till_of order outcome before after old new coming left first last turns reads_before reads_after
  RanKept order before after old new coming left first last turns reads_before reads_after (Err fault) =
      Fails (kept_orders seen may_leave moment left_since faults) (Hears seen may_leave moment left_since faults) kept_rests has_failed (LosesLine seen may_leave moment left_since faults) (LosesLine seen may_leave moment left_since faults) fault order before after old new coming left first last turns reads_before reads_after
