-- A till that goes on with rows that were written down.
use Rattle.std.specs.Prelude.{◌≡◌, ℕ, ◌<◌, ◌≤◌, false, List, length, take, Option, None, IfSome, slice_get}
use Rattle.zvt_till.specs.declared.entries.Entry.{Entry}
use Rattle.zvt_till.specs.declared.outcomes.Cause.{Cause}
use Rattle.zvt_till.specs.declared.outcomes.Outcome.{Outcome}
use Rattle.zvt_till.specs.declared.till.restoring.RestoreError.{RestoreError}
use Rattle.zvt_till.specs.declared.till.restoring.RestoreError.TheVariants.{Impossible, Memory}
use Rattle.zvt_till.specs.Outcomes.{trace_used}
use Rattle.zvt_till.specs.Refusals.{most_rows}
use Rattle.zvt_till.specs.Sending.{Settings}
use Rattle.zvt_till.specs.Till.{TillState}

-- of the first rows none has the trace number of a row before it
abbrev pub OnceBelow : ℕ → List Entry → Type 0
OnceBelow n book = (i : ℕ) → i < n → IfSome (slice_get book i) (λ row. trace_used row.trace (take i book) ≡ false)

-- no trace number appears twice, and neither list is too long
pub record CanStand (book : List Entry) (unclear : List (ℕ × Cause)) : Type 0 where
  pub few_booked : length book ≤ most_rows
  pub few_unclear : length unclear ≤ most_rows
  pub once : OnceBelow (length book) book

-- the line is down, the till is not registered, and no order is running
abbrev pub at_rest : Settings → List Entry → List (ℕ × Cause) → Option Outcome → TillState
at_rest settings book unclear last =
    record { settings = settings; line_up = false; registered = false; running = None; book = book; unclear = unclear; last_outcome = last }

-- why no till has these rows
abbrev pub IsUnrestored : RestoreError → List Entry → List (ℕ × Cause) → Type 0
IsUnrestored Impossible book unclear = CanStand book unclear → ⊥
IsUnrestored Memory book unclear = Unit {0}
