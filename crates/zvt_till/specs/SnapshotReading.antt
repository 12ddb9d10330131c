-- The meaning of codes.
use Rattle.std.specs.Prelude.{◌≡◌, ℕ, ◌==◌, cond, List, [], ◌∷◌, Option, Some, None, find, option_map}
use Rattle.zvt_till.specs.declared.entries.Doubt.{Doubt}
use Rattle.zvt_till.specs.declared.entries.Doubt.TheVariants.{No, Unclear as UnclearReversal, TakenBack}
use Rattle.zvt_till.specs.declared.entries.Entry.{Entry}
use Rattle.zvt_till.specs.declared.outcomes.Cause.{Cause}
use Rattle.zvt_till.specs.declared.outcomes.Cause.TheVariants.{NoStatus, Conflict, AmountDiffers, NoTrace, TraceUsed, AbortAfterApproval, Line, Malformed, Unfinished, WrongCurrency}
use Rattle.zvt_till.specs.declared.outcomes.Outcome.{Outcome}
use Rattle.zvt_till.specs.declared.outcomes.Outcome.TheVariants.{Registered, Paid, Declined, Refused, Aborted, Unclear, Reversed, DayClosed}
use Rattle.zvt_till.specs.Till.{TillState}
use Rattle.zvt_till.specs.declared.snapshot.layouts.Layout.{Layout}
use Rattle.zvt_till.specs.declared.snapshot.layouts.Layout.TheVariants.{First, Second}
use Rattle.zvt_till.specs.SnapshotEncoded.{HasNoDoubts, IsEntry}

-- the causes by their numbers
abbrev pub causes : List (ℕ × Cause)
causes =
    (1, NoStatus) ∷ (2, Conflict) ∷ (3, AmountDiffers) ∷ (4, NoTrace) ∷ (5, TraceUsed) ∷ (6, AbortAfterApproval) ∷ (7, Line) ∷ (8, Malformed)
    ∷ (9, Unfinished) ∷ (10, WrongCurrency) ∷ []

abbrev pub cause_from : ℕ → Option Cause
cause_from code = option_map (λ row. row.1) (find (λ row. row.0 == code) causes)

abbrev pub doubt_from : ℕ → Option Doubt
doubt_from code = cond (code == 0) (Some No) (cond (code == 11) (Some TakenBack) (option_map UnclearReversal (cause_from code)))

-- a doubt that the layout holds
abbrev pub HasDoubtOf : Layout → Doubt → Type 0
HasDoubtOf First doubt = doubt ≡ No
HasDoubtOf Second doubt = Unit {0}

-- an entry that the layout holds
abbrev pub HasRowOf : Layout → Entry → Type 0
HasRowOf layout entry = IsEntry entry × HasDoubtOf layout entry.doubt

-- the states that the layout holds
abbrev pub IsOfLayout : Layout → TillState → Type 0
IsOfLayout First s = HasNoDoubts s
IsOfLayout Second s = Unit {0}

-- the outcomes by their kinds, with their values; there is no unclear outcome if the code is not a cause's
abbrev pub outcomes : (code trace : ℕ) → Option (List ℕ) → List (ℕ × Option (Option Outcome))
outcomes code trace receipt =
    (0, Some None) ∷ (1, Some (Some Registered)) ∷ (2, Some (Some (Paid trace receipt))) ∷ (3, Some (Some (Declined code)))
    ∷ (4, Some (Some (Refused code))) ∷ (5, Some (Some (Aborted code))) ∷ (6, option_map (λ cause. Some (Unclear cause)) (cause_from code))
    ∷ (7, Some (Some Reversed)) ∷ (8, Some (Some DayClosed)) ∷ []

abbrev pub found : Option (ℕ × Option (Option Outcome)) → Option (Option Outcome)
found None = None
found (Some row) = row.1

abbrev pub outcome_from : (kind code trace : ℕ) → Option (List ℕ) → Option (Option Outcome)
outcome_from kind code trace receipt = found (find (λ row. row.0 == kind) (outcomes code trace receipt))
