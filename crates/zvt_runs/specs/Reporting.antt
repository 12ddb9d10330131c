-- The reports of a run: the notes on its steps, and the unclear reversals of its book.
use Rattle.std.specs.Prelude.{◌≡◌, ◌⊎◌, ◌+◌, ℕ, Bool, true, false, List, [], ◌++◌, codes, flat_map, Option}
use Rattle.std.specs.Fmt.{decimal}
use Rattle.std.specs.Io.KnownBytes.{Appends, Keeps}
use Rattle.zvt_io.specs.Devices.{IsPrefix}
use Rattle.zvt_till.specs.Doubts.{unclear_reversals}
use Rattle.zvt_till.specs.Names.{cause_name}
use Rattle.zvt_till.specs.declared.entries.Doubt.TheVariants.{No, Unclear, TakenBack}
use Rattle.zvt_till.specs.declared.entries.Entry.{Entry}
use Rattle.zvt_till.specs.declared.outcomes.Cause.{Cause}

-- The text was written or, if the device failed, a prefix of it.
abbrev pub Reports : List ℕ → (old new : Option (List ℕ)) → (failures_before failures_after : ℕ) → Type 0
Reports text old new before after = ((after ≡ before) × Appends old new text) ⊎ ((after ≡ before + 1) × (part : List ℕ) × IsPrefix part text × Appends old new part)

-- The whole text was reported; or the device failed and gets nothing more.
abbrev pub ReportedSoFar : (works : Bool) → (old new : Option (List ℕ)) → (before after : ℕ) → List ℕ → Type 0
ReportedSoFar true old new before after text = (after ≡ before) × Appends old new text
ReportedSoFar false old new before after text = (after ≡ before + 1) × (part : List ℕ) × IsPrefix part text × Appends old new part

-- the line of an unclear reversal of the entry of this number, counted from 1
abbrev pub reversal_text : ℕ → Cause → List ℕ
reversal_text number cause =
    codes "zvt: reverse:" ++ (decimal number ++ (codes " is unclear (" ++ (cause_name cause
    ++ codes "): the terminal may have reversed the payment or not: check its journal before you refund the amount\n")))

-- the line of the entry with this number, if its last reversal is unclear
abbrev pub entry_text : ℕ → Entry → List ℕ
entry_text number entry = elim entry.doubt [ No ↦ [] | Unclear cause ↦ reversal_text number cause | TakenBack ↦ [] ]

-- a line for each, by the index in the book
abbrev pub reversals_text : List (ℕ × Cause) → List ℕ
reversals_text rows = flat_map (λ row. reversal_text (row.0 + 1) row.1) rows

-- The unclear reversals of this book were reported.
abbrev pub ReportsReversals : (old new : Option (List ℕ)) → (failures_before failures_after : ℕ) → List Entry → Type 0
ReportsReversals old new before after book = Reports (reversals_text (unclear_reversals book)) old new before after

-- The notes on the steps of a run were reported, and then the unclear reversals of its book.
pub record ReportsRun (old new : Option (List ℕ)) (failures_before failures_after : ℕ) (notes : List ℕ) (book : List Entry) : Type 0 where
  pub between : Option (List ℕ)
  pub failures : ℕ
  pub noted : Reports notes old between failures_before failures
  pub reversals : ReportsReversals between new failures failures_after book

-- nothing was reported
abbrev pub ReportsNothing : (old new : Option (List ℕ)) → (failures_before failures_after : ℕ) → Type 0
ReportsNothing old new before after = Keeps old new × (after ≡ before)
