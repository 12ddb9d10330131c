-- The sum of the unclear payments that were settled as paid.
use Rattle.std.specs.Prelude.{◌≡◌, ℕ, ◌==◌, cond, false, List, [], ◌∷◌, ◌++◌, Option, Some, None, codes, refl, slice_get, sum_by}
use Rattle.std.specs.Fmt.{decimal, digits}
use Rattle.json.specs.Print.{escape_byte}
use Rattle.serde_json.specs.Data.{Data, object, no_members, member}
use Rattle.zvt_json.specs.Strings.{count_value, line_text}
use Rattle.zvt_text.specs.declared.form.Form.{Form}
use Rattle.zvt_text.specs.declared.form.Form.TheVariants.{Text, Json}
use Rattle.zvt_till.specs.Outcomes.{trace_used}
use Rattle.zvt_till.specs.declared.entries.Doubt.TheVariants.{No}
use Rattle.zvt_till.specs.declared.entries.Entry.{Entry}
use Rattle.zvt_till.specs.declared.outcomes.Cause.{Cause}
use Rattle.zvt_till.specs.declared.outcomes.Cause.TheVariants.{Line}
use Rattle.zvt_settle.specs.declared.deciding.Settlement.{Settlement}
use Rattle.zvt_settle.specs.declared.deciding.Settlement.TheVariants.{Paid, NotPaid, Reversed, NotReversed}
use Rattle.zvt_runs.specs.Settlements.{settled_lines}

abbrev pub amount_of : Option (ℕ × Cause) → ℕ
amount_of None = 0
amount_of (Some row) = row.0

-- the amount of a payment that was settled as paid, unless an entry of the book has its trace number
abbrev pub worth : List Entry → List (ℕ × Cause) → Settlement → ℕ
worth book unclear (Paid row trace receipt) = cond (trace_used trace book) 0 (amount_of (slice_get unclear row))
worth book unclear (NotPaid row) = 0
worth book unclear (Reversed entry) = 0
worth book unclear (NotReversed entry) = 0

abbrev pub settled_total : List Entry → List (ℕ × Cause) → List Settlement → ℕ
settled_total book unclear settled = sum_by (worth book unclear) settled

-- ---- its line, if it is not 0

abbrev pub total_line : Form → ℕ → List ℕ
total_line Text total = codes "settled as paid " ++ decimal total ++ 10 ∷ []
total_line Json total = line_text (object (member (codes "settled_total") (count_value total) no_members))

abbrev pub settled_sum : Form → ℕ → List ℕ
settled_sum form total = cond (total == 0) [] (total_line form total)

-- what the asks of a book have settled, and the sum of what was settled as paid
abbrev pub settled_part : Form → List Entry → List (ℕ × Cause) → List Settlement → List ℕ
settled_part form book unclear settled = settled_lines form settled ++ settled_sum form (settled_total book unclear settled)

-- ---- rows worked by hand

abbrev an_entry : Entry
an_entry = record { amount = 1000; trace = 7; receipt = None; reversed = false; doubt = No }

-- the second payment has the trace number of an entry
two_of_three : settled_total (an_entry ∷ []) ((500, Line) ∷ (60, Line) ∷ (7, Line) ∷ []) (Paid 0 2 None ∷ Paid 1 7 None ∷ Reversed 0 ∷ Paid 2 8 None ∷ NotPaid 1 ∷ []) ≡ 507
two_of_three = refl

its_line : settled_sum Text 507 ++ settled_sum Json 507 ++ settled_sum Text 0 ≡ codes "settled as paid 507\n{\"settled_total\":507}\n"
unfolding digits escape_byte
its_line = refl
