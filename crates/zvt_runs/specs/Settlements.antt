-- What the asks of a book have settled: a line for each settlement, as text and as JSON.
use Rattle.std.specs.Prelude.{◌≡◌, ℕ, ◌+◌, List, [], ◌∷◌, ◌++◌, Option, Some, None, codes, refl}
use Rattle.std.specs.Fmt.{decimal, digits}
use Rattle.std.specs.List.{flat_map}
use Rattle.hex.specs.Hex.{encode_with}
use Rattle.json.specs.Print.{escape_byte}
use Rattle.serde_json.specs.Data.{Data, string, object, Members, no_members, member}
use Rattle.zvt_json.specs.Strings.{count_value, line_text}
use Rattle.zvt_text.specs.declared.form.Form.{Form}
use Rattle.zvt_text.specs.declared.form.Form.TheVariants.{Text, Json}
use Rattle.zvt_settle.specs.declared.deciding.Settlement.{Settlement}
use Rattle.zvt_settle.specs.declared.deciding.Settlement.TheVariants.{Paid, NotPaid, Reversed, NotReversed}
use Rattle.zvt_runs.specs.BookObjects.{receipt_part, trace_part, with_receipt, with_trace}
use Rattle.zvt_runs.specs.Named.{named_text}

-- ---- as text

-- a number that is counted from 1, between words
abbrev pub counted : (words : List ℕ) → (index : ℕ) → (more : List ℕ) → List ℕ
counted words index more = words ++ decimal (index + 1) ++ more

-- The unclear payment or the entry of the book that was settled, by its number among the lines of its kind; the name of the
-- settlement; and the numbers of a payment that was settled as paid.
abbrev pub settled_words : Settlement → List ℕ
settled_words (Paid row trace receipt) = counted (codes "settled unclear ") row (codes " Paid") ++ named_text (Some trace) receipt
settled_words (NotPaid row) = counted (codes "settled unclear ") row (codes " NotPaid")
settled_words (Reversed entry) = counted (codes "settled booked ") entry (codes " Reversed")
settled_words (NotReversed entry) = counted (codes "settled booked ") entry (codes " NotReversed")

abbrev pub settlement_text : Settlement → List ℕ
settlement_text settlement = settled_words settlement ++ 10 ∷ []

-- ---- as JSON

abbrev pub settled_as : Data → Data
settled_as what = object (member (codes "settled") what no_members)

abbrev pub unclear_member : (row : ℕ) → Members
unclear_member row = member (codes "unclear") (count_value (row + 1)) no_members

-- the name of the settlement and the number of the unclear payment
abbrev pub payment_settled : (name : List ℕ) → (receipt : Option (List ℕ)) → (trace : Option ℕ) → (row : ℕ) → Data
payment_settled name receipt trace row = object (member (codes "name") (string name) (with_receipt receipt (with_trace trace (unclear_member row))))

-- the number of the entry and the name of the settlement
abbrev pub reversal_settled : (name : List ℕ) → (entry : ℕ) → Data
reversal_settled name entry = object (member (codes "booked") (count_value (entry + 1)) (member (codes "name") (string name) no_members))

-- a settlement, by its name and its numbers
abbrev pub settled_value : Settlement → Data
settled_value (Paid row trace receipt) = payment_settled (codes "Paid") receipt (Some trace) row
settled_value (NotPaid row) = payment_settled (codes "NotPaid") None None row
settled_value (Reversed entry) = reversal_settled (codes "Reversed") entry
settled_value (NotReversed entry) = reversal_settled (codes "NotReversed") entry

abbrev pub settlement_value : Settlement → Data
settlement_value settlement = settled_as (settled_value settlement)

-- ---- in each form

abbrev pub settlement_line : Form → Settlement → List ℕ
settlement_line Text settlement = settlement_text settlement
settlement_line Json settlement = line_text (settlement_value settlement)

-- in the order of the answers
abbrev pub settled_lines : Form → List Settlement → List ℕ
settled_lines form settled = flat_map (settlement_line form) settled

-- ---- rows worked by hand

one_day : settled_lines Text (Paid 0 2 (Some (0x00 ∷ 0x02 ∷ [])) ∷ NotPaid 1 ∷ Reversed 0 ∷ NotReversed 4 ∷ Paid 2 7 None ∷ [])
    ≡ codes "settled unclear 1 Paid trace 000002 receipt 0002\nsettled unclear 2 NotPaid\nsettled booked 1 Reversed\nsettled booked 5 NotReversed\nsettled unclear 3 Paid trace 000007 receipt -\n"
unfolding digits encode_with
one_day = refl

the_same_day : settled_lines Json (Paid 0 2 (Some (0x00 ∷ 0x02 ∷ [])) ∷ NotPaid 1 ∷ Reversed 0 ∷ NotReversed 4 ∷ Paid 2 7 None ∷ [])
    ≡ codes "{\"settled\":{\"name\":\"Paid\",\"receipt\":\"0002\",\"trace\":2,\"unclear\":1}}\n{\"settled\":{\"name\":\"NotPaid\",\"unclear\":2}}\n"
    ++ codes "{\"settled\":{\"booked\":1,\"name\":\"Reversed\"}}\n{\"settled\":{\"booked\":5,\"name\":\"NotReversed\"}}\n{\"settled\":{\"name\":\"Paid\",\"trace\":7,\"unclear\":3}}\n"
unfolding digits escape_byte encode_with
the_same_day = refl

-- ---- the same texts, as they are written

unfoldable pub paid_json : (row trace : ℕ) → (receipt : Option (List ℕ)) → List ℕ
paid_json row trace receipt = codes "{\"name\":\"Paid\"" ++ receipt_part receipt ++ trace_part (Some trace) ++ counted (codes ",\"unclear\":") row (codes "}")

abbrev pub settled_json : Settlement → List ℕ
settled_json (Paid row trace receipt) = paid_json row trace receipt
settled_json (NotPaid row) = counted (codes "{\"name\":\"NotPaid\",\"unclear\":") row (codes "}")
settled_json (Reversed entry) = counted (codes "{\"booked\":") entry (codes ",\"name\":\"Reversed\"}")
settled_json (NotReversed entry) = counted (codes "{\"booked\":") entry (codes ",\"name\":\"NotReversed\"}")
