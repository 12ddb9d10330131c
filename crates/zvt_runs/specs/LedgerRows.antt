-- Reports of the rows that a ledger got from a till.
use Rattle.std.specs.Prelude.{◌≡◌, ℕ, List, [], ◌∷◌, ◌++◌, codes, refl, Option, Some, None}
use Rattle.std.specs.Fmt.{decimal, digits}
use Rattle.std.specs.List.{flat_map}
use Rattle.json.specs.Print.{escape_byte}
use Rattle.serde_json.specs.Data.{Data, object, no_members, member}
use Rattle.zvt_json.specs.Strings.{count_value, line_text}
use Rattle.zvt_text.specs.declared.form.Form.{Form}
use Rattle.zvt_text.specs.declared.form.Form.TheVariants.{Text, Json}
use Rattle.zvt_term.specs.declared.ledger.Row.{Row}

-- an approval of an amount, with this number as trace and receipt number
abbrev pub approved_text : (number amount : ℕ) → List ℕ
approved_text number amount = codes "zvt: approved " ++ decimal amount ++ codes " as number " ++ decimal number ++ 10 ∷ []

-- the approval with the original number was reversed
abbrev pub reversed_text : (number original amount : ℕ) → List ℕ
reversed_text number original amount = codes "zvt: took back " ++ decimal amount ++ codes " of number " ++ decimal original ++ codes " as number " ++ decimal number ++ 10 ∷ []

abbrev pub approved_value : (till number amount : ℕ) → Data
approved_value till number amount =
    object (member (codes "approved") (count_value amount) (member (codes "number") (count_value number) (member (codes "till") (count_value till) no_members)))

abbrev pub reversed_value : (till number original amount : ℕ) → Data
reversed_value till number original amount =
    object (member (codes "number") (count_value number) (member (codes "original") (count_value original)
    (member (codes "reversed") (count_value amount) (member (codes "till") (count_value till) no_members))))

-- the line of a row with this number and amount, in this form
abbrev pub row_line : Form → (till number amount : ℕ) → (reverses : Option ℕ) → List ℕ
row_line Text till number amount None = approved_text number amount
row_line Text till number amount (Some original) = reversed_text number original amount
row_line Json till number amount None = line_text (approved_value till number amount)
row_line Json till number amount (Some original) = line_text (reversed_value till number original amount)

-- a line for each row
abbrev pub rows_text : Form → (till : ℕ) → List Row → List ℕ
rows_text form till rows = flat_map (λ row. row_line form till row.number row.amount row.reverses) rows

-- ---- lines worked by hand

an_approval : row_line Text 1 1 1000 None ≡ codes "zvt: approved 1000 as number 1\n"
unfolding digits
an_approval = refl

a_reversal : row_line Text 1 2 1000 (Some 1) ≡ codes "zvt: took back 1000 of number 1 as number 2\n"
unfolding digits
a_reversal = refl

approval_json : row_line Json 3 1 1000 None ≡ codes "{\"approved\":1000,\"number\":1,\"till\":3}\n"
unfolding digits escape_byte
approval_json = refl

reversal_json : row_line Json 3 2 1000 (Some 1) ≡ codes "{\"number\":2,\"original\":1,\"reversed\":1000,\"till\":3}\n"
unfolding digits escape_byte
reversal_json = refl
