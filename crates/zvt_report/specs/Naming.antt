-- Which payment a reversal takes back that names a receipt number.
use Rattle.std.specs.Prelude.{◌≡◌, ℕ, ◌+◌, Bool, false, cond, List, [], ◌∷◌, Option, Some, None, refl}
use Rattle.std.specs.Str.{bytes_eq}
use Rattle.zvt_till.specs.declared.entries.Doubt.TheVariants.{No}
use Rattle.zvt_till.specs.declared.entries.Entry.{Entry}
use Rattle.zvt_till.specs.declared.happenings.Sent.{Sent}
use Rattle.zvt_till.specs.declared.happenings.Sent.TheVariants.{Reverse, Foreign}
use Rattle.zvt_report.specs.Laws.{IsOfEntry}

abbrev pub has_receipt : List ℕ → Entry → Bool
has_receipt receipt entry = elim entry.receipt [ None ↦ false | Some own ↦ bytes_eq own receipt ]

-- the place of the last entry with this receipt number, if there is one, where the first entry here has this place
abbrev pub last_with : List ℕ → (place : ℕ) → List Entry → Option ℕ
last_with receipt place [] = None
last_with receipt place (entry ∷ book) =
    elim (last_with receipt (place + 1) book) [ None ↦ cond (has_receipt receipt entry) (Some place) None | Some later ↦ Some later ]

abbrev pub reversing_at : Option ℕ → Sent
reversing_at None = Foreign
reversing_at (Some place) = Reverse place

-- A reversal takes back the last payment of the book with its receipt number, since receipt numbers begin anew. A reversal of
-- any other payment is an order that the book doesn't know.
abbrev pub reversing : List Entry → Option (List ℕ) → Sent
reversing book None = Foreign
reversing book (Some receipt) = reversing_at (last_with receipt 0 book)

-- ---- a law

-- a reversal of the last payment with some receipt number takes back an entry of the book
abbrev pub ReversalsNameEntries : Type 0
ReversalsNameEntries = (book : List Entry) (receipt : Option (List ℕ)) → IsOfEntry book (reversing book receipt)

-- ---- rows worked by hand

abbrev receipted : ℕ → Entry
receipted low = record { amount = 500; trace = low; receipt = Some (0 ∷ low ∷ []); reversed = false; doubt = No }

-- of two equal numbers the later one counts
began_anew : reversing (receipted 7 ∷ receipted 8 ∷ receipted 7 ∷ receipted 9 ∷ []) (Some (0 ∷ 7 ∷ [])) ≡ Reverse 2
began_anew = refl

unknown_payment : reversing (receipted 7 ∷ []) (Some (0 ∷ 8 ∷ [])) ≡ Foreign
unknown_payment = refl
