-- What the message of an order says beside the order itself.
use Rattle.std.specs.Prelude.{◌≡◌, ℕ, ◌==◌, Bool, true, false, cond, ◌||◌, List, [], ◌∷◌, Option, Some, None, drop, slice_index, refl}
use Rattle.std.specs.Option.{option_and_then}
use Rattle.zvt_grammar.specs.Reading.{padded}
use Rattle.zvt_field.specs.Grammar.{Field, FieldList, plain}
use Rattle.zvt_field.specs.Named.{amount_of, receipt_of}
use Rattle.zvt_apdu.specs.Message.{Message, other}
use Rattle.zvt_apdu.specs.Views.{control_of, fields_in}
use Rattle.zvt_report.specs.Kinds.{foreign_kind}
use Rattle.zvt_report.specs.declared.kinds.OrderKind.{OrderKind}
use Rattle.zvt_report.specs.declared.kinds.OrderKind.TheVariants.{Payment, Reversal, OtherMoney, Close, Plain}
use Rattle.zvt_report.specs.declared.rows.OrderMessage.{OrderMessage}

-- ---- messages that this library does not name, and that move money

abbrev pub is_other_money : OrderKind → Bool
is_other_money Payment = false
is_other_money Reversal = false
is_other_money OtherMoney = true
is_other_money Close = false
is_other_money Plain = false

-- an order that moves money and that the book does not follow: its data is fields, after a password in some
abbrev pub moves_money : (high low : ℕ) → Bool
moves_money high low = is_other_money (foreign_kind high low)

-- the reversal of a pre-authorisation, and a refund
abbrev pub has_password : (low : ℕ) → Bool
has_password low = (low == 0x25) || (low == 0x31)

-- the data after the three bytes of the password
abbrev pub listed_in : (low : ℕ) → (payload : List ℕ) → List ℕ
listed_in low payload = cond (has_password low) (drop 3 payload) payload

-- ---- the fields of a message

-- the fields that the data spells, if it spells fields
abbrev pub AreSpelledBy : List ℕ → Option (List Field) → Type 0
AreSpelledBy listed None = (fields : List Field) → FieldList padded fields listed → ⊥
AreSpelledBy listed (Some fields) = FieldList padded fields listed

abbrev pub AreListedIf : Bool → List ℕ → Option (List Field) → Type 0
AreListedIf true listed fields = AreSpelledBy listed fields
AreListedIf false listed fields = fields ≡ None

-- the fields of a message, also of one that this library does not name and that moves money
abbrev pub HasFields : Message → Option (List Field) → Type 0
HasFields (other high low payload) fields = AreListedIf (moves_money high low) (listed_in low payload) fields
HasFields m fields = fields ≡ fields_in m

-- ---- one order

-- the control bytes, and what the fields say
abbrev pub said_with : (control : List ℕ) → Option (List Field) → OrderMessage
said_with control fields =
    record {
      high = slice_index control 0;
      low = slice_index control 1;
      amount = option_and_then amount_of fields;
      receipt = option_and_then receipt_of fields;
    }

-- what the message of an order says
pub record IsSaidBy (m : Message) (said : OrderMessage) : Type 0 where
  pub fields : Option (List Field)
  pub has : HasFields m fields
  pub is : said ≡ said_with (control_of m) fields

-- ---- all orders

-- what these messages say, each in its place
abbrev pub AreSaidBy : List Message → List OrderMessage → Type 0
AreSaidBy [] [] = Unit {0}
AreSaidBy [] (said ∷ more) = ⊥
AreSaidBy (m ∷ messages) [] = ⊥
AreSaidBy (m ∷ messages) (said ∷ more) = IsSaidBy m said × AreSaidBy messages more

-- ---- rows worked by hand

a_refund : moves_money 0x06 0x31 ≡ true
a_refund = refl

a_reservation : moves_money 0x06 0x22 ≡ true
a_reservation = refl

-- the repetition of a receipt moves no money
a_repetition : moves_money 0x06 0x20 ≡ false
a_repetition = refl

-- a refund of 5.00 after a password
refunded : listed_in 0x31 (0x12 ∷ 0x34 ∷ 0x56 ∷ 0x04 ∷ 0 ∷ 0 ∷ 0 ∷ 0 ∷ 0x05 ∷ 0x00 ∷ []) ≡ 0x04 ∷ 0 ∷ 0 ∷ 0 ∷ 0 ∷ 0x05 ∷ 0x00 ∷ []
refunded = refl

-- a pre-authorisation has no password
reserved : listed_in 0x22 (0x04 ∷ 0 ∷ 0 ∷ 0 ∷ 0 ∷ 0x05 ∷ 0x00 ∷ []) ≡ 0x04 ∷ 0 ∷ 0 ∷ 0 ∷ 0 ∷ 0x05 ∷ 0x00 ∷ []
reserved = refl

said_of_a_refund : said_with (0x06 ∷ 0x31 ∷ []) (Some (plain 0x04 (0 ∷ 0 ∷ 0 ∷ 0 ∷ 0x05 ∷ 0x00 ∷ []) ∷ [])) ≡ record { high = 0x06; low = 0x31; amount = Some 500; receipt = None }
said_of_a_refund = refl
