-- The card of an order, as it is shown.
use Rattle.std.specs.Prelude.{◌≡◌, ℕ, ◌+◌, ◌/◌, ◌%◌, ◌==◌, nat_le, ◌||◌, Bool, cond, List, [], ◌∷◌, ◌++◌, codes, replicate, Option, Some, None, unwrap_or, refl}
use Rattle.std.specs.List.{flat_map, list_any}
use Rattle.hex.specs.Hex.{encode_with}
use Rattle.zvt_text.specs.Bytes.{hex_of, is_plain}
use Rattle.zvt_text.specs.Meanings.{card_type_name}
use Rattle.zvt_report.specs.Cards.{is_character}
use Rattle.zvt_report.specs.declared.cards.Card.{Card}

-- ---- numbers

-- a decimal digit, the mask, or nothing for the filler
abbrev pub digit_text : (digit : ℕ) → List ℕ
digit_text digit = cond (nat_le digit 9) ((48 + digit) ∷ []) (cond (digit == 14) (codes "E") [])

abbrev pub digits_text : (byte : ℕ) → List ℕ
digits_text byte = digit_text (byte / 16) ++ digit_text (byte % 16)

-- a number as it was received
abbrev pub number_text : List ℕ → List ℕ
number_text bytes = flat_map digits_text bytes

abbrev pub is_mask : (digit : ℕ) → Bool
is_mask digit = digit == 14

-- a byte with a mask
abbrev pub hides : (byte : ℕ) → Bool
hides byte = is_mask (byte / 16) || is_mask (byte % 16)

-- the digit of this byte after its last mask
abbrev pub last_digit : (byte : ℕ) → List ℕ
last_digit byte = cond (is_mask (byte % 16)) [] (digit_text (byte % 16))

-- the digits after the last mask
abbrev pub shown_digits : List ℕ → List ℕ
shown_digits [] = []
shown_digits (byte ∷ rest) = cond (list_any hides rest) (shown_digits rest) (last_digit byte ++ number_text rest)

abbrev pub number_part : Option (List ℕ) → List ℕ
number_part None = []
number_part (Some number) = codes " .." ++ shown_digits number

-- ---- names

-- the character of a byte of a name; `slash` comes before the hexadecimal digits of a byte that is not as it is
abbrev pub character_text : (slash : List ℕ) → (byte : ℕ) → List ℕ
character_text slash byte = cond (is_character byte) (cond (is_plain byte) (byte ∷ []) (slash ++ hex_of byte)) []

abbrev pub characters : (slash : List ℕ) → List ℕ → List ℕ
characters slash bytes = flat_map (character_text slash) bytes

abbrev pub type_text : Option ℕ → List ℕ
type_text None = codes "card"
type_text (Some card_type) = unwrap_or (card_type_name card_type) []

-- the name, or else that of the type
abbrev pub name_text : (card_type : Option ℕ) → (name : Option (List ℕ)) → List ℕ
name_text card_type None = type_text card_type
name_text card_type (Some name) = characters (codes "\\x") name

-- ---- a card

abbrev pub card_text : Card → List ℕ
card_text card = name_text card.card_type card.name ++ number_part card.number

unfoldable pub card_or_dash : Option Card → List ℕ
card_or_dash None = codes "-"
card_or_dash (Some card) = card_text card

unfoldable pub card_or_nothing : Option Card → List ℕ
card_or_nothing None = []
card_or_nothing (Some card) = card_text card

-- ---- rows worked by hand

abbrev a_number : List ℕ
a_number = 0x67 ∷ 0x26 ∷ 0xEE ∷ 0xEE ∷ 0xEE ∷ 0xEE ∷ 0x12 ∷ 0x34 ∷ 0x0F ∷ 0xFF ∷ []

abbrev a_card : Option (List ℕ) → Option Card
a_card name = Some (record { card_type = Some 5; name = name; number = Some a_number })

as_received : number_text a_number ≡ codes "6726EEEEEEEE12340"
as_received = refl

by_its_name : card_or_dash (a_card (Some (codes "Gir\\" ++ 0x94 ∷ replicate 19 0))) ≡ codes "Gir\\x5C\\x94 ..12340"
unfolding card_or_dash encode_with
by_its_name = refl

by_its_type : card_or_dash (a_card None) ≡ codes "girocard ..12340"
unfolding card_or_dash card_type_name
by_its_type = refl

half_a_byte : shown_digits (0x67 ∷ 0xEE ∷ 0xEE ∷ 0xE3 ∷ 0x45 ∷ 0xFF ∷ []) ≡ codes "345"
half_a_byte = refl
