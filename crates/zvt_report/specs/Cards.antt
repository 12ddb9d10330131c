-- The card of an order.
use Rattle.std.specs.Prelude.{◌≡◌, ℕ, ◌+◌, ◌-◌, ◌/◌, ◌%◌, ◌==◌, nat_le, ◌&&◌, ◌||◌, not, Bool, true, false, cond, List, [], ◌∷◌, ◌++◌, codes, length, replicate, Option, Some, None, sum_by, refl}
use Rattle.std.specs.List.{list_all, list_any}
use Rattle.std.specs.Option.{option_and_then, option_map}
use Rattle.zvt_text.specs.Meanings.{card_type_name}
use Rattle.zvt_report.specs.declared.cards.Card.{Card}

-- ---- numbers

abbrev pub one_if : Bool → ℕ
one_if true = 1
one_if false = 0

abbrev pub is_within : (least most digit : ℕ) → Bool
is_within least most digit = nat_le least digit && nat_le digit most

-- how many of the two digits of a byte are from this one to that one
abbrev pub digits_by : (least most byte : ℕ) → ℕ
digits_by least most byte = one_if (is_within least most (byte / 16)) + one_if (is_within least most (byte % 16))

abbrev pub digits_in : (least most : ℕ) → List ℕ → ℕ
digits_in least most bytes = sum_by (digits_by least most) bytes

-- a decimal digit, or the mask E
abbrev pub is_shown : (digit : ℕ) → Bool
is_shown digit = nat_le digit 9 || (digit == 14)

abbrev pub is_filler : (byte : ℕ) → Bool
is_filler byte = byte == 0xFF

-- the byte in which the filler F begins
abbrev pub begins_filler : (byte : ℕ) → Bool
begins_filler byte = is_shown (byte / 16) || is_filler byte

-- decimal digits and masks, and the filler F at the end alone
abbrev pub is_filled : List ℕ → Bool
is_filled [] = true
is_filled (byte ∷ rest) =
    cond (byte % 16 == 15) (begins_filler byte && list_all is_filler rest) ((is_shown (byte / 16) && is_shown (byte % 16)) && is_filled rest)

-- at least four masks, and at most ten decimal digits
abbrev pub is_masked : List ℕ → Bool
is_masked bytes = nat_le (length bytes) 10 && (is_filled bytes && (nat_le 4 (digits_in 14 14 bytes) && nat_le (digits_in 0 9 bytes) 10))

-- ---- what is kept of a status

-- these bytes, and others after them up to this width
abbrev pub padded : (width filler : ℕ) → List ℕ → List ℕ
padded width filler bytes = bytes ++ replicate (width - length bytes) filler

-- a number that is not masked is not kept
abbrev pub number_of : List ℕ → Option (List ℕ)
number_of bytes = cond (is_masked bytes) (Some (padded 10 0xFF bytes)) None

-- a byte of a text that stands for a character
abbrev pub is_character : (byte : ℕ) → Bool
is_character byte = nat_le 0x20 byte && not (byte == 0x7F)

-- a name of at most 24 bytes, if it has a character
abbrev pub name_of : List ℕ → Option (List ℕ)
name_of bytes = cond (nat_le (length bytes) 24 && list_any is_character bytes) (Some (padded 24 0 bytes)) None

-- a type that has a name
abbrev pub type_of : List ℕ → Option ℕ
type_of [] = None
type_of (one ∷ []) = option_map (λ (name : List ℕ). one) (card_type_name one)
type_of (one ∷ two ∷ more) = None

-- a card, if anything about it is known
abbrev pub known_card : (card_type : Option ℕ) → (name number : Option (List ℕ)) → Option Card
known_card None None None = None
known_card card_type name number = Some (record { card_type = card_type; name = name; number = number })

-- the card that BMP 8A, 8B and 22 name
abbrev pub card_in : (card_type name number : Option (List ℕ)) → Option Card
card_in card_type name number = known_card (option_and_then type_of card_type) (option_and_then name_of name) (option_and_then number_of number)

-- the masked number of a card
abbrev pub card_number : Option Card → Option (List ℕ)
card_number card = option_and_then (λ (c : Card). c.number) card

-- ---- rows worked by hand

abbrev a_number : List ℕ
a_number = 0x67 ∷ 0x26 ∷ 0xEE ∷ 0xEE ∷ 0xEE ∷ 0xEE ∷ 0x12 ∷ 0x34 ∷ 0x0F ∷ []

masked : number_of a_number ≡ Some (a_number ++ 0xFF ∷ [])
masked = refl

whole_number : number_of (0x67 ∷ 0x26 ∷ 0x12 ∷ 0x34 ∷ 0x56 ∷ 0x78 ∷ 0x12 ∷ 0x34 ∷ 0x0F ∷ []) ≡ None
whole_number = refl

three_masks : number_of (0x67 ∷ 0xEE ∷ 0xE1 ∷ []) ≡ None
three_masks = refl

eleven_digits : number_of (0x67 ∷ 0x26 ∷ 0x12 ∷ 0xEE ∷ 0xEE ∷ 0x12 ∷ 0x34 ∷ 0x5F ∷ []) ≡ None
eleven_digits = refl

filler_inside : number_of (0x67 ∷ 0xEE ∷ 0xEE ∷ 0x0F ∷ 0x12 ∷ []) ≡ None
filler_inside = refl

no_digit : number_of (0x67 ∷ 0xEE ∷ 0xEE ∷ 0x0A ∷ []) ≡ None
no_digit = refl

only_zeros : name_of (0 ∷ 0 ∷ []) ≡ None
only_zeros = refl

longer_name : name_of (replicate 25 65) ≡ None
longer_name = refl

abbrev a_card : Option (List ℕ) → Option (List ℕ) → Option Card
a_card name number = Some (record { card_type = None; name = name; number = number })

-- a type without a name, and a name that ends with a zero
a_named_card : card_in (Some (0x05 ∷ 0x05 ∷ [])) (Some (codes "VISA" ++ 0 ∷ [])) (Some a_number) ≡ a_card (Some (codes "VISA" ++ replicate 20 0)) (Some (a_number ++ 0xFF ∷ []))
a_named_card = refl

no_card : card_in None None (Some (0x67 ∷ 0x26 ∷ [])) ≡ None
no_card = refl
