-- The card of the last order: its name, and its number with all digits hidden but the first six and the last four
-- (PA00P015, list of bitmaps: 22 card number, 8B card name).
use Rattle.std.specs.Prelude.{◌≡◌, ◌≤◌, ℕ, count_by, ◌+◌, ◌-◌, ◌/◌, ◌%◌, ◌==◌, nat_lt, nat_le, Bool, true, false, cond, if◌then◌else◌, List, [], ◌∷◌, ◌++◌, map, take, drop, replicate, length, Option, Some, None, codes}
use Rattle.std.specs.Char.{is_ascii_digit}
use Rattle.zvt_field.specs.Grammar.{Field, plain}
use Rattle.zvt_field.specs.Named.{content_of}
use Rattle.zvt_apdu.specs.Message.{Message, status, completion}
use Rattle.zvt_till.specs.declared.orders.Order.{Order}
use Rattle.zvt_till.specs.declared.orders.Order.TheVariants.{Register, Pay, Reverse, CloseDay, Cancel}
use Rattle.zvt_c.specs.declared.session.Session.{Session}

-- ---- the number

-- The digits before the first F, which fills up the last byte. E stands for a digit that the terminal hides.
abbrev pub digits_in : List ℕ → List ℕ
digits_in [] = []
digits_in (byte ∷ bytes) = if byte / 16 == 15 then [] else byte / 16 ∷ (if byte % 16 == 15 then [] else byte % 16 ∷ digits_in bytes)

-- A digit as a character, or an asterisk for anything else.
abbrev pub symbol : ℕ → ℕ
symbol digit = if nat_lt digit 10 then 48 + digit else 42

-- The number of digits between the first six and the last four.
abbrev pub between : List ℕ → ℕ
between digits = length digits - 10

abbrev pub masked : List ℕ → List ℕ
masked digits = map symbol (take 6 digits) ++ replicate (between digits) 42 ++ map symbol (drop (6 + between digits) digits)

-- however many digits the terminal sends
abbrev pub FewDigitsShow : Type 0
FewDigitsShow = (digits : List ℕ) → count_by is_ascii_digit (masked digits) ≤ 10

-- ---- the name

-- The bytes before the first zero.
abbrev pub before_zero : List ℕ → List ℕ
before_zero [] = []
before_zero (byte ∷ bytes) = if byte == 0 then [] else byte ∷ before_zero bytes

-- ---- the card

-- A content that a length of two digits can have.
abbrev pub short : Option (List ℕ) → List ℕ
short None = []
short (Some content) = if nat_le (length content) 99 then content else []

-- The content of the field with this BMP, if it appears exactly once.
abbrev pub content_in : (bmp : ℕ) → List Field → List ℕ
content_in bmp fields = short (content_of bmp fields)

abbrev pub no_card : List ℕ × List ℕ
no_card = ([], [])

-- The card that the fields of a status information name.
abbrev pub card_of : List Field → List ℕ × List ℕ
card_of fields = (before_zero (content_in 0x8B fields), masked (digits_in (content_in 0x22 fields)))

-- The card after a message: the last status information of a running order names it.
abbrev pub heard_card : (running : Bool) → Message → List ℕ × List ℕ → List ℕ × List ℕ
heard_card running (status fields) card = cond running (card_of fields) card
heard_card running _ card = card

-- The card after an order: each order but a cancellation begins without one.
abbrev pub ordered_card : Order → List ℕ × List ℕ → List ℕ × List ℕ
ordered_card Register card = no_card
ordered_card (Pay amount) card = no_card
ordered_card (Reverse entry) card = no_card
ordered_card CloseDay card = no_card
ordered_card Cancel card = card

-- The name and the number of a handle's card, if there is one.
abbrev pub name_held : Option Session → List ℕ
name_held None = []
name_held (Some end) = end.card.0

abbrev pub number_held : Option Session → List ℕ
number_held None = []
number_held (Some end) = end.card.1

-- ---- worked rows

-- masked by the terminal
abbrev pub girocard : List Field
girocard = plain 0x22 (0x67 ∷ 0x26 ∷ 0xEE ∷ 0xEE ∷ 0xEE ∷ 0xEE ∷ 0x12 ∷ 0x34 ∷ []) ∷ plain 0x8B (codes "girocard" ++ 0 ∷ []) ∷ []

-- 19 digits, which the terminal does not mask
abbrev pub unmasked : List Field
unmasked = plain 0x22 (0x67 ∷ 0x26 ∷ 0x12 ∷ 0x34 ∷ 0x56 ∷ 0x78 ∷ 0x90 ∷ 0x12 ∷ 0x34 ∷ 0x5F ∷ []) ∷ []

abbrev pub CardRows : Type 0
CardRows =
    (card_of girocard ≡ (codes "girocard", codes "6726********1234")) ×
    (card_of unmasked ≡ ([], codes "672612*********2345")) ×
    (card_of (plain 0x22 (0x12 ∷ 0x34 ∷ 0x56 ∷ 0x78 ∷ 0x90 ∷ []) ∷ []) ≡ ([], codes "1234567890")) ×
    (card_of (plain 0x8B (codes "A") ∷ plain 0x8B (codes "B") ∷ []) ≡ no_card) ×
    (heard_card false (status girocard) no_card ≡ no_card) ×
    (heard_card true (completion girocard) no_card ≡ no_card)
