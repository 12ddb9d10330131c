-- Long numbers in printed texts. Only their last four digits are shown, since they may be the numbers of cards or accounts.
use Rattle.std.specs.Prelude.{◌≡◌, ℕ, ◌+◌, ◌==◌, ◌&&◌, ◌||◌, nat_le, not, Bool, true, false, cond, List, [], ◌∷◌, codes, refl}
use Rattle.zvt_report.specs.declared.masking.Character.{Character}
use Rattle.zvt_report.specs.declared.masking.Character.TheVariants.{Digit, Joint, Other}

-- ---- characters

abbrev pub is_digit : ℕ → Bool
is_digit c = nat_le 48 c && nat_le c 57

-- a blank, a dash or a dot
abbrev pub is_joint : ℕ → Bool
is_joint c = c == 32 || c == 45 || c == 46

-- a number goes on after one joint, but not after two
abbrev pub character_of : (joined : Bool) → ℕ → Character
character_of joined c = cond (is_digit c) Digit (cond (is_joint c && not joined) Joint Other)

abbrev pub joins : Character → Bool
joins Digit = false
joins Joint = true
joins Other = false

abbrev pub digits_of : Character → ℕ
digits_of Digit = 1
digits_of Joint = 0
digits_of Other = 0

abbrev pub goes_on : Character → Bool
goes_on Digit = true
goes_on Joint = true
goes_on Other = false

-- ---- numbers

-- the digits with which a number goes on, after a joint or not
abbrev pub digits_ahead : (joined : Bool) → List ℕ → ℕ
digits_ahead joined [] = 0
digits_ahead joined (c ∷ rest) = cond (goes_on (character_of joined c)) (digits_of (character_of joined c) + digits_ahead (joins (character_of joined c)) rest) 0

-- a digit after that many others of its number is hidden in a number of 13 digits or more, unless it is one of the last four
abbrev pub hides : (before ahead : ℕ) → Bool
hides before ahead = nat_le 4 ahead && nat_le 13 (before + 1 + ahead)

-- the character itself, or an asterisk for a hidden digit
abbrev pub shown_as : Character → (before c : ℕ) → (rest : List ℕ) → ℕ
shown_as Digit before c rest = cond (hides before (digits_ahead false rest)) 42 c
shown_as Joint before c rest = c
shown_as Other before c rest = c

-- the digits of the number so far
abbrev pub digits_before : Character → (before : ℕ) → ℕ
digits_before Digit before = before + 1
digits_before Joint before = before
digits_before Other before = 0

-- a text after that many digits of a number, and after a joint or not
abbrev pub masked_from : (before : ℕ) → (joined : Bool) → List ℕ → List ℕ
masked_from before joined [] = []
masked_from before joined (c ∷ rest) =
    shown_as (character_of joined c) before c rest ∷ masked_from (digits_before (character_of joined c) before) (joins (character_of joined c)) rest

abbrev pub masked : List ℕ → List ℕ
masked text = masked_from 0 false text

-- ---- rows worked by hand

a_card_number : masked (codes "Karte 4761 7390 0101 0010 OK") ≡ codes "Karte **** **** **** 0010 OK"
a_card_number = refl

thirteen_digits : masked (codes "1234567890123") ≡ codes "*********0123"
thirteen_digits = refl

-- two blanks end a number
twelve_digits : masked (codes "123456789012  3") ≡ codes "123456789012  3"
twelve_digits = refl

-- a short number with a date after it
a_date : masked (codes "6726########12340 28.11.26") ≡ codes "6726########12340 28.11.26"
a_date = refl
