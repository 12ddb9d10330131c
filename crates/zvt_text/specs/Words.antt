-- Words that people write: prefixes, forms, and numbers in decimal digits.
use Rattle.std.specs.Prelude.{◌≡◌, ℕ, ◌&&◌, ◌==◌, Bool, true, false, cond, if◌then◌else◌, nat_lt, nat_le, List, [], ◌∷◌, codes, length, take, drop, Option, Some, None}
use Rattle.std.specs.Char.{is_ascii_digit}
use Rattle.std.specs.List.{list_all}
use Rattle.std.specs.Str.{bytes_eq}
use Rattle.std.specs.Str.Parse.{digits_value}

-- what follows this prefix, where the word begins with it
abbrev pub trailing : (prefix word : List ℕ) → Option (List ℕ)
trailing prefix word = cond (bytes_eq (take (length prefix) word) prefix) (Some (drop (length prefix) word)) None

-- at least one, and at most so many
abbrev pub is_count : (most count : ℕ) → Bool
is_count most count = nat_lt 0 count && nat_le count most

-- decimal digits, at least one and at most so many
abbrev pub is_number : (most : ℕ) → List ℕ → Bool
is_number most digits = is_count most (length digits) && list_all is_ascii_digit digits

-- the number that at most so many decimal digits spell
abbrev pub number_in : (most : ℕ) → List ℕ → Option ℕ
number_in most digits = cond (is_number most digits) (Some (digits_value 10 digits)) None

-- a byte that fits a place of a form: any digit for a 0, and otherwise the byte itself
abbrev pub fits_place : (place byte : ℕ) → Bool
fits_place place byte = if place == 48 then is_ascii_digit byte else byte == place

-- a text has this form
abbrev pub fits : (form text : List ℕ) → Bool
fits [] [] = true
fits [] (byte ∷ text) = false
fits (place ∷ form) [] = false
fits (place ∷ form) (byte ∷ text) = fits_place place byte && fits form text

-- ---- worked rows

abbrev pub WordRows : Type 0
WordRows =
    (trailing (codes "pay:") (codes "pay:12") ≡ Some (codes "12")) ×
    (trailing (codes "pay:") (codes "pay") ≡ None) ×
    (number_in 2 (codes "07") ≡ Some 7) ×
    (number_in 12 (codes "999999999999") ≡ Some 999999999999) ×
    (number_in 2 (codes "123") ≡ None) ×
    (number_in 2 [] ≡ None) ×
    (number_in 2 (codes "1a") ≡ None) ×
    (number_in 2 (codes "+1") ≡ None) ×
    (fits (codes "00:00Z") (codes "09:14Z") ≡ true) ×
    (fits (codes "00:00Z") (codes "09:14") ≡ false) ×
    (fits (codes "00:00Z") (codes "0A:14Z") ≡ false)
