-- The words for a till's settings.
use Rattle.std.specs.Prelude.{ℕ, ◌+◌, ◌-◌, ◌*◌, ◌&&◌, cond, List, [], ◌∷◌, Option, Some, None}
use Rattle.std.specs.Char.{digit_value, is_ascii_digit, is_ascii_hexdigit}

-- a byte of two decimal digits
abbrev pub digits_of : ℕ → ℕ → Option ℕ
digits_of high low = cond (is_ascii_digit high && is_ascii_digit low) (Some ((high - 48) * 16 + (low - 48))) None

abbrev pub three : Option ℕ → Option ℕ → Option ℕ → Option (List ℕ)
three (Some a) (Some b) (Some c) = Some (a ∷ b ∷ c ∷ [])
three (Some a) (Some b) None = None
three (Some a) None c = None
three None b c = None

-- six decimal digits
abbrev pub password_of : List ℕ → Option (List ℕ)
password_of (a ∷ b ∷ c ∷ d ∷ e ∷ f ∷ []) = three (digits_of a b) (digits_of c d) (digits_of e f)
password_of [] = None
password_of (a ∷ []) = None
password_of (a ∷ b ∷ []) = None
password_of (a ∷ b ∷ c ∷ []) = None
password_of (a ∷ b ∷ c ∷ d ∷ []) = None
password_of (a ∷ b ∷ c ∷ d ∷ e ∷ []) = None
password_of (a ∷ b ∷ c ∷ d ∷ e ∷ f ∷ g ∷ more) = None

-- two hexadecimal digits
abbrev pub config_of : List ℕ → Option ℕ
config_of (high ∷ low ∷ []) = cond (is_ascii_hexdigit high && is_ascii_hexdigit low) (Some (digit_value high * 16 + digit_value low)) None
config_of [] = None
config_of (a ∷ []) = None
config_of (a ∷ b ∷ c ∷ more) = None

-- four decimal digits
abbrev pub number_of_four : ℕ → ℕ → ℕ → ℕ → ℕ
number_of_four a b c d = (a - 48) * 1000 + (b - 48) * 100 + (c - 48) * 10 + (d - 48)

abbrev pub currency_of : List ℕ → Option ℕ
currency_of (a ∷ b ∷ c ∷ d ∷ []) = cond (is_ascii_digit a && is_ascii_digit b && is_ascii_digit c && is_ascii_digit d) (Some (number_of_four a b c d)) None
currency_of [] = None
currency_of (a ∷ []) = None
currency_of (a ∷ b ∷ []) = None
currency_of (a ∷ b ∷ c ∷ []) = None
currency_of (a ∷ b ∷ c ∷ d ∷ e ∷ more) = None
