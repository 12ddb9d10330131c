-- The values of options in a command line.
use Rattle.std.specs.Prelude.{◌≡◌, ◌≤◌, ℕ, Bool, false, true, List, [], Option, Some, None, codes, option_map, unwrap_or}
use Rattle.std.specs.Borrow.{Bor}
use Rattle.std.specs.Str.Parse.{IsNumeral, digits_value, without_leading_plus}
use Rattle.clap.specs.Words.{Row, Text, all_of, first_of, one_of}

-- the text of the option spells this number
abbrev pub GivesNumber : Text → List Row → ℕ → ℕ → Type 0
GivesNumber id rows most n = (text : Text) × (one_of id rows ≡ Some text)
    × IsNumeral 10 (without_leading_plus text)
    × (digits_value 10 (without_leading_plus text) ≡ n) × (n ≤ most)

-- the number of the option, at most this large, or none if the option is missing
abbrev pub IsNumberOf : Text → List Row → ℕ → Option ℕ → Type 0
IsNumberOf id rows most (Some n) = GivesNumber id rows most n
IsNumberOf id rows most None = (n : ℕ) → GivesNumber id rows most n → ⊥

-- the words of an argument, in order
abbrev pub words_of : Text → List Row → List Text
words_of id rows = unwrap_or (all_of id rows) []

-- the text of the option, or none if the option is missing
abbrev pub IsTextOf : Text → List Row → Option (Bor Text) → Type 0
IsTextOf id rows text = first_of id rows ≡ option_map (λ text. text.now) text

-- whether the flag is set
abbrev pub IsFlagOf : Text → List Row → Bool → Type 0
IsFlagOf id rows flag =
    (one_of id rows ≡ None → flag ≡ false) × (one_of id rows ≡ Some (codes "true") → flag ≡ true) × (one_of id rows ≡ Some (codes "false") → flag ≡ false)

-- a property that depends on whether the flag is set
abbrev pub IsByFlag : Text → List Row → (Bool → Type 0) → Type 0
IsByFlag id rows holds = (set : Bool) × IsFlagOf id rows set × holds set
