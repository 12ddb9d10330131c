-- The words that name steps.
use Rattle.std.specs.Prelude.{◌≡◌, ◌⊎◌, ℕ, ◌+◌, ◌-◌, ◌*◌, ◌==◌, ◌&&◌, Bool, true, false, cond, List, [], ◌∷◌, codes, length, take, drop, Option, Some, None, option_map, option_and_then}
use Rattle.std.specs.Char.{digit_value, is_ascii_hexdigit}
use Rattle.std.specs.List.{position_or_len}
use Rattle.std.specs.Str.{bytes_eq}
use Rattle.zvt_kept.specs.Notes.{is_reference, note_of}
use Rattle.zvt_text.specs.Words.{number_in, trailing}
use Rattle.zvt_runs.specs.declared.arguments.Ends.{Ends}
use Rattle.zvt_runs.specs.declared.arguments.Ends.TheVariants.{Both, Till}
use Rattle.zvt_runs.specs.declared.arguments.Step.{Step}
use Rattle.zvt_runs.specs.declared.arguments.Step.TheVariants.{Register, Pay, Reverse, CloseDay, Decline, Ask}

-- ---- numbers

-- an amount is a number that is not 0
abbrev pub not_zero : ℕ → Option ℕ
not_zero n = cond (n == 0) None (Some n)

abbrev pub amount_of : List ℕ → Option ℕ
amount_of digits = option_and_then not_zero (number_in 12 digits)

-- an entry is counted from 1 in a word, and from 0 in the book
abbrev pub entry_of : List ℕ → Option ℕ
entry_of digits = option_map (λ n. n - 1) (amount_of digits)

-- two hexadecimal digits that are not 00
abbrev pub code_of : ℕ → ℕ → Option ℕ
code_of high low = cond (is_ascii_hexdigit high && is_ascii_hexdigit low) (not_zero (digit_value high * 16 + digit_value low)) None

abbrev pub code_in : List ℕ → Option ℕ
code_in [] = None
code_in (a ∷ []) = None
code_in (high ∷ low ∷ []) = code_of high low
code_in (a ∷ b ∷ c ∷ more) = None

-- ---- words

abbrev pub declining : Option ℕ → Option ℕ → Option Step
declining None code = None
declining (Some amount) None = None
declining (Some amount) (Some code) = Some (Decline amount code)

-- a colon and a code follow the amount
abbrev pub declined_by : List ℕ → List ℕ → Option Step
declined_by digits [] = None
declined_by digits (a ∷ []) = None
declined_by digits (a ∷ b ∷ []) = None
declined_by digits (colon ∷ high ∷ low ∷ []) = cond (colon == 58) (declining (amount_of digits) (code_of high low)) None
declined_by digits (a ∷ b ∷ c ∷ d ∷ more) = None

-- `N:XX`
abbrev pub declined : List ℕ → Option Step
declined words = declined_by (take (length words - 3) words) (drop (length words - 3) words)

abbrev pub or_else : {A : Type 0} → Option A → Option A → Option A
or_else None other = other
or_else (Some a) other = Some a

abbrev pub decline_of : Ends → List ℕ → Option Step
decline_of Both word = option_and_then declined (trailing (codes "decline:") word)
decline_of Till word = None

-- a number ends at the first colon
abbrev pub number_size : List ℕ → ℕ
number_size tail = position_or_len (λ byte. byte == 58) tail

abbrev pub refers : Option (List ℕ) → Bool
refers None = false
refers (Some reference) = is_reference reference

-- a number ends here: nothing follows it, or a reference
abbrev pub ends_number : List ℕ → Bool
ends_number [] = true
ends_number (byte ∷ rest) = refers (trailing (codes ":ref=") (byte ∷ rest))

-- the digits before the end, or before a reference
abbrev pub digits_of : (tail : List ℕ) → Option (List ℕ)
digits_of tail = cond (ends_number (drop (number_size tail) tail)) (Some (take (number_size tail) tail)) None

-- the step that a word with a number names
abbrev pub numbered : Ends → List ℕ → Option Step
numbered ends word =
    or_else (option_map Pay (option_and_then amount_of (option_and_then digits_of (trailing (codes "pay:") word))))
    (or_else (option_map Reverse (option_and_then entry_of (option_and_then digits_of (trailing (codes "reverse:") word)))) (decline_of ends word))

abbrev pub behind_sign : List ℕ → Option (List ℕ)
behind_sign [] = None
behind_sign (sign ∷ rest) = Some rest

-- the text of a word after its first `=`
abbrev pub reference_of : List ℕ → Option (List ℕ)
reference_of word = behind_sign (drop (position_or_len (λ byte. byte == 61) word) word)

-- the till asks a terminal that is elsewhere
abbrev pub ask_of : Ends → Option Step
ask_of Both = None
ask_of Till = Some Ask

-- the step that a word names
abbrev pub step_of : Ends → List ℕ → Option Step
step_of ends word =
    cond (bytes_eq word (codes "register")) (Some Register)
    (cond (bytes_eq word (codes "close")) (Some CloseDay)
    (cond (bytes_eq word (codes "ask")) (ask_of ends) (numbered ends word)))

-- The note of an order: a time or none, and the reference in the word that names its step. If these do not form a note,
-- it is empty.
abbrev pub IsNoteOf : (word note : List ℕ) → Type 0
IsNoteOf word note = (at : Option (List ℕ)) × ((note_of at (reference_of word) ≡ Some note) ⊎ (note ≡ []))
