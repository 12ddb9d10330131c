-- Sentences that are broken into lines.
use Rattle.std.specs.Prelude.{◌≡◌, ℕ, zero, suc, true, false, ◌+◌, ◌&&◌, ◌||◌, nat_le, ◌-◌, ◌==◌, ◌++◌, Bool, not, cond, nat_lt, List, [], ◌∷◌, codes, length, replicate, take_while, refl}
use Rattle.std.specs.List.{list_all}

abbrev pub is_no_blank : ℕ → Bool
is_no_blank letter = not (letter == 32)

-- the number of letters of the word that begins here
abbrev pub word_length : List ℕ → ℕ
word_length text = length (take_while is_no_blank text)

-- A blank before a word that has no room in the line ends the line; the next one is indented.
abbrev pub letter_text : (indent free letter : ℕ) → (later : List ℕ) → List ℕ
letter_text indent free letter later = cond (letter == 32) (cond (nat_lt (word_length later) free) (32 ∷ []) (10 ∷ replicate indent 32)) (letter ∷ [])

-- the columns that are left in the line
abbrev pub free_after : (width free letter : ℕ) → (later : List ℕ) → ℕ
free_after width free letter later = cond (letter == 32) (cond (nat_lt (word_length later) free) (free - 1) width) (free - 1)

-- the sentence in lines that are `width` columns wide after their indentation; `free` columns are left in the first
abbrev pub wrapped_from : (indent width free : ℕ) → List ℕ → List ℕ
wrapped_from indent width free [] = []
wrapped_from indent width free (letter ∷ later) = letter_text indent free letter later ++ wrapped_from indent width (free_after width free letter later) later

-- a sentence that begins after its indentation, in lines of at most 76 columns
unfoldable pub wrapped : (indent : ℕ) → List ℕ → List ℕ
wrapped indent sentence = wrapped_from indent (76 - indent) (76 - indent) sentence

-- ---- laws

abbrev pub is_no_end : ℕ → Bool
is_no_end letter = not (letter == 10)

-- The lines with a blank between them: each end of a line and the indentation after it are read as a blank. `left` blanks of an
-- indentation are still to be read.
abbrev pub unwrapped : (indent left : ℕ) → List ℕ → List ℕ
unwrapped indent left [] = []
unwrapped indent zero (letter ∷ text) = cond (letter == 10) (32 ∷ unwrapped indent indent text) (letter ∷ unwrapped indent 0 text)
unwrapped indent (suc left) (letter ∷ text) = unwrapped indent left text

-- the lines of a sentence with a blank between them are the sentence
abbrev pub BreaksOnlyAtBlanks : Type 0
BreaksOnlyAtBlanks = (indent : ℕ) (sentence : List ℕ) → list_all is_no_end sentence ≡ true → unwrapped indent 0 (wrapped indent sentence) ≡ sentence

-- a line with `used` columns is not too wide, or has no blank
abbrev pub line_fits : (width used : ℕ) → (spaced : Bool) → Bool
line_fits width used spaced = not spaced || nat_le used width

-- Each line fits. The current line has `used` columns after its indentation, and `left` blanks of the indentation are still to be
-- read.
abbrev pub lines_fit : (indent width left used : ℕ) → (spaced : Bool) → List ℕ → Bool
lines_fit indent width left used spaced [] = line_fits width used spaced
lines_fit indent width zero used spaced (letter ∷ text) =
    cond (letter == 10) (line_fits width used spaced && lines_fit indent width indent 0 false text)
    (cond (letter == 32) (lines_fit indent width 0 (used + 1) true text) (lines_fit indent width 0 (used + 1) spaced text))
lines_fit indent width (suc left) used spaced (letter ∷ text) = lines_fit indent width left used spaced text

-- no line of a sentence has more than 76 columns, unless it is one word
abbrev pub LinesFit : Type 0
LinesFit = (indent : ℕ) (sentence : List ℕ) → list_all is_no_end sentence ≡ true → lines_fit indent (76 - indent) 0 0 false (wrapped indent sentence) ≡ true

-- ---- rows worked by hand

at_the_edge : wrapped_from 2 9 9 (codes "one three five") ≡ codes "one three\n  five"
at_the_edge = refl

a_long_word : wrapped_from 1 4 4 (codes "a longer word") ≡ codes "a\n longer\n word"
a_long_word = refl
