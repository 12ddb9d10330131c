-- What JSON makes of the name and the number of a card.
use Rattle.std.proofs.Common.{◌≡◌, ℕ, suc, ◌+◌, ◌/◌, ◌%◌, ◌<◌, ◌==◌, Bool, true, false, inl, inr, cond, nat_le, List, [], ◌∷◌, ◌++◌, get_or, codes, refl, ◌∙◌, ap, ap₂, arith}
use Rattle.std.proofs.lemmas.Bool.{cases_Bool}
use Rattle.std.proofs.lemmas.Bool.Decides.{nat_tests}
use Rattle.json.specs.Print.{escape, escape_byte}
use Rattle.zvt_json.proofs.EscapeLemmas.{escape_append, escape_byte_hex, escape_plain}
use Rattle.zvt_text.specs.Bytes.{hex_of, is_plain}
use Rattle.zvt_report.specs.Cards.{is_character}
use Rattle.zvt_report.specs.CardTexts.{character_text, characters, digit_text, digits_text, number_text}

-- ---- numbers

masks_plain : (n : ℕ) → escape (cond (n == 14) (codes "E") []) ≡ cond (n == 14) (codes "E") []
unfolding escape_byte
masks_plain n = elim (cases_Bool (n == 14)) [
  | inl mask ↦ rw mask refl
  | inr other ↦ rw other refl
]

decimal_plain : (n : ℕ) → nat_le n 9 ≡ true → is_plain (48 + n) ≡ true
decimal_plain n few = grind (arith, nat_tests, few)

digit_plain : (n : ℕ) → escape (digit_text n) ≡ digit_text n
digit_plain n = elim (cases_Bool (nat_le n 9)) [
  | inl few ↦ let same = escape_plain (48 + n) (decimal_plain n few) in rw few (rw same refl)
  | inr many ↦ rw many (masks_plain n)
]

-- JSON leaves a number as it is
pub number_plain : (bytes : List ℕ) → escape (number_text bytes) ≡ number_text bytes
number_plain [] = refl
number_plain (byte ∷ bytes) =
    escape_append (digits_text byte) (number_text bytes)
    ∙ ap₂ (λ (a b : List ℕ). a ++ b)
    (escape_append (digit_text (byte / 16)) (digit_text (byte % 16)) ∙ ap₂ (λ (a b : List ℕ). a ++ b) (digit_plain (byte / 16)) (digit_plain (byte % 16)))
    (number_plain bytes)

-- ---- names

pub plain_slashed : (byte : ℕ) → byte < 256 → escape (cond (is_plain byte) (byte ∷ []) (codes "\\x" ++ hex_of byte)) ≡ cond (is_plain byte) (byte ∷ []) (codes "\\\\x" ++ hex_of byte)
unfolding escape_byte
plain_slashed byte small = elim (cases_Bool (is_plain byte)) [
  | inl plain ↦ let same = escape_plain byte plain in rw plain (rw same refl)
  | inr other ↦ rw other (ap (λ (l : List ℕ). codes "\\\\x" ++ l) (escape_byte_hex byte small))
]

character_slashed : (byte : ℕ) → byte < 256 → escape (character_text (codes "\\x") byte) ≡ character_text (codes "\\\\x") byte
character_slashed byte small = elim (cases_Bool (is_character byte)) [
  | inl is ↦ rw is (plain_slashed byte small)
  | inr none ↦ rw none refl
]

-- JSON doubles the backslash before each number
pub characters_slashed : (bytes : List ℕ) → ((i : ℕ) → get_or bytes i 0 < 256) → escape (characters (codes "\\x") bytes) ≡ characters (codes "\\\\x") bytes
characters_slashed [] small = refl
characters_slashed (byte ∷ bytes) small =
    escape_append (character_text (codes "\\x") byte) (characters (codes "\\x") bytes)
    ∙ ap₂ (λ (a b : List ℕ). a ++ b) (character_slashed byte (small 0)) (characters_slashed bytes (λ i. small (suc i)))
