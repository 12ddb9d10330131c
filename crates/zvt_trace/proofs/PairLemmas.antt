-- Pairs of digits, one by one.
use Rattle.std.proofs.Common.{◌≡◌, ◌∙◌, refl, arith, ℕ, ◌+◌, ◌*◌, ◌<◌, Option, None, Some, unwrap_or, List, [], ◌∷◌, length, slice_index, slice_set}
use Rattle.hex.specs.Hex.{hex_digit_value}
use Rattle.zvt_trace.specs.Meanings.{ReadsPairs, without_spaces}
use Rattle.zvt_trace.specs.Spelled.{spells, worth}
use Rattle.zvt_trace.proofs.SpelledLemmas.{are_digits, digit_small, hex_more, pair_spells, read_plain, reads_none}

-- the number that the characters at the place of a pair make
abbrev pub pair_at : List ℕ → ℕ → ℕ
pair_at text count = worth (slice_index text (2 * count)) * 16 + worth (slice_index text (2 * count + 1))

pub none_read : (text buffer : List ℕ) → ReadsPairs text 0 buffer
none_read text buffer = (tt, λ undecoded. reads_none (spells (without_spaces undecoded)))

-- one pair more, where it is one of digits
pub one_more : (text buffer : List ℕ) (count pair : ℕ) → count < length buffer → 2 * count + 1 < length text → pair ≡ pair_at text count → pair < 256
    → ReadsPairs text count buffer → ReadsPairs text (count + 1) (slice_set buffer count pair)
one_more text buffer count pair fits some is few so =
    let both = are_digits (slice_index text (2 * count)) (slice_index text (2 * count + 1)) (omega (arith, is, few)) in
    let sum : pair ≡ both.high * 16 + both.low = is ∙ both.is_sum in (
      hex_more text count both.high both.low some both.is_high both.is_low both.high_small both.low_small so.0,
      λ undecoded. rw sum (read_plain text buffer undecoded count both.high both.low fits some both.is_high both.is_low both.high_small both.low_small so.1),
    )

-- two characters of which one is no digit
pub no_byte : (a b : ℕ) → 255 < worth a * 16 + worth b → spells (a ∷ b ∷ []) ≡ None
no_byte a b big = by (hex_digit_value a) (hex_digit_value b) refl refl big
  where
    by : (o p : Option ℕ) → hex_digit_value a ≡ o → hex_digit_value b ≡ p → 255 < unwrap_or o 256 * 16 + unwrap_or p 256 → spells (a ∷ b ∷ []) ≡ None
    by None p e f big = pair_spells a b [] ∙ rw e refl
    by (Some h) None e f big = pair_spells a b [] ∙ rw (e, f) refl
    by (Some h) (Some l) e f big = absurd (omega (arith, big, digit_small a h e, digit_small b l f))
