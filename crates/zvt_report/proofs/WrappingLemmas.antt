-- Lines are broken only at blanks.
use Rattle.std.proofs.Common.{◌≡◌, ◌∙◌, ◌==◌, ◌++◌, ◌+◌, ◌<◌, ◌≤◌, ◌-◌, ℕ, zero, suc, Bool, true, false, List, [], ◌∷◌, inl, inr, length, take, ap, arith, nat_lt, replicate, refl, sym}
use Rattle.std.specs.List.{list_all, prefix_len}
use Rattle.std.proofs.lemmas.Bool.{cases_Bool, eqb-true, ltb-true}
use Rattle.zvt_report.specs.Wrapping.{BreaksOnlyAtBlanks, LinesFit, is_no_blank, is_no_end, line_fits, lines_fit, unwrapped, word_length, wrapped, wrapped_from}

read_blanks : (indent left : ℕ) (text : List ℕ) → unwrapped indent left (replicate left 32 ++ text) ≡ unwrapped indent 0 text
read_blanks indent zero text = refl
read_blanks indent (suc left) text = read_blanks indent left text

later_ends : (letter : ℕ) (later : List ℕ) → list_all is_no_end (letter ∷ later) ≡ true → list_all is_no_end later ≡ true
later_ends letter later all = grind arith

no_end : (letter : ℕ) (later : List ℕ) → list_all is_no_end (letter ∷ later) ≡ true → (letter == 10) ≡ false
no_end letter later all = grind arith

unwraps : (indent width free : ℕ) (sentence : List ℕ) → list_all is_no_end sentence ≡ true → unwrapped indent 0 (wrapped_from indent width free sentence) ≡ sentence
unwraps indent width free [] all = refl
unwraps indent width free (letter ∷ later) all = elim (cases_Bool (letter == 32)) [
  | inl blank ↦ elim (cases_Bool (nat_lt (word_length later) free)) [
    | inl room ↦
        rw (blank, room) (ap (λ (l : List ℕ). 32 ∷ l) (unwraps indent width (free - 1) later (later_ends letter later all))
        ∙ ap (λ (n : ℕ). n ∷ later) (sym (eqb-true letter 32 blank)))
    | inr full ↦
        rw (blank, full) (ap (λ (l : List ℕ). 32 ∷ l)
        (read_blanks indent indent (wrapped_from indent width width later) ∙ unwraps indent width width later (later_ends letter later all))
        ∙ ap (λ (n : ℕ). n ∷ later) (sym (eqb-true letter 32 blank)))
  ]
  | inr other ↦
      rw other (rw (no_end letter later all) (ap (λ (l : List ℕ). letter ∷ l) (unwraps indent width (free - 1) later (later_ends letter later all))))
]

pub breaks_only_at_blanks : BreaksOnlyAtBlanks
unfolding wrapped
breaks_only_at_blanks indent sentence all = unwraps indent _ _ sentence all

ends_fit : (width used free : ℕ) (spaced : Bool) → (spaced ≡ true → used + free ≡ width) → line_fits width used spaced ≡ true
ends_fit width used free true sum = grind (arith, sum refl)
ends_fit width used free false sum = refl

word_goes_on : (letter : ℕ) (later : List ℕ) → (letter == 32) ≡ false → word_length (letter ∷ later) ≡ suc (word_length later)
word_goes_on letter later other =
    let next : 1 + prefix_len is_no_blank later ≡ suc (prefix_len is_no_blank later) = omega arith in
    rw other (ap (λ (n : ℕ). length (take n (letter ∷ later))) next)

skips : (indent width left used : ℕ) (spaced : Bool) (text : List ℕ) → lines_fit indent width left used spaced (replicate left 32 ++ text) ≡ lines_fit indent width 0 used spaced text
skips indent width zero used spaced text = refl
skips indent width (suc left) used spaced text = skips indent width left used spaced text

-- in a line with a blank, the word that is read fits, and the columns add up; in another line they do while some are left
fit_from : (indent width free used : ℕ) (spaced : Bool) (sentence : List ℕ) → list_all is_no_end sentence ≡ true
    → (spaced ≡ true → used + free ≡ width) → (spaced ≡ true → word_length sentence ≤ free) → (0 < free → used + free ≡ width)
    → lines_fit indent width 0 used spaced (wrapped_from indent width free sentence) ≡ true
fit_from indent width free used spaced [] all sum word left = ends_fit width used free spaced sum
fit_from indent width free used spaced (letter ∷ later) all sum word left = elim (cases_Bool (letter == 32)) [
  | inl blank ↦ elim (cases_Bool (nat_lt (word_length later) free)) [
    | inl room ↦
        rw (blank, room)
        (fit_from indent width (free - 1) (used + 1) true later (later_ends letter later all)
        (λ e. omega (arith, ltb-true (word_length later) free room, left (omega (arith, ltb-true (word_length later) free room))))
        (λ e. omega (arith, ltb-true (word_length later) free room))
        (λ e. omega (arith, ltb-true (word_length later) free room, left (omega (arith, ltb-true (word_length later) free room)))))
    | inr full ↦
        rw (blank, full) (rw (ends_fit width used free spaced sum, skips indent width indent 0 false (wrapped_from indent width width later))
        (fit_from indent width width 0 false later (later_ends letter later all) (λ e. omega arith) (λ e. grind (arith, e)) (λ e. omega arith)))
  ]
  | inr other ↦
      rw other (rw (no_end letter later all, other)
      (fit_from indent width (free - 1) (used + 1) spaced later (later_ends letter later all)
      (λ e. omega (arith, sum e, word e, word_goes_on letter later other))
      (λ e. omega (arith, word e, word_goes_on letter later other))
      (λ e. omega (arith, left (omega arith)))))
]

pub lines_fit_in : LinesFit
unfolding wrapped
lines_fit_in indent sentence all = fit_from indent (76 - indent) (76 - indent) 0 false sentence all (λ e. omega arith) (λ e. grind (arith, e)) (λ e. omega arith)
