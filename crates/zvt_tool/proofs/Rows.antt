-- Rows worked by hand.
use Rattle.std.proofs.Common.{◌≡◌, ℕ, ◌<◌, List, [], ◌∷◌, ◌++◌, Ok, Err, length, take, slice_index, refl, sym, ◌∙◌, ap, subst, ◌≤◌, length-append, arith, rules, inl, inr}
use Rattle.std.proofs.lemmas.List.Elements.{All-cons, All-nil}
use Rattle.std.proofs.Math.Seq.{drop-append_seam, get_or-append_seam, take-append_seam}
use Rattle.std.specs.List.{All, list_all}
use Rattle.std.specs.Prelude.{codes, not, ◌==◌, true}
use Rattle.hex.specs.Hex.{decode_pairs}
use Rattle.zvt_grammar.specs.declared.why.Why.TheVariants.{NotShortest, DoesNotFit, LengthForm, TooDeep, TagTooLong, UnknownField, NotDigit, LengthDigit}
use Rattle.zvt_trace.specs.declared.fault.TraceLineError.TheVariants.{Form}
use Rattle.zvt_tool.specs.Vectors.{IsDigit, IsNumber, IsOther, IsReason, IsSpelling, IsVector, Means, vector}
use Rattle.zvt_tool.proofs.ClaimLemmas.{cut_at}

-- ---- numbers and reasons

pub zero : IsNumber (codes "0")
zero = record { some = omega arith; digits = All-cons IsDigit 48 [] (omega arith, omega arith) (All-nil IsDigit); no_zero_first = λ _. refl }

pub padded : IsNumber (codes "03") → ⊥
padded is = omega (arith, is.no_zero_first refl)

pub no_number : IsNumber [] → ⊥
no_number is = omega (arith, is.some)

pub another_word : IsReason (codes "Foo") → ⊥
another_word (NotShortest, is) = cc
another_word (DoesNotFit, is) = cc
another_word (LengthForm, is) = cc
another_word (TooDeep, is) = cc
another_word (TagTooLong, is) = cc
another_word (UnknownField, is) = cc
another_word (NotDigit, is) = cc
another_word (LengthDigit, is) = cc

-- ---- bytes in hexadecimal

pub a_space_after : IsSpelling (codes "80 ") → ⊥
a_space_after is = is.ends refl

pub a_space_before : IsSpelling (codes " 80") → ⊥
a_space_before is = is.begins refl

-- ---- lines

others : (text : List ℕ) → list_all (λ character. not (character == 61)) text ≡ true → All IsOther text
others [] all = All-nil IsOther
others (character ∷ text) all = All-cons IsOther character text (λ e. search (rules, all, e)) (others text (search (rules, all)))

-- 80 00 00 = whole 3
pub whole : Means (codes "80 00 00 = whole 3") (Ok (vector (0x80 ∷ 0x00 ∷ 0x00 ∷ []) (codes "whole 3")))
unfolding decode_pairs
whole = (
  λ is. omega (arith, is),
  codes "80 00 00",
  record {
    cut = refl;
    first = others (codes "80 00 00") refl;
    spells = record { some = omega arith; begins = λ is. omega (arith, is); ends = λ is. omega (arith, is) };
    claims = inr (inl (codes "3", record { some = omega arith; digits = All-cons IsDigit 51 [] (omega arith, omega arith) (All-nil IsDigit); no_zero_first = λ is. omega (arith, is) }, refl));
  },
  refl,
)

-- what comes before the first '=' is text that spells bytes and one space
before : (prefix rest spelled claim : List ℕ) → All IsOther prefix → IsVector (prefix ++ 61 ∷ rest) spelled claim → prefix ≡ spelled ++ codes " "
before prefix rest spelled claim none is =
    let line : List ℕ = prefix ++ 61 ∷ rest in
    let seam : take (length prefix) line ≡ prefix = take-append_seam prefix (61 ∷ rest) in
    let few : length prefix ≤ length line = omega (arith, length-append prefix (61 ∷ rest)) in
    let stop = λ (lt : length prefix < length line) (other : IsOther (slice_index line (length prefix))). other (get_or-append_seam prefix 61 rest 0) in
    (cut_at line prefix (61 ∷ rest) spelled claim (length prefix) is (sym seam) (sym (drop-append_seam prefix (61 ∷ rest))) few (subst (All IsOther) (sym seam) none) stop).before

-- = more
pub no_bytes : Means (codes "= more") (Err Form)
no_bytes = (λ is. omega (arith, is), λ spelled claim v. omega (arith, ap length (before [] (codes " more") spelled claim (others [] refl) v), length-append spelled (codes " ")))

-- the same after a space
pub no_bytes_but_a_space : Means (codes " = more") (Err Form)
no_bytes_but_a_space = (λ is. omega (arith, is), λ spelled claim v. omega (arith, ap length (before (codes " ") (codes " more") spelled claim (others (codes " ") refl) v), length-append spelled (codes " "), v.spells.some))

-- 800000= more
pub no_space : Means (codes "800000= more") (Err Form)
no_space = (
  λ is. omega (arith, is),
  λ spelled claim v.
      let cut : codes "800000" ≡ spelled ++ codes " " = before (codes "800000") (codes " more") spelled claim (others (codes "800000") refl) v in
      let five : length spelled ≡ 5 = omega (arith, ap length cut, length-append spelled (codes " ")) in
      let last : slice_index (codes "800000") 5 ≡ 32 = ap (λ (t : List ℕ). slice_index t 5) cut ∙ ap (λ (n : ℕ). slice_index (spelled ++ codes " ") n) (sym five) ∙ get_or-append_seam spelled 32 [] 0 in
      omega (arith, last),
)
