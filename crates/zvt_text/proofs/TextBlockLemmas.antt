-- The lines of a text block.
use Rattle.std.proofs.Common.{◌≡◌, ℕ, zero, suc, ◌-◌, Bor, true, false, Option, Some, None, IsNone, is_some, List, [], ◌∷◌, ◌++◌, length, length-append, slice_get, refl, sym, ◌∙◌, ap, append_assoc, arith, if◌then◌else◌, Bool}
use Rattle.std.specs.Option.{option_copied}
use Rattle.zvt_tlv.specs.Grammar.{Objects, none, primitive, constructed}
use Rattle.zvt_tlv.specs.Lent.{GivesObject, IsChildren}
use Rattle.zvt_tlv.specs.declared.views.TlvView.{TlvView}
use Rattle.zvt_text.specs.TextBlocks.{BlockRows, is_texts_tag, printed_lines, text_lines}
use Rattle.zvt_text.proofs.ObjectLines.{children}

-- the lines of the print texts that a view shows, and of the objects after them
pub printed_first : (f left other : Objects) (v : TlvView) → GivesObject f (Some v) left → IsChildren v (Some other) → is_texts_tag v.tag.now ≡ true → printed_lines f ≡ text_lines other ++ printed_lines left
printed_first none left other v e k t = absurd e
printed_first (primitive tag content rest) left other v e k t = absurd (cc (k.0, e.1))
printed_first (constructed tag inner rest) left other v e k t =
    ap (λ (b : Bool). if b then text_lines inner ++ printed_lines rest else printed_lines rest) (ap is_texts_tag (sym e.0) ∙ t)
    ∙ ap (λ (i : Objects). text_lines i ++ printed_lines rest) (children v inner other e.1 k)
    ∙ ap (λ (r : Objects). text_lines other ++ printed_lines r) (sym e.2)

-- what is added so far, and what is left
pub printed_so_far : (whole before after lines left all : List (List ℕ)) → before ++ all ≡ whole → after ≡ before ++ lines → all ≡ lines ++ left → after ++ left ≡ whole
printed_so_far whole before after lines left all w a e =
    ap (λ (l : List (List ℕ)). l ++ left) a ∙ append_assoc before lines left ∙ ap (λ (l : List (List ℕ)). before ++ l) (sym e) ∙ w

-- a line of the first list, or of the second
pub at_first : (xs ys : List (List ℕ)) (k : ℕ) (x : List ℕ) → slice_get xs k ≡ Some x → slice_get (xs ++ ys) k ≡ Some x
at_first [] ys k x e = absurd (cc (e))
at_first (y ∷ xs) ys zero x e = e
at_first (y ∷ xs) ys (suc k) x e = at_first xs ys k x e

pub at_rest : (xs ys : List (List ℕ)) (k : ℕ) → slice_get xs k ≡ None → slice_get (xs ++ ys) k ≡ slice_get ys (k - length xs)
at_rest [] ys k e = ap (slice_get ys) (omega arith)
at_rest (x ∷ xs) ys zero e = absurd (cc (e))
at_rest (x ∷ xs) ys (suc k) e = at_rest xs ys k e ∙ ap (slice_get ys) (omega arith)

-- the line is in the first list
pub line_first : (o : Option (Bor (List ℕ))) (whole all xs ys : List (List ℕ)) (start skip : ℕ) → true ≡ is_some o → option_copied o ≡ slice_get xs skip → all ≡ xs ++ ys → slice_get all skip ≡ slice_get whole start → option_copied o ≡ slice_get whole start
line_first None whole all xs ys start skip s e a w = absurd (cc (s))
line_first (Some b) whole all xs ys start skip s e a w = sym (at_first xs ys skip b.now (sym e)) ∙ (ap (λ (l : List (List ℕ)). slice_get l skip) (sym a) ∙ w)

-- it is in the second, or after it
pub line_rest : (o : Option (Bor (List ℕ))) (whole all xs ys : List (List ℕ)) (start skip left : ℕ) → false ≡ is_some o → option_copied o ≡ slice_get xs skip → (IsNone o → left ≡ skip - length xs) → all ≡ xs ++ ys → slice_get all skip ≡ slice_get whole start → skip - length all ≡ start - length whole
    → (slice_get ys left ≡ slice_get whole start) × (left - length ys ≡ start - length whole)
line_rest (Some b) whole all xs ys start skip left s e l a w n = absurd (cc (s))
line_rest None whole all xs ys start skip left s e l a w n = (
  ap (slice_get ys) (l refl) ∙ (sym (at_rest xs ys skip (sym e)) ∙ (ap (λ (k : List (List ℕ)). slice_get k skip) (sym a) ∙ w)),
  omega (arith, l refl, ap length a, length-append xs ys, n),
)

rows : BlockRows
rows = (refl, refl, refl, refl, refl, refl)
