-- Where the first character of another kind stands.
use Rattle.std.proofs.Common.{Bool, true, false, MatchBool, slice_index_or, ◌≡◌, ℕ, ◌<◌, ◌≤◌, suc, zero, List, [], ◌∷◌, ◌++◌, length, take, drop, slice_index, refl, sym, ◌∙◌, ap, subst, append_assoc, arith}
use Rattle.std.proofs.lemmas.List.Elements.{All-append, All-cons, All-head, All-nil, All-tail}
use Rattle.std.proofs.lemmas.List.{append_cancel_left, append_cancel_right, take-append-drop}
use Rattle.std.proofs.Math.Seq.{drop-append_seam, take-append_seam}
use Rattle.std.proofs.lemmas.Bool.{false≢true}
use Rattle.std.specs.List.{All, AllWithin, HoldsAt}
use Rattle.std.specs.Prelude.{codes}
use Rattle.zvt_grammar.specs.Names.{why_name}
use Rattle.zvt_grammar.specs.declared.why.Why.{Why}
use Rattle.zvt_grammar.specs.declared.why.Why.TheVariants.{NotShortest, DoesNotFit, LengthForm, TooDeep, TagTooLong, UnknownField, NotDigit, LengthDigit}
use Rattle.zvt_tool.specs.Vectors.{IsClaim, IsDigit, IsNumber, IsOther, IsReason, IsRefusal, IsSpelling, IsVector}
use Rattle.zvt_tool.specs.declared.vector_check.claims.TheConstants.{REASONS}

-- that many come before it
pub count_is : (P : ℕ → Type 0) (c : ℕ) → (P c → ⊥) → (prefix rest : List ℕ) (n : ℕ) → All P prefix → n ≤ length (prefix ++ c ∷ rest) → All P (take n (prefix ++ c ∷ rest))
    → (n < length (prefix ++ c ∷ rest) → P (slice_index (prefix ++ c ∷ rest) n) → ⊥) → n ≡ length prefix
count_is P c stop [] rest zero are few first all = refl
count_is P c stop [] rest (suc n) are few first all = absurd (stop (All-head P c (take n rest) first))
count_is P c stop (x ∷ prefix) rest zero are few first all = absurd (all (omega arith) (All-head P x prefix are))
count_is P c stop (x ∷ prefix) rest (suc n) are few first all =
    let tail = All-tail P x (take n (prefix ++ c ∷ rest)) first in
    ap suc (count_is P c stop prefix rest n (All-tail P x prefix are) (omega (arith, few)) tail (λ lt p. all (omega (arith, lt)) p))

-- the parts that it stands between
pub record Parts (text prefix rest : List ℕ) (n : ℕ) : Type 0 where
  pub count : n ≡ length prefix
  pub before : take n text ≡ prefix
  pub after : drop n text ≡ rest

pub parts : (P : ℕ → Type 0) (c : ℕ) → (P c → ⊥) → (text prefix rest : List ℕ) (n : ℕ) → text ≡ prefix ++ c ∷ rest → All P prefix → n ≤ length text → All P (take n text) → (n < length text → P (slice_index text n) → ⊥)
    → Parts text prefix (c ∷ rest) n
parts P c stop text prefix rest n is are few first all =
    let count = count_is P c stop prefix rest n are (subst (λ (t : List ℕ). n ≤ length t) is few) (subst (λ (t : List ℕ). All P (take n t)) is first) (subst (λ (t : List ℕ). n < length t → P (slice_index t n) → ⊥) is all) in
    record { count = count; before = ap (λ (t : List ℕ). take n t) is ∙ ap (λ (m : ℕ). take m (prefix ++ c ∷ rest)) count ∙ take-append_seam prefix (c ∷ rest); after = ap (λ (t : List ℕ). drop n t) is ∙ ap (λ (m : ℕ). drop m (prefix ++ c ∷ rest)) count ∙ drop-append_seam prefix (c ∷ rest) }

pub colon : IsDigit 58 → ⊥
colon is = omega (arith, is.1)

pub equals : IsOther 61 → ⊥
equals is = is refl

space : IsOther 32
space e = omega (arith, e)

-- ---- a place and a reason

pub made : (text prefix back p reason : List ℕ) (n : ℕ) → prefix ≡ take n text → back ≡ drop n text → p ≡ codes ": " → back ≡ p ++ reason → IsNumber prefix → IsReason reason → IsRefusal text
made text prefix back p reason n is_prefix is_back is_p cut number word =
    let after : drop n text ≡ codes ": " ++ reason = sym is_back ∙ cut ∙ ap (λ (q : List ℕ). q ++ reason) is_p in
    let whole : text ≡ prefix ++ (codes ": " ++ reason) = sym (take-append-drop n text) ∙ ap (λ (t : List ℕ). t ++ drop n text) (sym is_prefix) ∙ ap (λ (t : List ℕ). prefix ++ t) after in
    (prefix, reason, number, word, whole ∙ sym (append_assoc prefix (codes ": ") reason))

pub record Found (prefix back : List ℕ) : Type 0 where
  pub reason : List ℕ
  pub number : IsNumber prefix
  pub word : IsReason reason
  pub after : back ≡ codes ": " ++ reason

pub found : (text prefix back : List ℕ) (n : ℕ) → IsRefusal text → prefix ≡ take n text → back ≡ drop n text → n ≤ length text → All IsDigit (take n text) → (n < length text → IsDigit (slice_index text n) → ⊥) → Found prefix back
found text prefix back n (place, reason, number, word, is) is_prefix is_back few first all =
    let p = parts IsDigit 58 colon text place (32 ∷ reason) n (is ∙ append_assoc place (codes ": ") reason) number.digits few first all in
    record { reason = reason; number = subst IsNumber (sym (is_prefix ∙ p.before)) number; word = word; after = is_back ∙ p.after }

pub same_rest : (p q a b : List ℕ) → p ≡ q → p ++ a ≡ q ++ b → a ≡ b
same_rest p q a b is e = append_cancel_left q a b (ap (λ (r : List ℕ). r ++ a) (sym is) ∙ e)

pub same_prefix : (p q a : List ℕ) → p ≡ q → p ++ a ≡ q ++ a
same_prefix p q a is = ap (λ (r : List ℕ). r ++ a) is

-- ---- a vector

-- what comes before the first '=', and from there on
pub record CutAt (prefix back spelled claim : List ℕ) : Type 0 where
  pub before : prefix ≡ spelled ++ codes " "
  pub after : back ≡ codes "= " ++ claim

pub cut_at : (line prefix back spelled claim : List ℕ) (n : ℕ) → IsVector line spelled claim → prefix ≡ take n line → back ≡ drop n line → n ≤ length line → All IsOther (take n line) → (n < length line → IsOther (slice_index line n) → ⊥) → CutAt prefix back spelled claim
cut_at line prefix back spelled claim n vector is_prefix is_back few first all =
    let others : All IsOther (spelled ++ codes " ") = All-append IsOther spelled (codes " ") vector.first (All-cons IsOther 32 [] space (All-nil IsOther)) in
    let whole : line ≡ (spelled ++ codes " ") ++ 61 ∷ 32 ∷ claim = vector.cut ∙ append_assoc spelled (codes " = ") claim ∙ sym (append_assoc spelled (codes " ") (codes "= " ++ claim)) in
    let p = parts IsOther 61 equals line (spelled ++ codes " ") (32 ∷ claim) n whole others few first all in
    record { before = is_prefix ∙ p.before; after = is_back ∙ p.after }

all_before : (P : ℕ → Type 0) (xs ys : List ℕ) → All P (xs ++ ys) → All P xs
all_before P [] ys all = All-nil P
all_before P (x ∷ xs) ys all = All-cons P x xs (All-head P x (xs ++ ys) all) (all_before P xs ys (All-tail P x (xs ++ ys) all))

pub same_begin : (p q a b : List ℕ) → p ≡ q → a ++ p ≡ b ++ q → a ≡ b
same_begin p q a b is e = append_cancel_right a b q (ap (λ (r : List ℕ). a ++ r) (sym is) ∙ e)

-- the parts of a line are a vector's, where they have its forms
pub joined : (line prefix back p q spelled claim : List ℕ) (n : ℕ) → prefix ≡ take n line → back ≡ drop n line → p ≡ codes " " → q ≡ codes "= " → prefix ≡ spelled ++ p → back ≡ q ++ claim → All IsOther (take n line) → IsSpelling spelled → IsClaim claim → IsVector line spelled claim
joined line prefix back p q spelled claim n is_prefix is_back is_p is_q cut_prefix cut_back others spells claims =
    let before : take n line ≡ spelled ++ codes " " = sym is_prefix ∙ cut_prefix ∙ ap (λ (t : List ℕ). spelled ++ t) is_p in
    let after : drop n line ≡ codes "= " ++ claim = sym is_back ∙ cut_back ∙ ap (λ (t : List ℕ). t ++ claim) is_q in
    let whole : line ≡ (spelled ++ codes " ") ++ (codes "= " ++ claim) = sym (take-append-drop n line) ∙ ap (λ (t : List ℕ). t ++ drop n line) before ∙ ap (λ (t : List ℕ). (spelled ++ codes " ") ++ t) after in
    record {
      cut = whole ∙ append_assoc spelled (codes " ") (codes "= " ++ claim) ∙ sym (append_assoc spelled (codes " = ") claim);
      first = all_before IsOther spelled (codes " ") (subst (All IsOther) before others);
      spells = spells;
      claims = claims;
    }

-- ---- the reasons

pub some_named : (r : Bool) (text : List ℕ) → MatchBool r ((k : ℕ) × (k < length REASONS) × HoldsAt (λ (why : Why). why_name why ≡ text) REASONS k) (AllWithin (λ (why : Why). why_name why ≡ text → ⊥) REASONS 0 (length REASONS))
    → r ≡ true → IsReason text
some_named true text (k, few, is) e = (slice_index_or REASONS k NotShortest, sym (is NotShortest))
some_named false text none e = absurd (false≢true e)

-- each reason is among them
listed : (why : Why) → (k : ℕ) × (k < length REASONS) × (slice_index_or REASONS k NotShortest ≡ why)
listed NotShortest = (0, omega arith, refl)
listed DoesNotFit = (1, omega arith, refl)
listed LengthForm = (2, omega arith, refl)
listed TooDeep = (3, omega arith, refl)
listed TagTooLong = (4, omega arith, refl)
listed UnknownField = (5, omega arith, refl)
listed NotDigit = (6, omega arith, refl)
listed LengthDigit = (7, omega arith, refl)

pub none_named : (r : Bool) (text : List ℕ) → MatchBool r ((k : ℕ) × (k < length REASONS) × HoldsAt (λ (why : Why). why_name why ≡ text) REASONS k) (AllWithin (λ (why : Why). why_name why ≡ text → ⊥) REASONS 0 (length REASONS))
    → r ≡ false → IsReason text → ⊥
none_named true text some e is = absurd (false≢true (sym e))
none_named false text none e (why, is) =
    let (k, few, at) = listed why in
    none k NotShortest (omega arith) few (ap why_name at ∙ sym is)
