-- The laws of the grammar, put together.
use Rattle.std.proofs.Common.{◌≡◌, ℕ, ◌≤◌, Option, Some, None, List, [], ◌∷◌, ◌++◌, length, take, drop, refl, sym, ◌∙◌, ap, subst, append_assoc, arith, length-append, suc}
use Rattle.std.proofs.lemmas.List.{append-nil, length-take-le, take-append-drop, take-append-le}
use Rattle.std.proofs.Math.Seq.{take-length}
use Rattle.zvt_grammar.specs.declared.why.Why.{Why}
use Rattle.zvt_grammar.specs.declared.answer.Scan.{Scan}
use Rattle.zvt_grammar.specs.declared.answer.Scan.TheVariants.{Whole, More, Refused}
use Rattle.zvt_grammar.specs.Beginnings.{Alive, Place}
use Rattle.zvt_grammar.specs.Reading.{Reading}
use Rattle.zvt_tlv.specs.Grammar.{Objects, none, primitive, constructed, IsTag, IsLength, Spells}
use Rattle.zvt_tlv.specs.Judging.{Filled, AliveIn, PlaceIn, WhyIn, fault, Position}
use Rattle.zvt_tlv.specs.Sized.{SizedIn, SizedFound, WhySized, PositionSized}
use Rattle.zvt_tlv.specs.Laws.{EachSizeIsFilled, EachBeginningStands, PositionsAreOne, TestsDecide, EachSizedBeginningStands, SizedPositionsAreOne, SizedTestsDecide, AnswersAreOne, SizedAnswersAreOne, AnswersStay, SizedAnswersStay, IsOne, ObjectsEndThemselves, RoomsEndThemselves, SizedEndThemselves, SpellingsAreOne, SizedSpellingsAreOne, FaultsAreOne, SpelledIsFaultless}
use Rattle.zvt_tlv.proofs.Spelling.{filler, filling, filling_size, filled, one_tree, shared, length_prefix, same_prefix}
use Rattle.zvt_tlv.proofs.Alive.{fit}
use Rattle.zvt_tlv.proofs.Room.{Says}
use Rattle.zvt_tlv.proofs.Places.{dead_beyond, place_once, place_more, none_more, byte_more}
use Rattle.zvt_tlv.proofs.Unique.{position_once, one_fault, why_once}
use Rattle.zvt_tlv.proofs.Exists.{alive_stands, sized_stands}
use Rattle.zvt_tlv.specs.Sizes.{length_bytes}
use Rattle.zvt_tlv.proofs.Writing.{spelled, length_spelled}
use Rattle.zvt_tlv.specs.declared.trees.BadForest.TheVariants.{Kind, TooDeep, TooLarge}
use Rattle.zvt_tlv.proofs.CheckLemmas.{no_spelling}
use Rattle.zvt_tlv.proofs.SizedLemmas.{openers_of, position_object, fit_sized}

pub each_size_is_filled : EachSizeIsFilled
each_size_is_filled r d n ne = (filler n, filling n, filled r d n, filling_size n ne)

pub each_beginning_stands : EachBeginningStands
each_beginning_stands r d room b a lt = let s = alive_stands r d room b a lt in (s.openers, s.at, s.role, s.left, s.position)

pub positions_are_one : PositionsAreOne
positions_are_one r d room os qs b at at' role role' left left' p q =
    let s = position_once r os qs d room b at at' role role' left left' p q in (s.ats, s.roles, s.lefts)

-- tests that hold exactly where a fact does
decided : (o : Option Why) (P : Type 0) → Says o P → P → o ≡ None
decided None P h p = refl
decided (Some w) P h p = absurd (h.1 w refl p)

pub tests_decide : TestsDecide
tests_decide r d room os b at role left x a p lt =
    let f = fit r os d room b at role left x p lt a in (f.0, decided (fault r at role left x) (AliveIn r d room (b ++ x ∷ [])) f)

pub each_sized_beginning_stands : EachSizedBeginningStands
each_sized_beginning_stands r room b u = let s = sized_stands r room b u in (s.openers, s.at, s.role, s.left, s.position)

pub sized_positions_are_one : SizedPositionsAreOne
sized_positions_are_one r room os qs b at at' role role' left left' p q =
    let s = position_once r (openers_of os) (openers_of qs) 0 (suc room) (0x25 ∷ b) at at' role role' left left'
    (position_object r room os b at role left p) (position_object r room qs b at' role' left' q) in (s.ats, s.roles, s.lefts)

pub sized_tests_decide : SizedTestsDecide
sized_tests_decide r room os b at role left x a p lt =
    let f = fit_sized r room os b at role left x p lt a in (f.0, decided (fault r at role left x) (Alive (SizedIn r room) (b ++ x ∷ [])) f)

-- the parts of one object
record One (r : Reading) (d : ℕ) (a : List ℕ) : Type 0 where
  tag : List ℕ
  size : List ℕ
  content : List ℕ
  whole : a ≡ tag ++ (size ++ content)
  is_tag : IsTag tag
  is_length : IsLength r (length content) size

one_of : (r : Reading) (d : ℕ) (f : Objects) (a : List ℕ) → IsOne f → Spells r d f a → One r d a
one_of r d none a i p = absurd i
one_of r d (primitive tag c none) a i p = record { tag = tag; size = p.size; content = p.content; whole = p.whole ∙ ap (λ (v : List ℕ). tag ++ (p.size ++ (p.content ++ v))) p.others ∙ simp append-nil; is_tag = p.is_tag; is_length = p.is_length }
one_of r d (primitive tag c (primitive t k f)) a i p = absurd i
one_of r d (primitive tag c (constructed t k f)) a i p = absurd i
one_of r d (constructed tag c none) a i p = record { tag = tag; size = p.size; content = p.content; whole = p.whole ∙ ap (λ (v : List ℕ). tag ++ (p.size ++ (p.content ++ v))) p.others ∙ simp append-nil; is_tag = p.is_tag; is_length = p.is_length }
one_of r d (constructed tag c (primitive t k f)) a i p = absurd i
one_of r d (constructed tag c (constructed t k f)) a i p = absurd i

pub objects_end_themselves : ObjectsEndThemselves
objects_end_themselves r d f g a b x y p q e =
    let m = one_of r d f a p.0 p.1 in
    let n = one_of r d g b q.0 q.1 in
    let s = shared r m.tag n.tag m.size n.size m.content n.content x y m.is_tag n.is_tag m.is_length n.is_length
    (whole m.tag m.size m.content a x m.whole ∙ e ∙ sym (whole n.tag n.size n.content b y n.whole)) in
    let same : a ≡ b = m.whole ∙ ap (λ (v : List ℕ). v ++ (m.size ++ m.content)) s.tags ∙ ap (λ (v : List ℕ). n.tag ++ (v ++ m.content)) s.sizes ∙ ap (λ (v : List ℕ). n.tag ++ (n.size ++ v)) s.contents ∙ sym n.whole in
    (one_tree r d f g a b same p.1 q.1, same)
  where
    whole : (t s c a x : List ℕ) → a ≡ t ++ (s ++ c) → t ++ (s ++ (c ++ x)) ≡ a ++ x
    whole t s c a x e = let back : (t ++ (s ++ c)) ++ x ≡ t ++ (s ++ (c ++ x)) = simp append_assoc in sym back ∙ ap (λ (v : List ℕ). v ++ x) (sym e)

pub rooms_end_themselves : RoomsEndThemselves
rooms_end_themselves r d room f g a b x y p q e =
    let same = (same_prefix a b x y (p.1 ∙ sym q.1) e).0 in (one_tree r d f g a b same p.0 q.0, same)

pub sized_end_themselves : SizedEndThemselves
sized_end_themselves r f g a b x y p q e =
    let whole : p.size ++ (p.content ++ x) ≡ q.size ++ (q.content ++ y) =
    sym (append_assoc p.size p.content x) ∙ ap (λ (v : List ℕ). v ++ x) (sym p.whole) ∙ e ∙ ap (λ (v : List ℕ). v ++ y) q.whole ∙ append_assoc q.size q.content y in
    let sizes = length_prefix r (length p.content) (length q.content) p.size q.size (p.content ++ x) (q.content ++ y) p.is_length q.is_length whole in
    let contents = (same_prefix p.content q.content x y sizes.1 sizes.2).0 in
    (one_tree r 1 f g p.content q.content contents p.inside q.inside, p.whole ∙ ap (λ (v : List ℕ). v ++ p.content) sizes.0 ∙ ap (λ (v : List ℕ). q.size ++ v) contents ∙ sym q.whole)

pub spellings_are_one : SpellingsAreOne
spellings_are_one d f a b p q = spelled d f a p ∙ sym (spelled d f b q)

pub sized_spellings_are_one : SizedSpellingsAreOne
sized_spellings_are_one f a b p q =
    let contents = spellings_are_one 1 f p.content q.content p.inside q.inside in
    let sizes = length_spelled (length p.content) p.size p.is_length ∙ ap (λ (v : List ℕ). length_bytes (length v)) contents ∙ sym (length_spelled (length q.content) q.size q.is_length) in
    p.whole ∙ ap (λ (v : List ℕ). v ++ p.content) sizes ∙ ap (λ (v : List ℕ). q.size ++ v) contents ∙ sym q.whole

-- what is alive as a whole has no place
at_end : {V : Type 0} (spells : V → List ℕ → Type 0) (bytes : List ℕ) (k : ℕ) → Alive spells bytes → Place spells bytes k → ⊥
at_end spells bytes k a p = dead_beyond spells bytes k (length bytes) p p.present (subst (Alive spells) (sym (take-length bytes)) a)

-- what fills the room has none within it
beyond : (r : Reading) (d room : ℕ) (bytes : List ℕ) (f : Objects) (k : ℕ) → room ≤ length bytes → Spells r d f (take room bytes) → PlaceIn r d room bytes k → ⊥
beyond r d room bytes f k short s p =
    let same = sym (append-nil (take room bytes)) in
    dead_beyond (Filled r d room) bytes k room p.0 p.1
    (record { value = f; rest = []; spelled = (subst (Spells r d f) same s, ap length (sym same) ∙ length-take-le room bytes short) })

-- what refuses has one place and one reason
refused_once : (V : Type 0) (q q' : Scan V) (j k : ℕ) (w w' : Why) → q ≡ Refused j w → q' ≡ Refused k w' → j ≡ k → w ≡ w' → q ≡ q'
refused_once V q q' j k w w' is is' e i = cc

pub answers_are_one : AnswersAreOne
answers_are_one r d room bytes (Whole f) (Whole g) p q = ap Whole (one_tree r d f g (take room bytes) (take room bytes) refl p.1 q.1)
answers_are_one r d room bytes (Whole f) More p q = absurd (omega (arith, p.0, q.0))
answers_are_one r d room bytes (Whole f) (Refused k w) p q = absurd (beyond r d room bytes f k p.0 p.1 q.0)
answers_are_one r d room bytes More (Whole g) p q = absurd (omega (arith, p.0, q.0))
answers_are_one r d room bytes More More p q = refl
answers_are_one r d room bytes More (Refused k w) p q = absurd (at_end (Filled r d room) bytes k p.1 q.0.0)
answers_are_one r d room bytes (Refused j v) (Whole g) p q = absurd (beyond r d room bytes g j q.0 q.1 p.0)
answers_are_one r d room bytes (Refused j v) More p q = absurd (at_end (Filled r d room) bytes j q.1 p.0.0)
answers_are_one r d room bytes (Refused j v) (Refused k w) p q =
    let e = place_once (Filled r d room) bytes j k p.0.0 q.0.0 in
    refused_once Objects (Refused j v) (Refused k w) j k v w refl refl e (why_once r d room k bytes v w (subst (λ (n : ℕ). WhyIn r d room bytes n v) e p.1) q.1)

-- the length and the objects that come first are one
found_once : (r : Reading) (room : ℕ) (bytes : List ℕ) (f g : Objects) (m n : ℕ) → SizedFound r room bytes f m → SizedFound r room bytes g n → (f ≡ g) × (m ≡ n)
found_once r room bytes f g m n p q =
    let e = sized_end_themselves r f g (take m bytes) (take n bytes) (drop m bytes) (drop n bytes) p.spelled.spelled q.spelled.spelled (take-append-drop m bytes ∙ sym (take-append-drop n bytes)) in
    (e.0, omega (arith, ap length e.1, length-take-le m bytes p.present, length-take-le n bytes q.present))

sized_why_once : (r : Reading) (room k : ℕ) (bytes : List ℕ) (w w' : Why) → WhySized r room bytes k w → WhySized r room bytes k w' → w ≡ w'
sized_why_once r room k bytes w w' p q =
    let same = sized_positions_are_one r room p.openers q.openers (take k bytes) p.at q.at p.role q.role p.left q.left p.stands q.stands in
    one_fault r p.at q.at p.role q.role p.left q.left p.byte q.byte w w' same.0 same.1 same.2 (sym p.is_byte ∙ q.is_byte) p.fails q.fails

pub sized_answers_are_one : SizedAnswersAreOne
sized_answers_are_one r room bytes (Whole u) (Whole v) p q =
    let e = found_once r room bytes u.0 v.0 u.1 v.1 p q in whole_once (Whole u) (Whole v) u.0 v.0 u.1 v.1 refl refl e.0 e.1
  where
    whole_once : (q q' : Scan (Objects × ℕ)) (f g : Objects) (m n : ℕ) → q ≡ Whole (f, m) → q' ≡ Whole (g, n) → f ≡ g → m ≡ n → q ≡ q'
    whole_once q q' f g m n is is' e i = cc
sized_answers_are_one r room bytes (Whole u) More p q = absurd (q.none_whole u.0 (take u.1 bytes) (drop u.1 bytes) (sym (take-append-drop u.1 bytes)) p.spelled)
sized_answers_are_one r room bytes (Whole u) (Refused k w) p q = absurd (q.0 u.0 (take u.1 bytes) (drop u.1 bytes) (sym (take-append-drop u.1 bytes)) p.spelled)
sized_answers_are_one r room bytes More (Whole v) p q = absurd (p.none_whole v.0 (take v.1 bytes) (drop v.1 bytes) (sym (take-append-drop v.1 bytes)) q.spelled)
sized_answers_are_one r room bytes More More p q = refl
sized_answers_are_one r room bytes More (Refused k w) p q = absurd (at_end (SizedIn r room) bytes k p.alive q.1)
sized_answers_are_one r room bytes (Refused j w) (Whole v) p q = absurd (p.0 v.0 (take v.1 bytes) (drop v.1 bytes) (sym (take-append-drop v.1 bytes)) q.spelled)
sized_answers_are_one r room bytes (Refused j w) More p q = absurd (at_end (SizedIn r room) bytes j q.alive p.1)
sized_answers_are_one r room bytes (Refused j v) (Refused k w) p q =
    let e = place_once (SizedIn r room) bytes j k p.1 q.1 in
    refused_once (Objects × ℕ) (Refused j v) (Refused k w) j k v w refl refl e (sized_why_once r room k bytes v w (subst (λ (n : ℕ). WhySized r room bytes n v) e p.2) q.2)

pub answers_stay : AnswersStay
answers_stay r d room bytes more (Whole f) ne p =
    (omega (arith, p.0, length-append bytes more), subst (Spells r d f) (sym (take-append-le room bytes more p.0)) p.1)
answers_stay r d room bytes more More ne p = absurd (ne refl)
answers_stay r d room bytes more (Refused k w) ne p = (
  (place_more (Filled r d room) bytes more k p.0.0, p.0.1),
  record {
    openers = p.1.openers;
    at = p.1.at;
    role = p.1.role;
    left = p.1.left;
    byte = p.1.byte;
    stands = subst (λ (b : List ℕ). Position r d room p.1.openers b p.1.at p.1.role p.1.left) (sym (take-append-le k bytes more (omega (arith, p.0.0.present)))) p.1.stands;
    is_byte = byte_more bytes more k p.1.byte p.1.is_byte;
    fails = p.1.fails;
  },
)

pub sized_answers_stay : SizedAnswersStay
sized_answers_stay r room bytes more (Whole u) ne p = record {
  present = omega (arith, p.present, length-append bytes more);
  spelled = subst (SizedIn r room u.0) (sym (take-append-le u.1 bytes more p.present)) p.spelled;
}
sized_answers_stay r room bytes more More ne p = absurd (ne refl)
sized_answers_stay r room bytes more (Refused k w) ne p = (
  none_more (SizedIn r room) bytes more k p.0 p.1,
  place_more (SizedIn r room) bytes more k p.1,
  record {
    openers = p.2.openers;
    at = p.2.at;
    role = p.2.role;
    left = p.2.left;
    byte = p.2.byte;
    stands = subst (λ (b : List ℕ). PositionSized r room p.2.openers b p.2.at p.2.role p.2.left) (sym (take-append-le k bytes more (omega (arith, p.1.present)))) p.2.stands;
    is_byte = byte_more bytes more k p.2.byte p.2.is_byte;
    fails = p.2.fails;
  },
)

pub faults_are_one : FaultsAreOne
faults_are_one f Kind Kind p q = refl
faults_are_one f Kind TooDeep p q = absurd (cc (p, q.0))
faults_are_one f Kind TooLarge p q = absurd (cc (p, q.0))
faults_are_one f TooDeep Kind p q = absurd (cc (p.0, q))
faults_are_one f TooDeep TooDeep p q = refl
faults_are_one f TooDeep TooLarge p q = absurd (cc (p.1, q.1))
faults_are_one f TooLarge Kind p q = absurd (cc (p.0, q))
faults_are_one f TooLarge TooDeep p q = absurd (cc (p.1, q.1))
faults_are_one f TooLarge TooLarge p q = refl

pub faultless : SpelledIsFaultless
faultless f v s h = no_spelling f v h s
