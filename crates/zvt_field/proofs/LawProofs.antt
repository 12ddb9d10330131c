-- The laws of the grammar, put together.
use Rattle.std.proofs.Common.{◌≡◌, ℕ, ◌+◌, ◌-◌, ◌≤◌, suc, Option, Some, None, List, [], ◌∷◌, ◌++◌, length, take, drop, refl, sym, ◌∙◌, ap, subst, arith, length-append}
use Rattle.std.proofs.lemmas.List.{length-take-le, take-append-drop, take-append-le}
use Rattle.std.proofs.Math.Seq.{take-add}
use Rattle.zvt_grammar.specs.Reading.{Reading}
use Rattle.zvt_grammar.proofs.CutLemmas.{cuts_are_one}
use Rattle.zvt_grammar.specs.declared.answer.Scan.TheVariants.{Whole, More, Refused}
use Rattle.zvt_tlv.proofs.Places.{place_more, byte_more}
use Rattle.zvt_field.specs.declared.shapes.Shape.{Shape}
use Rattle.zvt_field.specs.declared.bodies.BadField.TheVariants.{Unknown, Size, NotDigit}
use Rattle.zvt_field.specs.Shapes.{shape_of}
use Rattle.zvt_field.specs.Grammar.{Field, FieldOf, FieldList, Filled}
use Rattle.zvt_field.specs.Bodies.{name_of, size_agrees}
use Rattle.zvt_grammar.specs.declared.why.Why.{Why}
use Rattle.zvt_field.specs.Judging.{AliveIn, PlaceIn, WhyIn, Position, fault}
use Rattle.zvt_field.specs.Laws.{EachSizeIsFilled, EachBeginningStands, PositionsAreOne, TestsDecide, RefusalsAreOne, FieldsEndThemselves, ListsAreOne, ListsHaveOne, AnswersAreOne, AnswersStay, BegunAreOne, FaultsAreOne, SpelledIsFaultless}
use Rattle.zvt_field.proofs.FieldLists.{filler, filling, filling_size, filled, field_prefix, one_list}
use Rattle.zvt_field.proofs.Counts.{fit, alive_prefix}
use Rattle.zvt_field.proofs.Exists.{alive_stands}
use Rattle.zvt_field.proofs.Spellings.{list_spelled, agrees, listed}
use Rattle.zvt_field.proofs.Positions.{stands, stands_once, why_once, place_once}

pub each_size_is_filled : EachSizeIsFilled
each_size_is_filled r n ne = (filler n, filling n, filled r n, filling_size n ne)

pub tests_decide : TestsDecide
tests_decide r room os b role left x a p lt =
    let f = fit r os room b role left x p lt a in
    (f.0, λ h. passes (fault r role left x) refl h (λ w e k. f.1 w e k))
  where
    passes : (o : Option Why) → fault r role left x ≡ o → AliveIn r room (b ++ x ∷ []) → ((w : Why) → fault r role left x ≡ Some w → AliveIn r room (b ++ x ∷ []) → ⊥) → fault r role left x ≡ None
    passes None e h k = e
    passes (Some w) e h k = absurd (k w e h)

pub refusals_are_one : RefusalsAreOne
refusals_are_one r room j k b v w p q x y =
    let e = place_once r room j k b p q in
    (e, why_once r room k b v w (subst (λ (n : ℕ). WhyIn r room b n v) e x) y)

pub fields_end_themselves : FieldsEndThemselves
fields_end_themselves r f g a b x y p q e = let s = field_prefix r f g a b x y p q e in (s.1, s.0)

pub lists_are_one : ListsAreOne
lists_are_one r fs gs b p q = one_list r fs gs b b refl p q

pub begun_are_one : BegunAreOne
begun_are_one r b fs gs p q = (cuts_are_one (FieldOf r) (fields_end_themselves r) b fs gs p.0 q.0 p.1 q.1).0

pub each_beginning_stands : EachBeginningStands
each_beginning_stands r room b a lt = let s = alive_stands r room b a lt in (s.openers, s.role, s.left, s.position)

pub positions_are_one : PositionsAreOne
positions_are_one r room os qs b role role' left left' p q = stands_once r room b role role' left left' (stands r room os b role left p) (stands r room qs b role' left' q)

pub one_spelling : ListsHaveOne
one_spelling fs a b p q = list_spelled fs a p ∙ sym (list_spelled fs b q)

-- the answers exclude each other
whole_alive : (r : Reading) (room place : ℕ) (b : List ℕ) (fs : List Field) → room ≤ length b → FieldList r fs (take room b) → PlaceIn r room b place → ⊥
whole_alive r room place b fs le p q =
    let e : suc place + (room - suc place) ≡ room = omega (arith, q.1) in
    let whole : take (suc place) b ++ take (room - suc place) (drop (suc place) b) ≡ take room b = sym (take-add (suc place) (room - suc place) b) ∙ ap (λ (n : ℕ). take n b) e in
    q.0.dead (record {
      value = fs;
      rest = take (room - suc place) (drop (suc place) b);
      spelled = (subst (FieldList r fs) (sym whole) p, ap length whole ∙ length-take-le room b le);
    })

more_alive : (r : Reading) (room place : ℕ) (b : List ℕ) → AliveIn r room b → PlaceIn r room b place → ⊥
more_alive r room place b a q = q.0.dead (alive_prefix r room (take (suc place) b) (drop (suc place) b) (subst (AliveIn r room) (sym (take-append-drop (suc place) b)) a))

pub one_answer : AnswersAreOne
one_answer r room b (Whole fs) (Whole gs) p q = ap (λ (l : List Field). Whole l) (one_list r fs gs (take room b) (take room b) refl p.1 q.1)
one_answer r room b (Whole fs) More p q = absurd (omega (arith, p.0, q.0))
one_answer r room b (Whole fs) (Refused k w) p q = absurd (whole_alive r room k b fs p.0 p.1 q.0)
one_answer r room b More (Whole fs) p q = absurd (omega (arith, p.0, q.0))
one_answer r room b More More p q = refl
one_answer r room b More (Refused k w) p q = absurd (more_alive r room k b p.1 q.0)
one_answer r room b (Refused j v) (Whole fs) p q = absurd (whole_alive r room j b fs q.0 q.1 p.0)
one_answer r room b (Refused j v) More p q = absurd (more_alive r room j b q.1 p.0)
one_answer r room b (Refused j v) (Refused k w) p q =
    let one = refusals_are_one r room j k b v w p.0 q.0 p.1 q.1 in
    let places : j ≡ k = one.0 in
    let whys : v ≡ w = one.1 in
    cc (places, whys)

pub answers_stay : AnswersStay
answers_stay r room bytes more (Whole fs) ne p =
    (omega (arith, p.0, length-append bytes more), subst (FieldList r fs) (sym (take-append-le room bytes more p.0)) p.1)
answers_stay r room bytes more More ne p = absurd (ne refl)
answers_stay r room bytes more (Refused k w) ne p = (
  (place_more (Filled r room) bytes more k p.0.0, p.0.1),
  record {
    openers = p.1.openers;
    role = p.1.role;
    left = p.1.left;
    byte = p.1.byte;
    stands = subst (λ (b : List ℕ). Position r room p.1.openers b p.1.role p.1.left) (sym (take-append-le k bytes more (omega (arith, p.0.0.present)))) p.1.stands;
    is_byte = byte_more bytes more k p.1.byte p.1.is_byte;
    fails = p.1.fails;
  },
)

-- a field's faults
same_shape : (o : Option Shape) (s t : Shape) → o ≡ Some s → o ≡ Some t → s ≡ t
same_shape o s t p q = let e : Some s ≡ Some t = sym p ∙ q in cc (e)

pub one_fault : FaultsAreOne
one_fault f Unknown Unknown p q = refl
one_fault f Unknown Size p (s, is, e) = absurd (cc (p, is))
one_fault f Unknown NotDigit p (s, is, e, wrong) = absurd (cc (p, is))
one_fault f Size Unknown (s, is, e) q = absurd (cc (q, is))
one_fault f Size Size p q = refl
one_fault f Size NotDigit (s, is, e) (t, is', e', wrong) = let same = same_shape (shape_of (name_of f)) s t is is' in absurd (cc (e, e', ap (λ (u : Shape). size_agrees u f) same))
one_fault f NotDigit Unknown (s, is, e, wrong) q = absurd (cc (q, is))
one_fault f NotDigit Size (s, is, e, wrong) (t, is', e') = let same = same_shape (shape_of (name_of f)) s t is is' in absurd (cc (e, e', ap (λ (u : Shape). size_agrees u f) same))
one_fault f NotDigit NotDigit p q = refl

pub faultless : SpelledIsFaultless
faultless f Unknown h p = listed f h p
faultless f Size h (s, is, e) = let a = (agrees f s h is).0 in cc (e, a)
faultless f NotDigit h (s, is, e, wrong) = wrong (agrees f s h is).1
