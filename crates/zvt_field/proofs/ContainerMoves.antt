-- What the reader of fields takes over from the reader of a length and its objects.
use Rattle.std.proofs.Common.{◌≡◌, ℕ, ◌+◌, ◌-◌, ◌<◌, ◌^◌, Some, List, [], ◌∷◌, ◌++◌, length, take, drop, slice_index_or, get_or, refl, sym, ◌∙◌, ap, subst, arith, length-append, suc}
use Rattle.std.proofs.lemmas.List.{append-nil, length-take-le, take-append-drop, take_rest}
use Rattle.std.proofs.lemmas.Option.{get_or_from_slice_get}
use Rattle.std.proofs.Math.Seq.{take-suc}
use Rattle.zvt_grammar.specs.declared.why.Why.{Why}
use Rattle.zvt_grammar.specs.declared.answer.Scan.{Scan}
use Rattle.zvt_grammar.specs.declared.answer.Scan.TheVariants.{Whole, More, Refused}
use Rattle.zvt_grammar.specs.Reading.{Reading}
use Rattle.zvt_tlv.specs.Grammar.{Objects}
use Rattle.zvt_grammar.specs.Beginnings.{Alive, NoneWhole, Unfinished, Place}
use Rattle.zvt_tlv.specs.Sized.{SizedIn, WhySized, SizedFound, AnswersSized}
use Rattle.zvt_tlv.proofs.SizedLemmas.{position_unfinished, not_longer_more}
use Rattle.zvt_field.specs.declared.shapes.Shape.TheVariants.{Tree}
use Rattle.zvt_field.specs.Shapes.{shape_of}
use Rattle.zvt_field.specs.Grammar.{Field, tree, FieldOf}
use Rattle.zvt_field.specs.Judging.{AliveIn, PlaceIn, WhyIn, in_container}
use Rattle.zvt_field.specs.Answers.{FieldFound, AnswersOne, InContainer}
use Rattle.zvt_field.specs.Bodies.{HasSpelling}
use Rattle.zvt_field.proofs.Fit.{alive_container, container_alive}
use Rattle.zvt_field.proofs.NoneFound.{none_inside}
use Rattle.zvt_field.proofs.Shortening.{field_small}

-- what is open has room for a byte
open_room : (r : Reading) (level : ℕ) (c rest : List ℕ) (f : Objects) → SizedIn r level f (c ++ rest) → (SizedIn r level f c → ⊥) → length c < level
open_room r level c [] f s none = absurd (none (subst (SizedIn r level f) (append-nil c) s))
open_room r level c (x ∷ rest) f s none = omega (arith, s.filled, length-append c (x ∷ rest))

pub container_whole : (r : Reading) (bmp level n : ℕ) (inside : List ℕ) (f : Objects) → shape_of bmp ≡ Some Tree → SizedFound r level inside f n → FieldFound r (suc level) (bmp ∷ inside) (tree bmp f) (suc n)
container_whole r bmp level n inside f is s = record {
  present = omega (arith, s.present);
  spelled = record { one = take n inside; whole = refl; is_tree = is; sized = s.spelled.spelled };
  left = s.spelled.left;
  filled = omega (arith, s.spelled.filled, length-take-le n inside s.present);
  apart = s.spelled.apart;
}

pub container_more : (r : Reading) (bmp level : ℕ) (inside : List ℕ) → shape_of bmp ≡ Some Tree → Unfinished (SizedIn r level) inside →
    (length (bmp ∷ inside) < suc level) × AliveIn r (suc level) (bmp ∷ inside) × NoneWhole (FieldOf r) (bmp ∷ inside)
container_more r bmp level inside is u =
    let none = λ (s : SizedIn r level u.alive.value inside). u.none_whole u.alive.value inside [] (sym (append-nil inside)) s in
    let few = open_room r level inside u.alive.rest u.alive.value u.alive.spelled none in
    (omega arith, container_alive r bmp level inside is u.alive, none_inside r bmp level inside u.alive.rest u.alive.value is u.alive.spelled none)

pub container_refused : (r : Reading) (bmp level p : ℕ) (inside : List ℕ) (why : Why) → shape_of bmp ≡ Some Tree → NoneWhole (SizedIn r level) inside × Place (SizedIn r level) inside p × WhySized r level inside p why →
    PlaceIn r (suc level) (bmp ∷ inside) (suc p) × WhyIn r (suc level) (bmp ∷ inside) (suc p) why × NoneWhole (FieldOf r) (bmp ∷ take p inside)
container_refused r bmp level p inside why is (none, place, reason) =
    let u = position_unfinished r level reason.openers (take p inside) reason.at reason.role reason.left reason.stands in
    let same : get_or inside p 0 ≡ reason.byte = get_or_from_slice_get inside p reason.byte 0 reason.is_byte in
    let more : take p inside ++ reason.byte ∷ [] ≡ take (suc p) inside = ap (λ (x : ℕ). take p inside ++ x ∷ []) (sym same) ∙ sym (take-suc inside p 0 place.present) in
    let missing = λ (s : SizedIn r level place.alive.value (take p inside)). none place.alive.value (take p inside) (drop p inside) (sym (take-append-drop p inside)) s in
    let room = open_room r level (take p inside) place.alive.rest place.alive.value place.alive.spelled missing in
    let long : length (take p inside) ≡ p = length-take-le p inside (omega (arith, place.present)) in (
      (
        record {
          present = omega (arith, place.present);
          alive = container_alive r bmp level (take p inside) is place.alive;
          dead = λ h. place.dead (subst (Alive (SizedIn r level)) more
              (alive_container r bmp level (take p inside ++ reason.byte ∷ []) is (not_longer_more r (take p inside) reason.byte u)
              (subst (λ (s : List ℕ). AliveIn r (suc level) (bmp ∷ s)) (sym more) h)));
        },
        omega (arith, room, long),
      ),
      record {
        openers = reason.openers;
        role = in_container reason.at reason.role;
        left = reason.left;
        byte = reason.byte;
        stands = record { fields = []; done = []; bmp = bmp; inside = take p inside; whole = refl; spelled = refl; is_tree = is; level = level; filled = omega arith; stands = reason.stands };
        is_byte = reason.is_byte;
        fails = reason.fails;
      },
      none_inside r bmp level (take p inside) place.alive.rest place.alive.value is place.alive.spelled missing,
    )

abbrev Inner : (r : Reading) (room : ℕ) (bytes : List ℕ) → Scan (Objects × ℕ) → Type 0
Inner r room bytes q = AnswersSized r (room - 1) (take (length bytes - 1) (drop 1 bytes)) q

inner_at : (r : Reading) (room : ℕ) (bytes : List ℕ) (c : InContainer r room bytes) (q q' : Scan (Objects × ℕ)) → q ≡ q' → Inner r room bytes q → AnswersSized r c.level c.inside q'
inner_at r room bytes c q q' e h =
    let level : room - 1 ≡ c.level = omega (arith, c.filled) in
    let rest : take (length bytes - 1) (drop 1 bytes) ≡ c.inside = take_rest bytes 1 ∙ ap (drop 1) c.whole in
    subst (λ (m : ℕ). AnswersSized r m c.inside q') level (subst (λ (s : List ℕ). AnswersSized r (room - 1) s q') rest (subst (Inner r room bytes) e h))

abbrev Field' : (r : Reading) (room : ℕ) (bytes : List ℕ) → Scan (Field × ℕ) → Type 0
Field' r room bytes q = AnswersOne r room bytes q

out_at : (r : Reading) (room : ℕ) (bytes : List ℕ) (c : InContainer r room bytes) (q : Scan (Field × ℕ)) → Field' r (suc c.level) (c.bmp ∷ c.inside) q → Field' r room bytes q
out_at r room bytes c q h =
    subst (λ (m : ℕ). Field' r m bytes q) c.filled (subst (λ (s : List ℕ). Field' r (suc c.level) s q) (sym c.whole) h)

pub one_whole : (r : Reading) (room : ℕ) (bytes : List ℕ) (c : InContainer r room bytes) (f : Objects) (n : ℕ) (q : Scan (Objects × ℕ)) → q ≡ Whole (f, n) → Inner r room bytes q → AnswersOne r room bytes (Whole (tree (slice_index_or bytes 0 0) f, n + 1))
one_whole r room bytes c f n q e h =
    let w = out_at r room bytes c (Whole (tree c.bmp f, suc n)) (container_whole r c.bmp c.level n c.inside f c.is_tree (inner_at r room bytes c q (Whole (f, n)) e h)) in
    let first : c.bmp ≡ slice_index_or bytes 0 0 = ap (λ (s : List ℕ). slice_index_or s 0 0) (sym c.whole) in
    let size : suc n ≡ n + 1 = omega arith in
    subst (λ (m : ℕ). AnswersOne r room bytes (Whole (tree (slice_index_or bytes 0 0) f, m))) size (subst (λ (b : ℕ). AnswersOne r room bytes (Whole (tree b f, suc n))) first w)

pub one_more : (r : Reading) (room : ℕ) (bytes : List ℕ) (c : InContainer r room bytes) (q : Scan (Objects × ℕ)) → q ≡ More → Inner r room bytes q → AnswersOne r room bytes More
one_more r room bytes c q e h = out_at r room bytes c More (container_more r c.bmp c.level c.inside c.is_tree (inner_at r room bytes c q More e h))

pub one_refused : (r : Reading) (room : ℕ) (bytes : List ℕ) (c : InContainer r room bytes) (p : ℕ) (why : Why) (q : Scan (Objects × ℕ)) → q ≡ Refused p why → Inner r room bytes q → AnswersOne r room bytes (Refused (p + 1) why)
one_refused r room bytes c p why q e h =
    let w = out_at r room bytes c (Refused (suc p) why) (container_refused r c.bmp c.level p c.inside why c.is_tree (inner_at r room bytes c q (Refused p why) e h)) in
    let size : suc p ≡ p + 1 = omega arith in
    subst (λ (m : ℕ). AnswersOne r room bytes (Refused m why)) size w

pub found_spelling : (r : Reading) (room : ℕ) (bytes : List ℕ) (f : Field) (n : ℕ) → room < 2 ^ 16 → FieldFound r room bytes f n → HasSpelling f
found_spelling r room bytes f n small h = field_small r f (take n bytes) h.spelled (omega (arith, small, h.filled, length-take-le n bytes h.present))
