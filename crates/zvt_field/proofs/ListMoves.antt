-- The steps of the reader of a list of fields.
use Rattle.std.proofs.Common.{◌≡◌, ◌≢◌, ℕ, ◌+◌, ◌-◌, ◌<◌, ◌≤◌, ◌^◌, List, [], ◌∷◌, ◌++◌, length, take, drop, refl, sym, ◌∙◌, ap, subst, append_assoc, arith, length-append, length-drop, suc}
use Rattle.std.proofs.lemmas.List.{append-nil, length-take-le, take-append-drop, take_rest}
use Rattle.zvt_grammar.specs.declared.why.Why.{Why}
use Rattle.zvt_grammar.specs.declared.answer.Scan.{Scan}
use Rattle.zvt_grammar.specs.declared.answer.Scan.TheVariants.{Whole, More, Refused}
use Rattle.zvt_grammar.specs.Reading.{Reading, shortest}
use Rattle.zvt_tlv.specs.Judging.{Opener}
use Rattle.zvt_tlv.proofs.Levels.{byte_from, take_from}
use Rattle.zvt_field.specs.Grammar.{Field, FieldList}
use Rattle.zvt_field.specs.Judging.{AliveIn, PlaceIn, WhyIn, Role, name, digit, in_content, in_container, Here, Position}
use Rattle.zvt_field.specs.Answers.{AnswersOne}
use Rattle.zvt_field.specs.Bodies.{HaveSpelling}
use Rattle.zvt_field.specs.Lists.{HaveSize}
use Rattle.zvt_field.proofs.Shortening.{fields_small}
use Rattle.zvt_field.proofs.FieldLists.{list_joined, alive_joined, alive_apart, field_size}

-- fields are read up to here
pub record ReadTo (r : Reading) (room : ℕ) (bytes : List ℕ) (fs : List Field) (k : ℕ) : Type 0 where
  pub present : k ≤ length bytes
  pub within : k ≤ room
  pub apart : room - k ≢ 1
  pub spelled : FieldList r fs (take k bytes)

here_after : (r : Reading) (room : ℕ) (fs : List Field) (a b : List ℕ) (role : Role) (left : ℕ) → FieldList r fs a → Here r room b role left → Here r (length a + room) (a ++ b) role left
here_after r room fs a b role left p h = record {
  fields = fs ++ h.fields;
  done = a ++ h.done;
  beginning = h.beginning;
  whole = ap (λ (s : List ℕ). a ++ s) h.whole ∙ sym (append_assoc a h.done h.beginning);
  spelled = list_joined r fs h.fields a h.done p h.spelled;
  begins = h.begins;
  filled = omega (arith, length-append a b, h.filled);
}

pub position_after : (r : Reading) (room : ℕ) (fs : List Field) (a : List ℕ) (os : List Opener) (b : List ℕ) (role : Role) (left : ℕ) → FieldList r fs a → Position r room os b role left →
    Position r (length a + room) os (a ++ b) role left
position_after r room fs a os b name left p h = (h.0, here_after r room fs a b name left p h.1)
position_after r room fs a os b (digit more before) left p h = (h.0, here_after r room fs a b (digit more before) left p h.1)
position_after r room fs a os b (in_content digits) left p h = (h.0, here_after r room fs a b (in_content digits) left p h.1)
position_after r room fs a os b (in_container at role) left p h = record {
  fields = fs ++ h.fields;
  done = a ++ h.done;
  bmp = h.bmp;
  inside = h.inside;
  whole = ap (λ (s : List ℕ). a ++ s) h.whole ∙ sym (append_assoc a h.done (h.bmp ∷ h.inside));
  spelled = list_joined r fs h.fields a h.done p h.spelled;
  is_tree = h.is_tree;
  level = h.level;
  filled = omega (arith, length-append a h.done, h.filled);
  stands = h.stands;
}

later : (k p : ℕ) (bytes : List ℕ) → take (suc (k + p)) bytes ≡ take k bytes ++ take (suc p) (drop k bytes)
later k p bytes = let e : suc (k + p) ≡ k + suc p = omega arith in ap (λ (m : ℕ). take m bytes) e ∙ take_from k (suc p) bytes

abbrev pub from : ℕ → List ℕ → List ℕ
from k bytes = take (length bytes - k) (drop k bytes)

pub one_at : (r : Reading) (n k : ℕ) (bytes : List ℕ) (q q' : Scan (Field × ℕ)) → q ≡ q' → AnswersOne r n (from k bytes) q → AnswersOne r n (drop k bytes) q'
one_at r n k bytes q q' e h = subst (λ (s : List ℕ). AnswersOne r n s q') (take_rest bytes k) (subst (AnswersOne r n (from k bytes)) e h)

pub next_field : (r : Reading) (room : ℕ) (bytes : List ℕ) (ts us : List Field) (k n : ℕ) (t : Field) (q : Scan (Field × ℕ)) → ReadTo r room bytes ts k → q ≡ Whole (t, n) → AnswersOne r (room - k) (from k bytes) q → us ≡ ts ++ t ∷ [] →
    ReadTo r room bytes us (k + n) × (0 < n)
next_field r room bytes ts us k n t q i is h e =
    let o = one_at r (room - k) k bytes q (Whole (t, n)) is h in
    let size : length (take n (drop k bytes)) ≡ n = length-take-le n (drop k bytes) o.present in
    let one : FieldList r (t ∷ []) (take n (drop k bytes)) = (take n (drop k bytes), [], sym (append-nil (take n (drop k bytes))), o.spelled, refl) in (
      record {
        present = omega (arith, o.present, length-drop k bytes, i.present);
        within = omega (arith, o.filled, i.within);
        apart = λ z. o.apart (omega (arith, o.filled, i.within));
        spelled = subst (λ (x : List Field). FieldList r x (take (k + n) bytes)) (sym e) (subst (FieldList r (ts ++ t ∷ [])) (sym (take_from k n bytes)) (list_joined r ts (t ∷ []) (take k bytes) (take n (drop k bytes)) i.spelled one));
      },
      omega (arith, field_size r t (take n (drop k bytes)) o.spelled, size),
    )

pub next_more : (r : Reading) (room : ℕ) (bytes : List ℕ) (ts : List Field) (k : ℕ) (q : Scan (Field × ℕ)) → ReadTo r room bytes ts k → q ≡ More → AnswersOne r (room - k) (from k bytes) q → (length bytes < room) × AliveIn r room bytes
next_more r room bytes ts k q i is h =
    let a = one_at r (room - k) k bytes q More is h in
    let total : length (take k bytes) + (room - k) ≡ room = omega (arith, length-take-le k bytes i.present, i.within) in (
      omega (arith, a.0, length-drop k bytes),
      subst (λ (m : ℕ). AliveIn r m bytes) total
          (subst (AliveIn r (length (take k bytes) + (room - k))) (take-append-drop k bytes) (alive_joined r (room - k) ts (take k bytes) (drop k bytes) i.spelled a.1)),
    )

pub next_refused : (r : Reading) (room : ℕ) (bytes : List ℕ) (ts : List Field) (k p : ℕ) (why : Why) (q : Scan (Field × ℕ)) → ReadTo r room bytes ts k → q ≡ Refused p why → AnswersOne r (room - k) (from k bytes) q →
    PlaceIn r room bytes (k + p) × WhyIn r room bytes (k + p) why
next_refused r room bytes ts k p why q i is h =
    let a = one_at r (room - k) k bytes q (Refused p why) is h in
    let place = a.0.0 in
    let reason = a.1 in
    let total : length (take k bytes) + (room - k) ≡ room = omega (arith, length-take-le k bytes i.present, i.within) in
    let position = position_after r (room - k) ts (take k bytes) reason.openers (take p (drop k bytes)) reason.role reason.left i.spelled reason.stands in (
      (
        record {
          present = omega (arith, place.present, length-drop k bytes);
          alive = subst (λ (m : ℕ). AliveIn r m (take (k + p) bytes)) total
              (subst (AliveIn r (length (take k bytes) + (room - k))) (sym (take_from k p bytes)) (alive_joined r (room - k) ts (take k bytes) (take p (drop k bytes)) i.spelled place.alive));
          dead = λ d. place.dead (alive_apart r (room - k) ts (take k bytes) (take (suc p) (drop k bytes)) i.spelled
              (subst (λ (m : ℕ). AliveIn r m (take k bytes ++ take (suc p) (drop k bytes))) (sym total) (subst (AliveIn r room) (later k p bytes) d)));
        },
        omega (arith, a.0.1),
      ),
      record {
        openers = reason.openers;
        role = reason.role;
        left = reason.left;
        byte = reason.byte;
        stands = subst (λ (m : ℕ). Position r m reason.openers (take (k + p) bytes) reason.role reason.left) total
            (subst (λ (b : List ℕ). Position r (length (take k bytes) + (room - k)) reason.openers b reason.role reason.left) (sym (take_from k p bytes)) position);
        is_byte = byte_from k p reason.byte bytes place.present reason.is_byte;
        fails = reason.fails;
      },
    )

pub have_size : (room k : ℕ) (bytes : List ℕ) (fs : List Field) → room < 2 ^ 16 → ReadTo shortest room bytes fs k → room ≤ k → HaveSize fs room
have_size room k bytes fs small i ended =
    record { bytes = take k bytes; spelled = i.spelled; sized = omega (arith, i.within, length-take-le k bytes i.present); small = small }

pub have_spelling : (r : Reading) (room k : ℕ) (bytes : List ℕ) (fs : List Field) → room < 2 ^ 16 → ReadTo r room bytes fs k → HaveSpelling fs
have_spelling r room k bytes fs small i = fields_small r fs (take k bytes) i.spelled (omega (arith, small, i.within, length-take-le k bytes i.present))
