-- A length and its objects are a constructed object of a tag of one byte at depth 0, without the tag.
use Rattle.std.proofs.Common.{◌≡◌, ℕ, ◌<◌, ◌≤◌, true, List, [], ◌∷◌, ◌++◌, length, refl, sym, ◌∙◌, ap, subst, append_assoc, arith, length-append, ◌⊎◌, suc, inl, inr}
use Rattle.std.proofs.lemmas.Bool.{cases_lt}
use Rattle.std.proofs.lemmas.List.{append-nil, append_cancel_left}
use Rattle.zvt_grammar.specs.Reading.{Reading}
use Rattle.zvt_tlv.specs.Grammar.{Objects, none, primitive, constructed, Spells, is_constructed}
use Rattle.zvt_tlv.specs.Judging.{AliveIn, Role, Tagged, Opener, Position, fault}
use Rattle.zvt_grammar.specs.Beginnings.{Alive}
use Rattle.zvt_tlv.specs.Sized.{Sized, SizedIn, PositionSized}
use Rattle.zvt_tlv.proofs.Spelling.{tag_prefix, not_single, filler, filling, filling_size, filled}
use Rattle.zvt_tlv.proofs.Alive.{prefix_of, fit, says_of}
use Rattle.zvt_tlv.proofs.Room.{Says}
use Rattle.zvt_tlv.proofs.Unique.{Unfinished, begins_unfinished, opened_unfinished}

-- the tag that represents what is before the length
abbrev pub opening : List ℕ
opening = 0x25 ∷ []

opening_tag : Tagged 0 true opening
opening_tag = record { is_tag = (omega arith, refl); is_kind = refl; deep = λ e. omega arith }

-- after the tag, an object and objects that fill
as_objects : (r : Reading) (f g : Objects) (one after : List ℕ) → Sized r f one → Spells r 0 g after → Spells r 0 (constructed opening f g) (0x25 ∷ (one ++ after))
as_objects r f g one after p q = record {
  size = p.size;
  content = p.content;
  after = after;
  whole = ap (λ (s : List ℕ). 0x25 ∷ (s ++ after)) p.whole ∙ ap (λ (s : List ℕ). 0x25 ∷ s) (append_assoc p.size p.content after);
  is_tag = opening_tag.is_tag;
  is_kind = refl;
  is_length = p.is_length;
  inside = (omega arith, p.inside);
  others = q;
}

-- what comes after the tag
pub record After (r : Reading) (s : List ℕ) : Type 0 where
  pub objects : Objects
  pub others : Objects
  pub one : List ℕ
  pub after : List ℕ
  pub whole : s ≡ one ++ after
  pub sized : Sized r objects one
  pub spelled : Spells r 0 others after

pub trailing : (r : Reading) (f : Objects) (s : List ℕ) → Spells r 0 f (0x25 ∷ s) → After r s
trailing r none s p = absurd (omega (arith, ap length p))
trailing r (primitive tag c rest) s p =
    let one = tag_prefix opening tag s (p.size ++ (p.content ++ p.after)) opening_tag.is_tag p.is_tag p.whole in
    absurd (cc (ap is_constructed one.0, p.is_kind))
trailing r (constructed tag inner rest) s p =
    let one = tag_prefix opening tag s (p.size ++ (p.content ++ p.after)) opening_tag.is_tag p.is_tag p.whole in
    record {
      objects = inner;
      others = rest;
      one = p.size ++ p.content;
      after = p.after;
      whole = one.1 ∙ sym (append_assoc p.size p.content p.after);
      sized = record { size = p.size; content = p.content; whole = refl; is_length = p.is_length; inside = p.inside.1 };
      spelled = p.others;
    }

-- each length with its objects that goes with the bytes is not shorter
abbrev pub NotLonger : Reading → List ℕ → Type 0
NotLonger r c = (f : Objects) (one x y : List ℕ) → Sized r f one → c ++ x ≡ one ++ y → length c ≤ length one

-- alive in the room is alive after the tag
pub sized_object : (r : Reading) (room : ℕ) (c : List ℕ) → Alive (SizedIn r room) c → AliveIn r 0 (suc room) (0x25 ∷ c)
sized_object r room c h =
    let p = h.spelled in
    let e : 0x25 ∷ ((c ++ h.rest) ++ filling p.left) ≡ (0x25 ∷ c) ++ (h.rest ++ filling p.left) = ap (λ (s : List ℕ). 0x25 ∷ s) (append_assoc c h.rest (filling p.left)) in
    record {
      value = constructed opening h.value (filler p.left);
      rest = h.rest ++ filling p.left;
      spelled = (
        subst (Spells r 0 (constructed opening h.value (filler p.left))) e (as_objects r h.value (filler p.left) (c ++ h.rest) (filling p.left) p.spelled (filled r 0 p.left)),
        omega (arith, sym (ap length e), length-append (c ++ h.rest) (filling p.left), filling_size p.left p.apart, p.filled),
      );
    }

pub object_sized : (r : Reading) (room : ℕ) (c : List ℕ) → NotLonger r c → AliveIn r 0 (suc room) (0x25 ∷ c) → Alive (SizedIn r room) c
object_sized r room c longer h =
    let b = trailing r h.value (c ++ h.rest) h.spelled.0 in
    let m = prefix_of c h.rest b.one b.after b.whole (longer b.objects b.one h.rest b.after b.sized b.whole) in
    let tail : h.rest ≡ m.0 ++ b.after = append_cancel_left c h.rest (m.0 ++ b.after) (b.whole ∙ ap (λ (s : List ℕ). s ++ b.after) m.1 ∙ append_assoc c m.0 b.after) in
    record {
      value = b.objects;
      rest = m.0;
      spelled = record {
        spelled = subst (Sized r b.objects) m.1 b.sized;
        left = length b.after;
        filled = omega (arith, h.spelled.1, length-append c h.rest, ap length tail, length-append m.0 b.after, length-append c m.0);
        apart = not_single r 0 b.others b.after b.spelled;
      };
    }

-- a position as one after the tag
opener_of : Opener → Opener
opener_of o = record { items = none; done = []; tag = opening; size = o.size; content = o.content }

pub openers_of : List Opener → List Opener
unfolding opener_of
openers_of [] = []
openers_of (o ∷ os) = opener_of o ∷ os

pub position_object : (r : Reading) (room : ℕ) (os : List Opener) (b : List ℕ) (at : ℕ) (role : Role) (left : ℕ) → PositionSized r room os b at role left →
    Position r 0 (suc room) (openers_of os) (0x25 ∷ b) at role left
unfolding openers_of opener_of
position_object r room [] b at role left p = (none, [], 0x25 ∷ b, refl, refl, p.0, omega (arith, p.1), p.2)
position_object r room (o ∷ os) b at role left (inside, e, l, short, position) =
    (inside, ap (λ (s : List ℕ). 0x25 ∷ s) e, refl, opening_tag, l, short, position)

pub position_unfinished : (r : Reading) (room : ℕ) (os : List Opener) (b : List ℕ) (at : ℕ) (role : Role) (left : ℕ) → PositionSized r room os b at role left →
    Unfinished r 0 (0x25 ∷ b)
position_unfinished r room [] b at role left p = begins_unfinished r 0 role (0x25 ∷ b) p.0
position_unfinished r room (o ∷ os) b at role left (inside, e, l, short, position) =
    opened_unfinished r 0 o.content opening o.size inside (0x25 ∷ b) opening_tag.is_tag l (ap (λ (s : List ℕ). 0x25 ∷ s) e) short

-- an open length with its objects is shorter than each whole one
pub open_shorter : (r : Reading) (b : List ℕ) → Unfinished r 0 (0x25 ∷ b) → (f : Objects) (one x y : List ℕ) → Sized r f one → b ++ x ≡ one ++ y → length b < length one
unfolding Unfinished
open_shorter r b u f one x y p e = by_size (cases_lt (length b) (length one))
  where
    by_size : ((length b < length one) ⊎ (length one ≤ length b)) → length b < length one
    by_size (inl lt) = lt
    by_size (inr ge) =
        let m = prefix_of one y b x (sym e) ge in
        let q = as_objects r f none one [] p refl in
        absurd (u (constructed opening f none) (0x25 ∷ (one ++ [])) m.0 q (omega arith)
        (ap (λ (s : List ℕ). 0x25 ∷ s) (m.1 ∙ ap (λ (s : List ℕ). s ++ m.0) (sym (append-nil one)))))

pub not_longer : (r : Reading) (b : List ℕ) → Unfinished r 0 (0x25 ∷ b) → NotLonger r b
not_longer r b u f one x y p e = omega (arith, open_shorter r b u f one x y p e)

pub not_longer_more : (r : Reading) (b : List ℕ) (z : ℕ) → Unfinished r 0 (0x25 ∷ b) → NotLonger r (b ++ z ∷ [])
not_longer_more r b z u f one x y p e =
    omega (arith, open_shorter r b u f one (z ∷ x) y p (sym (append_assoc b (z ∷ []) x) ∙ e), length-append b (z ∷ []))

-- at any position: a byte's tests pass exactly where it leaves the bytes alive
pub fit_sized : (r : Reading) (room : ℕ) (os : List Opener) (b : List ℕ) (at : ℕ) (role : Role) (left x : ℕ) → PositionSized r room os b at role left →
    x < 256 → Alive (SizedIn r room) b → Says (fault r at role left x) (Alive (SizedIn r room) (b ++ x ∷ []))
fit_sized r room os b at role left x p lt a =
    let u = position_unfinished r room os b at role left p in
    let f = fit r (openers_of os) 0 (suc room) (0x25 ∷ b) at role left x (position_object r room os b at role left p) lt (sized_object r room b a) in
    says_of (fault r at role left x) (AliveIn r 0 (suc room) (0x25 ∷ (b ++ x ∷ []))) (Alive (SizedIn r room) (b ++ x ∷ []))
    (object_sized r room (b ++ x ∷ []) (not_longer_more r b x u)) (sized_object r room (b ++ x ∷ [])) f
