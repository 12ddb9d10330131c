-- What is said of a part of a level is said of the level, and what is said inside an object is said of its level.
use Rattle.std.proofs.Common.{◌≡◌, ◌≢◌, ℕ, ◌+◌, ◌-◌, ◌<◌, ◌≤◌, Bool, true, false, Some, List, [], ◌∷◌, ◌++◌, length, take, drop, slice_get, get_or, refl, sym, ◌∙◌, ap, subst, append_assoc, arith, length-append, length-drop, suc}
use Rattle.std.proofs.Math.Seq.{take-add}
use Rattle.std.proofs.lemmas.List.{length-take-le, take-append-drop, append-nil, get_or-drop}
use Rattle.std.proofs.lemmas.Option.{slice_get-get_or, get_or_from_slice_get}
use Rattle.std.specs.declared.vec.Vec.{Vec}
use Rattle.std.specs.declared.alloc.Global.{Global}
use Rattle.zvt_grammar.specs.declared.why.Why.{Why}
use Rattle.zvt_tlv.specs.declared.heads.Head as declared
use Rattle.zvt_tlv.specs.declared.trees.Tlv.{Tlv}
use Rattle.zvt_tlv.specs.declared.trees.Body.TheVariants.{Prim, Cons}
use Rattle.zvt_grammar.specs.Reading.{Reading, AreBytes}
use Rattle.zvt_tlv.specs.Grammar.{Objects, none, IsLength, Spells}
use Rattle.zvt_tlv.specs.Judging.{content, AliveIn, PlaceIn, WhyIn, Role, Tagged, Opener, Position}
use Rattle.zvt_tlv.specs.Trees.{before, objects_of}
use Rattle.zvt_tlv.specs.Answers.{HeadFound, ObjectFound, ObjectsFound}
use Rattle.zvt_tlv.proofs.Spelling.{joined, spells_joined, not_single}
use Rattle.zvt_tlv.proofs.Room.{Fits}
use Rattle.zvt_tlv.proofs.Alive.{alive_size, alive_joined, alive_apart, alive_within, alive_inside, opener_fits, alive_bytes, bytes_prefix}
use Rattle.zvt_tlv.proofs.TreeLemmas.{before_prim, before_cons, before_some, objects_joined}

-- a position after complete objects
pub position_after : (r : Reading) (d room : ℕ) (f : Objects) (a : List ℕ) (os : List Opener) (b : List ℕ) (at : ℕ) (role : Role) (left : ℕ) →
    Spells r d f a → Position r d room os b at role left → (qs : List Opener) × Position r d (length a + room) qs (a ++ b) at role left
position_after r d room f a [] b at role left p (items, done, beginning, e, spelled, begins, filled, same) = (
  [],
  (
    joined f items,
    a ++ done,
    beginning,
    ap (λ (x : List ℕ). a ++ x) e ∙ sym (append_assoc a done beginning),
    spells_joined r d f items a done p spelled,
    begins,
    omega (arith, length-append a b, filled),
    same,
  ),
)
position_after r d room f a (o ∷ os) b at role left p (inside, e, spelled, tagged, l, short, position) = (
  record { items = joined f o.items; done = a ++ o.done; tag = o.tag; size = o.size; content = o.content } ∷ os,
  (inside, ap (λ (x : List ℕ). a ++ x) e ∙ sym (append_assoc a o.done (o.tag ++ (o.size ++ inside))), spells_joined r d f o.items a o.done p spelled, tagged, l, short, position),
)

-- the first bytes, and some of the others
pub take_from : (k n : ℕ) (bytes : List ℕ) → take (k + n) bytes ≡ take k bytes ++ take n (drop k bytes)
take_from k n bytes = take-add k n bytes

later : (k p : ℕ) (bytes : List ℕ) → take (suc (k + p)) bytes ≡ take k bytes ++ take (suc p) (drop k bytes)
later k p bytes = let e : suc (k + p) ≡ k + suc p = omega arith in ap (λ (m : ℕ). take m bytes) e ∙ take_from k (suc p) bytes

pub byte_from : (k n x : ℕ) (bytes : List ℕ) → n < length (drop k bytes) → slice_get (drop k bytes) n ≡ Some x → slice_get bytes (k + n) ≡ Some x
byte_from k n x bytes lt e =
    slice_get-get_or bytes (k + n) 0 (omega (arith, lt, length-drop k bytes))
    ∙ ap Some (sym (get_or-drop k bytes n 0) ∙ get_or_from_slice_get (drop k bytes) n x 0 e)

-- a refusal after complete objects
pub refused_after : (r : Reading) (d room k p : ℕ) (f : Objects) (bytes : List ℕ) (why : Why) → k ≤ length bytes → k ≤ room → Spells r d f (take k bytes) →
    PlaceIn r d (room - k) (drop k bytes) p × WhyIn r d (room - k) (drop k bytes) p why →
    PlaceIn r d room bytes (k + p) × WhyIn r d room bytes (k + p) why
refused_after r d room k p f bytes why short within spelled (place, reason) =
    let size : length (take k bytes) ≡ k = length-take-le k bytes short in
    let total : length (take k bytes) + (room - k) ≡ room = omega arith in
    let position = position_after r d (room - k) f (take k bytes) reason.openers (take p (drop k bytes)) reason.at reason.role reason.left spelled reason.stands in (
      (
        record {
          present = omega (arith, place.0.present, length-drop k bytes);
          alive = subst (λ (m : ℕ). AliveIn r d m (take (k + p) bytes)) total
              (subst (AliveIn r d (length (take k bytes) + (room - k))) (sym (take_from k p bytes)) (alive_joined r d (room - k) f (take k bytes) (take p (drop k bytes)) spelled place.0.alive));
          dead = λ h. place.0.dead (alive_apart r d (room - k) f (take k bytes) (take (suc p) (drop k bytes)) spelled
              (subst (λ (m : ℕ). AliveIn r d m (take k bytes ++ take (suc p) (drop k bytes))) (sym total)
              (subst (AliveIn r d room) (later k p bytes) h)));
        },
        omega (arith, place.1),
      ),
      record {
        openers = position.0;
        at = reason.at;
        role = reason.role;
        left = reason.left;
        byte = reason.byte;
        stands = subst (λ (m : ℕ). Position r d m position.0 (take (k + p) bytes) reason.at reason.role reason.left) total
            (subst (λ (b : List ℕ). Position r d (length (take k bytes) + (room - k)) position.0 b reason.at reason.role reason.left) (sym (take_from k p bytes)) position.1);
        is_byte = byte_from k p reason.byte bytes place.0.present reason.is_byte;
        fails = reason.fails;
      },
    )

-- too few bytes after complete objects
pub more_after : (r : Reading) (d room k : ℕ) (f : Objects) (bytes : List ℕ) → k ≤ length bytes → k ≤ room → Spells r d f (take k bytes) →
    (length (drop k bytes) < room - k) × AliveIn r d (room - k) (drop k bytes) → (length bytes < room) × AliveIn r d room bytes
more_after r d room k f bytes short within spelled (few, alive) =
    let size : length (take k bytes) ≡ k = length-take-le k bytes short in
    let total : length (take k bytes) + (room - k) ≡ room = omega arith in (
      omega (arith, few, length-drop k bytes),
      subst (λ (m : ℕ). AliveIn r d m bytes) total
          (subst (AliveIn r d (length (take k bytes) + (room - k))) (take-append-drop k bytes) (alive_joined r d (room - k) f (take k bytes) (drop k bytes) spelled alive)),
    )

-- an opener and what follows it in the level
pub record Within (r : Reading) (d room : ℕ) (bytes : List ℕ) (tag size : List ℕ) (n k : ℕ) (nests : Bool) : Type 0 where
  pub read : take k bytes ≡ tag ++ size
  pub present : k ≤ length bytes
  pub sizes : length tag + length size ≡ k
  pub rest : ℕ
  pub total : length tag + (length size + rest) ≡ room
  pub fits : Fits r d (content nests n) rest
  pub tagged : Tagged d nests tag
  pub is_length : IsLength r n size

pub within_of : (r : Reading) (d room : ℕ) (bytes : List ℕ) (o : declared.Head) → (h : HeadFound r d room bytes o) → Within r d room bytes h.tag h.size o.content o.size o.constructed
within_of r d room bytes o h =
    let sizes : length h.tag + length h.size ≡ o.size = omega (arith, length-append h.tag h.size, ap length h.whole, length-take-le o.size bytes h.present) in
    let rest = room - o.size in
    let total : length h.tag + (length h.size + rest) ≡ room = omega (arith, alive_size r d room (take o.size bytes) h.alive, length-take-le o.size bytes h.present) in
    let whole : take o.size bytes ≡ h.tag ++ (h.size ++ []) = h.whole ∙ ap (λ (x : List ℕ). h.tag ++ x) (sym (append-nil h.size)) in
    record {
      read = h.whole;
      present = h.present;
      sizes = sizes;
      rest = rest;
      total = total;
      fits = opener_fits r d o.content rest o.constructed h.tag h.size [] h.tagged h.is_length
          (subst (λ (m : ℕ). AliveIn r d m (h.tag ++ (h.size ++ []))) (sym total) (subst (AliveIn r d room) whole h.alive));
      tagged = h.tagged;
      is_length = h.is_length;
    }

-- the opener, and some bytes after it
from_opener : (bytes tag size : List ℕ) (k n : ℕ) → take k bytes ≡ tag ++ size → take (k + n) bytes ≡ tag ++ (size ++ take n (drop k bytes))
from_opener bytes tag size k n e = take_from k n bytes ∙ ap (λ (x : List ℕ). x ++ take n (drop k bytes)) e ∙ append_assoc tag size (take n (drop k bytes))

all_from : (bytes tag size : List ℕ) (k : ℕ) → take k bytes ≡ tag ++ size → bytes ≡ tag ++ (size ++ drop k bytes)
all_from bytes tag size k e = sym (take-append-drop k bytes) ∙ ap (λ (x : List ℕ). x ++ drop k bytes) e ∙ append_assoc tag size (drop k bytes)

-- a refusal inside a constructed object
pub refused_within : (r : Reading) (d room : ℕ) (bytes tag size : List ℕ) (n k p : ℕ) (why : Why) → Within r d room bytes tag size n k true →
    PlaceIn r (suc d) n (drop k bytes) p × WhyIn r (suc d) n (drop k bytes) p why →
    PlaceIn r d room bytes (k + p) × WhyIn r d room bytes (k + p) why
refused_within r d room bytes tag size n k p why w (place, reason) =
    let inner : length (take p (drop k bytes)) ≡ p = length-take-le p (drop k bytes) (omega (arith, place.0.present)) in
    let inner' : length (take (suc p) (drop k bytes)) ≡ suc p = length-take-le (suc p) (drop k bytes) (omega (arith, place.0.present)) in (
      (
        record {
          present = omega (arith, place.0.present, length-drop k bytes);
          alive = subst (λ (m : ℕ). AliveIn r d m (take (k + p) bytes)) w.total
              (subst (AliveIn r d (length tag + (length size + w.rest))) (sym (from_opener bytes tag size k p w.read))
              (alive_within r d n w.rest tag size (take p (drop k bytes)) w.tagged w.is_length w.fits place.0.alive));
          dead = λ h. place.0.dead (alive_inside r d n w.rest tag size (take (suc p) (drop k bytes)) w.tagged w.is_length (omega (arith, inner', place.1))
              (subst (λ (m : ℕ). AliveIn r d m (tag ++ (size ++ take (suc p) (drop k bytes)))) (sym w.total)
              (subst (AliveIn r d room) next_from h)));
        },
        room_for w.fits,
      ),
      record {
        openers = record { items = none; done = []; tag = tag; size = size; content = n } ∷ reason.openers;
        at = reason.at;
        role = reason.role;
        left = reason.left;
        byte = reason.byte;
        stands = (take p (drop k bytes), from_opener bytes tag size k p w.read, refl, w.tagged, w.is_length, omega (arith, inner, place.1), reason.stands);
        is_byte = byte_from k p reason.byte bytes place.0.present reason.is_byte;
        fails = reason.fails;
      },
    )
  where
    next_from : take (suc (k + p)) bytes ≡ tag ++ (size ++ take (suc p) (drop k bytes))
    next_from = let e : suc (k + p) ≡ k + suc p = omega arith in ap (λ (m : ℕ). take m bytes) e ∙ from_opener bytes tag size k (suc p) w.read

    room_for : Fits r d (content true n) w.rest → k + p < room
    room_for f = omega (arith, f.0, place.1, w.total, w.sizes)

-- too few bytes inside a constructed object
pub more_within : (r : Reading) (d room : ℕ) (bytes tag size : List ℕ) (n k : ℕ) → Within r d room bytes tag size n k true →
    (length (drop k bytes) < n) × AliveIn r (suc d) n (drop k bytes) → (length bytes < room) × AliveIn r d room bytes
more_within r d room bytes tag size n k w (few, alive) = (
  room_for w.fits,
  subst (λ (m : ℕ). AliveIn r d m bytes) w.total
      (subst (AliveIn r d (length tag + (length size + w.rest))) (sym (all_from bytes tag size k w.read))
      (alive_within r d n w.rest tag size (drop k bytes) w.tagged w.is_length w.fits alive)),
)
  where
    room_for : Fits r d (content true n) w.rest → length bytes < room
    room_for f = omega (arith, f.0, few, w.total, w.sizes, w.present, length-drop k bytes)

-- a whole constructed object
pub found_within : (r : Reading) (d room : ℕ) (bytes tag size : List ℕ) (n k : ℕ) (v : Vec Tlv Global) → Within r d room bytes tag size n k true →
    ObjectsFound r (suc d) n (drop k bytes) v.items → ObjectFound r d room bytes (record { tag = tag; body = Cons v }) (k + n)
found_within r d room bytes tag size n k v w h =
    let inner : length (take n (drop k bytes)) ≡ n = length-take-le n (drop k bytes) h.present in
    record {
      present = omega (arith, h.present, length-drop k bytes, w.present);
      spelled = subst (λ (o : Objects). Spells r d o (take (k + n) bytes)) (sym (before_cons tag v none))
          (record {
            size = size;
            content = take n (drop k bytes);
            after = [];
            whole = from_opener bytes tag size k n w.read ∙ ap (λ (x : List ℕ). tag ++ (size ++ x)) (sym (append-nil (take n (drop k bytes))));
            is_tag = w.tagged.is_tag;
            is_kind = w.tagged.is_kind;
            is_length = subst (λ (m : ℕ). IsLength r m size) (sym inner) w.is_length;
            inside = (w.tagged.deep refl, h.spelled);
            others = refl;
          });
      alive = subst (λ (m : ℕ). AliveIn r d m (take (k + n) bytes)) w.total
          (subst (AliveIn r d (length tag + (length size + w.rest))) (sym (from_opener bytes tag size k n w.read))
          (alive_within r d n w.rest tag size (take n (drop k bytes)) w.tagged w.is_length w.fits
          (record {
            value = objects_of v.items;
            rest = [];
            spelled = (subst (Spells r (suc d) (objects_of v.items)) (sym (append-nil (take n (drop k bytes)))) h.spelled, ap length (append-nil (take n (drop k bytes))) ∙ inner);
          })));
    }

-- a whole primitive object
pub found_bytes : (r : Reading) (d room : ℕ) (bytes tag size : List ℕ) (n k : ℕ) (v : Vec ℕ Global) → Within r d room bytes tag size n k false →
    n ≤ length (drop k bytes) → AreBytes (drop k bytes) → v.items ≡ take n (drop k bytes) →
    ObjectFound r d room bytes (record { tag = tag; body = Prim v }) (k + n)
found_bytes r d room bytes tag size n k v w short are e =
    let inner : length (take n (drop k bytes)) ≡ n = length-take-le n (drop k bytes) short in
    let some : AreBytes (take n (drop k bytes)) = bytes_prefix (take n (drop k bytes)) (drop n (drop k bytes)) (subst AreBytes (sym (take-append-drop n (drop k bytes))) are) in
    record {
      present = omega (arith, short, length-drop k bytes, w.present);
      spelled = subst (λ (o : Objects). Spells r d o (take (k + n) bytes)) (sym (before_prim tag v none))
          (record {
            size = size;
            content = take n (drop k bytes);
            after = [];
            whole = from_opener bytes tag size k n w.read ∙ ap (λ (x : List ℕ). tag ++ (size ++ x)) (sym (append-nil (take n (drop k bytes))));
            is_tag = w.tagged.is_tag;
            is_kind = w.tagged.is_kind;
            is_length = subst (λ (m : ℕ). IsLength r m size) (sym inner) w.is_length;
            inside = (sym e, subst AreBytes (sym e) some);
            others = refl;
          });
      alive = subst (λ (m : ℕ). AliveIn r d m (take (k + n) bytes)) w.total
          (subst (AliveIn r d (length tag + (length size + w.rest))) (sym (from_opener bytes tag size k n w.read))
          (alive_bytes r d n w.rest tag size (take n (drop k bytes)) w.tagged w.is_length w.fits.0 some (omega (arith, inner))));
    }

-- too few bytes of a primitive content
pub more_bytes : (r : Reading) (d room : ℕ) (bytes tag size : List ℕ) (n k : ℕ) → Within r d room bytes tag size n k false →
    length (drop k bytes) < n → AreBytes (drop k bytes) → (length bytes < room) × AliveIn r d room bytes
more_bytes r d room bytes tag size n k w few are = (
  omega (arith, w.fits.0, few, w.total, w.sizes, w.present, length-drop k bytes),
  subst (λ (m : ℕ). AliveIn r d m bytes) w.total
      (subst (AliveIn r d (length tag + (length size + w.rest))) (sym (all_from bytes tag size k w.read))
      (alive_bytes r d n w.rest tag size (drop k bytes) w.tagged w.is_length w.fits.0 are (omega arith))),
)

-- bytes by their places
pub are_bytes : (s : List ℕ) → ((i : ℕ) → get_or s i 0 < 256) → AreBytes s
are_bytes [] h = tt
are_bytes (x ∷ s) h = (h 0, are_bytes s (λ i. h (suc i)))

-- an object is not empty
pub object_size : (r : Reading) (d room k : ℕ) (bytes : List ℕ) (t : Tlv) → ObjectFound r d room bytes t k → 0 < k
object_size r d room k bytes t h = omega (arith, before_some r d t none (take k bytes) h.spelled, length-take-le k bytes h.present)

-- one object more
pub objects_more : (r : Reading) (d room k n : ℕ) (bytes : List ℕ) (ts : List Tlv) (t : Tlv) → k ≤ length bytes → Spells r d (objects_of ts) (take k bytes) →
    ObjectFound r d (room - k) (drop k bytes) t n → Spells r d (objects_of (ts ++ t ∷ [])) (take (k + n) bytes)
objects_more r d room k n bytes ts t short spelled h =
    subst (λ (o : Objects). Spells r d o (take (k + n) bytes)) (sym (objects_joined ts (t ∷ [])))
    (subst (Spells r d (joined (objects_of ts) (before t none))) (sym (take_from k n bytes))
    (spells_joined r d (objects_of ts) (before t none) (take k bytes) (take n (drop k bytes)) spelled h.spelled))

-- what is left after an object is not one byte
pub rest_of : (r : Reading) (d room n : ℕ) (bytes : List ℕ) (t : Tlv) → ObjectFound r d room bytes t n → (n ≤ room) × (room - n ≢ 1)
rest_of r d room n bytes t h =
    let size : length (take n bytes) ≡ n = length-take-le n bytes h.present in
    let within : n ≤ room = omega (arith, alive_size r d room (take n bytes) h.alive) in
    let total : room ≡ length (take n bytes) + (room - n) = omega arith in
    let a = alive_apart r d (room - n) (before t none) (take n bytes) [] h.spelled
    (subst (λ (m : ℕ). AliveIn r d m (take n bytes ++ [])) total (subst (AliveIn r d room) (sym (append-nil (take n bytes))) h.alive)) in
    (within, λ e. not_single r d a.value a.rest a.spelled.0 (a.spelled.1 ∙ e))

-- objects are read up to here
pub record ReadTo (r : Reading) (d room : ℕ) (bytes : List ℕ) (ts : List Tlv) (k : ℕ) : Type 0 where
  pub present : k ≤ length bytes
  pub within : k ≤ room
  pub apart : room - k ≢ 1
  pub spelled : Spells r d (objects_of ts) (take k bytes)
