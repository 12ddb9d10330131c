-- The bytes of contents.
use Rattle.std.proofs.Common.{◌≡◌, ◌≢◌, ℕ, ◌-◌, ◌<◌, Ok, List, [], ◌∷◌, ◌++◌, refl, sym, ◌∙◌, ap, subst, append_assoc, arith, length-append, suc}
use Rattle.zvt_grammar.specs.Reading.{Reading}
use Rattle.zvt_tlv.specs.Grammar.{Objects, none, primitive, Spells}
use Rattle.zvt_tlv.proofs.Alive.{bytes_joined}
use Rattle.zvt_stream.specs.Parts as stage
use Rattle.zvt_stream.specs.Parts.{Within, Ends}
use Rattle.zvt_stream.specs.DecoderState.{depth_of, HoldsObjects, HasRoom, AtObject, ObjectContent, Between, IsEmpty}
use Rattle.zvt_stream.specs.Moves.{Judges}
use Rattle.zvt_stream.proofs.LevelLemmas.{object_more, object_done, bytes_object}

-- a content with one byte less to come
pub room_less : (more left : ℕ) → HasRoom more left → more ≢ 1 → HasRoom (more - 1) (left - 1)
room_less more left h ne = (omega (arith, h.0, ne), (h.1.0, omega (arith, h.0, h.1.1), h.1.2))

-- its last byte
pub room_over : (more left : ℕ) → HasRoom more left → more ≡ 1 → left - 1 ≢ 1
room_over more left h e one = h.1.2 (omega (arith, h.1.1, e, one))

pub between_objects : (r : Reading) (left : ℕ) (outer b : List ℕ) → HoldsObjects outer → left ≢ 1 → AtObject r left outer b IsEmpty → Between r left outer b
between_objects r left [] b h ne a = absurd h
between_objects r left (k ∷ []) b h ne a = absurd h
between_objects r left (k ∷ j ∷ ks) b h ne a = (ne, a)

part_more : (r : Reading) (d more x : ℕ) → x < 256 → 0 < more → (s : List ℕ) → ObjectContent r d more s → ObjectContent r d (more - 1) (s ++ x ∷ [])
part_more r d more x lt some s (tag, size, part, n, w, t, l, e, are) =
    (tag, size, part ++ x ∷ [], n, ap (λ (s : List ℕ). s ++ x ∷ []) w ∙ trailing tag size part, t, l, omega (arith, length-append part (x ∷ []), e, some), bytes_joined part (x ∷ []) are (lt, tt))
  where
    trailing : (tag size part : List ℕ) → (tag ++ (size ++ part)) ++ x ∷ [] ≡ tag ++ (size ++ (part ++ x ∷ []))
    trailing tag size part = simp append_assoc

pub one_less : (left : ℕ) → 0 < left → left ≡ suc (left - 1)
one_less left some = omega (arith, some)

pub some_left : (more left : ℕ) → HasRoom more left → 0 < left
some_left more left h = omega (arith, h.0, h.1.1)

pub object_within : (r : Reading) (more left depth x : ℕ) → x < 256 → more ≢ 1 → Judges r (stage.Object more) left depth x (Ok (Within (stage.Object (more - 1)) (left - 1)))
object_within r more left depth x lt ne outer b e (deep, room, a) =
    (refl, (deep, room_less more left room ne, object_more r left (left - 1) outer b x _ _ a (part_more r (depth_of outer) more x lt room.0) (one_less left (some_left more left room))))

pub object_ends : (r : Reading) (more left depth x : ℕ) → x < 256 → more ≡ 1 → Judges r (stage.Object more) left depth x (Ok (Ends (left - 1)))
object_ends r more left depth x lt is outer b e (deep, room, a) =
    let m = object_more r left (left - 1) outer b x _ (ObjectContent r (depth_of outer) (more - 1)) a (part_more r (depth_of outer) more x lt room.0) (one_less left (some_left more left room)) in
    (refl, between_objects r (left - 1) outer (b ++ x ∷ []) deep (room_over more left room is) (object_done r (left - 1) outer (b ++ x ∷ []) _ m done))
  where
    done : (s : List ℕ) → ObjectContent r (depth_of outer) (more - 1) s → (f : Objects) × Spells r (depth_of outer) f s
    done s (tag, size, part, n, w, t, l, total, are) =
        (primitive tag part none, subst (Spells r (depth_of outer) (primitive tag part none)) (sym w) (bytes_object r (depth_of outer) n tag size part t l (omega (arith, total, is)) are))
