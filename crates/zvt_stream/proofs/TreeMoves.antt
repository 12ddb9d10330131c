-- The bytes of tags and lengths: a container's length, an object's tag, an object's length.
use Rattle.std.proofs.Common.{◌≡◌, ◌≢◌, ℕ, ◌-◌, ◌<◌, ◌≤◌, nat_le, Bool, true, false, Some, None, Ok, List, [], ◌∷◌, ◌++◌, length, refl, sym, ◌∙◌, ap, subst, arith, length-append, ◌⊎◌, inl, inr}
use Rattle.std.proofs.lemmas.Bool.{false≢true}
use Rattle.std.proofs.lemmas.List.{append-nil}
use Rattle.zvt_grammar.specs.declared.why.Why.TheVariants.{NotShortest}
use Rattle.zvt_grammar.specs.Reading.{Reading, least}
use Rattle.zvt_tlv.specs.Grammar.{Objects, none, primitive, IsLength, Spells}
use Rattle.zvt_tlv.specs.Judging.{Role, first_length, byte, content, wrong, next, fault}
use Rattle.zvt_tlv.specs.Answers.{role_of_tag, role_of_length}
use Rattle.zvt_tlv.specs.declared.judge.TagAt.{TagAt}
use Rattle.zvt_tlv.specs.declared.judge.TagAt.TheVariants as tag_at
use Rattle.zvt_tlv.specs.declared.judge.LengthAt.{LengthAt}
use Rattle.zvt_tlv.specs.declared.judge.LengthAt.TheVariants as length_at
use Rattle.zvt_tlv.proofs.Spelling.{tag_prefix}
use Rattle.zvt_field.specs.declared.shapes.Shape.TheVariants.{Tree}
use Rattle.zvt_field.specs.Shapes.{shape_of}
use Rattle.zvt_stream.specs.Parts as stage
use Rattle.zvt_stream.specs.Parts.{Within, Ends, Opens}
use Rattle.zvt_stream.specs.DecoderState.{depth_of, HoldsObjects, AtField, AtObject, ContainerLength, ObjectContent, Between}
use Rattle.zvt_stream.specs.Moves.{Judges}
use Rattle.zvt_stream.proofs.LevelLemmas.{field_more, object_more, object_done, bytes_object}
use Rattle.zvt_stream.proofs.ContentMoves.{between_objects, one_less}
use Rattle.zvt_stream.proofs.TlvMoves.{cond_cases, begins_next, Opened, begins_opened, Fitting, opened_fits, length_goes_on, IsTagRole, tag_goes_on}

-- another byte of a length is to come
goes_on : (r : Reading) (d : ℕ) (nests : Bool) (at : LengthAt) (to : Role) (left x : ℕ) → next r d (role_of_length nests at) x ≡ byte to → fault r d (role_of_length nests at) left x ≡ None → 1 ≤ left
goes_on r d nests length_at.First to left x e f = length_goes_on r d _ nests to left x (inl refl) e f
goes_on r d nests length_at.After81 to left x e f = by_test (cond_cases _ _ _ _ e)
  where
    by_test : ((nat_le (least r 128) x ≡ true) × (content nests x ≡ byte to)) ⊎ ((nat_le (least r 128) x ≡ false) × (wrong NotShortest ≡ byte to)) → 1 ≤ left
    by_test (inl (h, is)) = absurd (cc (is))
    by_test (inr (h, is)) = absurd (cc (is))
goes_on r d nests length_at.High82 to left x e f = length_goes_on r d _ nests to left x (inr refl) e f
goes_on r d nests (length_at.Low82 high) to left x e f = absurd (cc (e))

pub container_within : (r : Reading) (at to : LengthAt) (left depth x : ℕ) → x < 256 → 1 ≤ left → fault r 0 (role_of_length true at) (left - 1) x ≡ None → next r 0 (role_of_length true at) x ≡ byte (role_of_length true to) →
    Judges r (stage.Container at) left depth x (Ok (Within (stage.Container to) (left - 1)))
container_within r at to left depth x lt some f e outer b d (is, le, a) =
    (f, (is, goes_on r 0 true at _ (left - 1) x e f, field_more r left (left - 1) b x _ (ContainerLength r to) a (λ s (bmp, size, w, tree, p). (bmp, size ++ x ∷ [], ap (λ (s : List ℕ). s ++ x ∷ []) w, tree, begins_next r 0 _ _ x (0x25 ∷ size) lt p e)) (one_less left some)))

-- a container's name and its length
abbrev Whole : (r : Reading) (n : ℕ) → List ℕ → Type 0
Whole r n s = (bmp : ℕ) × (size : List ℕ) × (s ≡ bmp ∷ size) × (shape_of bmp ≡ Some Tree) × IsLength r n size

container_opened : (r : Reading) (at : LengthAt) (n x : ℕ) → x < 256 → next r 0 (role_of_length true at) x ≡ content true n → (s : List ℕ) → ContainerLength r at s → Whole r n (s ++ x ∷ [])
container_opened r at n x lt e s (bmp, size, w, tree, p) =
    let o = begins_opened r 0 (role_of_length true at) true n x (0x25 ∷ size) lt p e in
    let one = tag_prefix (0x25 ∷ []) o.tag (size ++ x ∷ []) o.size (omega arith, refl) o.tagged.is_tag o.whole in
    (bmp, size ++ x ∷ [], ap (λ (s : List ℕ). s ++ x ∷ []) w, tree, subst (IsLength r n) (sym one.1) o.is_length)

container_level : (r : Reading) (n left : ℕ) (b : List ℕ) → (f : Fitting true n left) → AtField r left b (Whole r n) → Between r n ((left - n) ∷ 0 ∷ []) b
container_level r n left b f a =
    let (bmp, size, w, tree, l) = a.begins in (
      f.inside refl,
      record {
        room = n;
        part = [];
        level = record {
          around = a.room;
          part = a.part;
          outer = (refl, a.level);
          fields = a.fields;
          done = a.done;
          bmp = bmp;
          size = size;
          whole = a.whole ∙ ap (λ (s : List ℕ). a.done ++ s) (w ∙ ap (λ (s : List ℕ). bmp ∷ s) (sym (append-nil size)));
          spelled = a.spelled;
          is_tree = tree;
          is_length = l;
          filled = omega (arith, a.filled, ap length a.whole, length-append a.done a.beginning, ap length w, f.sized);
          apart = λ one. f.apart (omega (arith, f.sized, one));
        };
        items = none;
        done = [];
        beginning = [];
        whole = refl;
        spelled = refl;
        begins = refl;
        filled = omega arith;
      },
    )

pub container_opens : (r : Reading) (at : LengthAt) (n left depth x : ℕ) → x < 256 → 1 ≤ left → fault r 0 (role_of_length true at) (left - 1) x ≡ None → next r 0 (role_of_length true at) x ≡ content true n →
    Judges r (stage.Container at) left depth x (Ok (Opens (left - 1 - n) n))
container_opens r at n left depth x lt some f e outer b d (is, le, a) =
    let fits = opened_fits r 0 (role_of_length true at) true n (left - 1) x e f in
    let more = field_more r left (left - 1) b x _ (Whole r n) a (container_opened r at n x lt e) (one_less left some) in
    (f, subst (λ (o : List ℕ). Between r n ((left - 1 - n) ∷ o) (b ++ x ∷ [])) (sym is) (container_level r n (left - 1) (b ++ x ∷ []) fits more))

-- tags
tag_more : (r : Reading) (d : ℕ) (at to : TagAt) (left x : ℕ) → next r d (role_of_tag at) x ≡ byte (role_of_tag to) → fault r d (role_of_tag at) left x ≡ None → 2 ≤ left
tag_more r d at to left x e f = tag_goes_on r d (role_of_tag at) (role_of_tag to) left x (again to) e f (is_tag at)
  where
    is_tag : (at : TagAt) → IsTagRole (role_of_tag at)
    is_tag tag_at.First = tt
    is_tag (tag_at.Second k) = tt
    is_tag (tag_at.Third k) = tt

    again : (to : TagAt) → (nests : Bool) → role_of_tag to ≡ first_length nests → ⊥
    again tag_at.First nests e = absurd (cc (e))
    again (tag_at.Second k) nests e = absurd (cc (e))
    again (tag_at.Third k) nests e = absurd (cc (e))

pub tag_within : (r : Reading) (at to : TagAt) (left depth x : ℕ) → x < 256 → 2 ≤ left → fault r depth (role_of_tag at) (left - 1) x ≡ None → next r depth (role_of_tag at) x ≡ byte (role_of_tag to) →
    Judges r (stage.Tag at) left depth x (Ok (Within (stage.Tag to) (left - 1)))
tag_within r at to left depth x lt some f e outer b d (holds, le, a) =
    let f' = subst (λ (n : ℕ). fault r n (role_of_tag at) (left - 1) x ≡ None) d f in
    let e' = subst (λ (n : ℕ). next r n (role_of_tag at) x ≡ byte (role_of_tag to)) d e in
    (f', (holds, tag_more r (depth_of outer) at to (left - 1) x e' f', object_more r left (left - 1) outer b x _ _ a (λ s p. begins_next r (depth_of outer) _ _ x s lt p e') (one_less left (omega (arith, some)))))

pub tag_ends : (r : Reading) (at : TagAt) (nests : Bool) (left depth x : ℕ) → x < 256 → 2 ≤ left → fault r depth (role_of_tag at) (left - 1) x ≡ None → next r depth (role_of_tag at) x ≡ byte (first_length nests) →
    Judges r (stage.Tag at) left depth x (Ok (Within (stage.Length nests length_at.First) (left - 1)))
tag_ends r at nests left depth x lt some f e outer b d (holds, le, a) =
    let f' = subst (λ (n : ℕ). fault r n (role_of_tag at) (left - 1) x ≡ None) d f in
    let e' = subst (λ (n : ℕ). next r n (role_of_tag at) x ≡ byte (first_length nests)) d e in
    (f', (holds, omega (arith, some), object_more r left (left - 1) outer b x _ _ a (λ s p. begins_next r (depth_of outer) _ _ x s lt p e') (one_less left (omega (arith, some)))))

-- lengths
pub length_within : (r : Reading) (nests : Bool) (at to : LengthAt) (left depth x : ℕ) → x < 256 → 1 ≤ left → ((d : ℕ) → (fault r d (role_of_length nests at) (left - 1) x ≡ None) × (next r d (role_of_length nests at) x ≡ byte (role_of_length nests to))) →
    Judges r (stage.Length nests at) left depth x (Ok (Within (stage.Length nests to) (left - 1)))
length_within r nests at to left depth x lt some h outer b d (holds, le, a) =
    let k = depth_of outer in
    ((h k).0, (holds, goes_on r k nests at _ (left - 1) x (h k).1 (h k).0, object_more r left (left - 1) outer b x _ _ a (λ s p. begins_next r k _ _ x s lt p (h k).1) (one_less left some)))

nested_level : (r : Reading) (n left : ℕ) (outer b : List ℕ) → HoldsObjects outer → (f : Fitting true n left) → AtObject r left outer b (Opened r (depth_of outer) true n) → Between r n ((left - n) ∷ outer) b
nested_level r n left [] b h f a = absurd h
nested_level r n left (k ∷ []) b h f a = absurd h
nested_level r n left (j ∷ i ∷ ks) b h f a =
    let o = a.begins in (
      f.inside refl,
      record {
        room = n;
        part = [];
        level = record {
          around = a.room;
          part = a.part;
          outer = a.level;
          items = a.items;
          done = a.done;
          tag = o.tag;
          size = o.size;
          whole = a.whole ∙ ap (λ (s : List ℕ). a.done ++ s) (o.whole ∙ ap (λ (s : List ℕ). o.tag ++ s) (sym (append-nil o.size)));
          spelled = a.spelled;
          tagged = o.tagged;
          is_length = o.is_length;
          filled = omega (arith, a.filled, ap length a.whole, length-append a.done a.beginning, ap length o.whole, length-append o.tag o.size, f.sized);
          apart = λ one. f.apart (omega (arith, f.sized, one));
        };
        items = none;
        done = [];
        beginning = [];
        whole = refl;
        spelled = refl;
        begins = refl;
        filled = omega arith;
      },
    )

pub length_opens : (r : Reading) (at : LengthAt) (n left depth x : ℕ) → x < 256 → 1 ≤ left → ((d : ℕ) → (fault r d (role_of_length true at) (left - 1) x ≡ None) × (next r d (role_of_length true at) x ≡ content true n)) →
    Judges r (stage.Length true at) left depth x (Ok (Opens (left - 1 - n) n))
length_opens r at n left depth x lt some h outer b d (holds, le, a) =
    let k = depth_of outer in
    let fits = opened_fits r k (role_of_length true at) true n (left - 1) x (h k).1 (h k).0 in
    let more = object_more r left (left - 1) outer b x _ (Opened r k true n) a (λ s p. begins_opened r k (role_of_length true at) true n x s lt p (h k).1) (one_less left some) in
    ((h k).0, nested_level r n (left - 1) outer (b ++ x ∷ []) holds fits more)

abbrev Empty : (r : Reading) (d n : ℕ) → List ℕ → Type 0
Empty r d n s = Opened r d false n s

pub length_ends : (r : Reading) (at : LengthAt) (n left depth x : ℕ) → x < 256 → 1 ≤ left → n ≡ 0 → ((d : ℕ) → (fault r d (role_of_length false at) (left - 1) x ≡ None) × (next r d (role_of_length false at) x ≡ content false n)) →
    Judges r (stage.Length false at) left depth x (Ok (Ends (left - 1)))
length_ends r at n left depth x lt some zero h outer b d (holds, le, a) =
    let k = depth_of outer in
    let fits = opened_fits r k (role_of_length false at) false n (left - 1) x (h k).1 (h k).0 in
    let more = object_more r left (left - 1) outer b x _ (Opened r k false n) a (λ s p. begins_opened r k (role_of_length false at) false n x s lt p (h k).1) (one_less left some) in
    ((h k).0, between_objects r (left - 1) outer (b ++ x ∷ []) holds (λ one. fits.apart (omega (arith, fits.sized, one, zero))) (object_done r (left - 1) outer (b ++ x ∷ []) _ more (done k)))
  where
    done : (k : ℕ) (s : List ℕ) → Opened r k false n s → (f : Objects) × Spells r k f s
    done k s o =
        (primitive o.tag [] none, subst (Spells r k (primitive o.tag [] none)) (ap (λ (s : List ℕ). o.tag ++ s) (append-nil o.size) ∙ sym o.whole) (bytes_object r k n o.tag o.size [] o.tagged o.is_length (sym zero) tt))

pub length_content : (r : Reading) (at : LengthAt) (n left depth x : ℕ) → x < 256 → 1 ≤ left → n ≢ 0 → ((d : ℕ) → (fault r d (role_of_length false at) (left - 1) x ≡ None) × (next r d (role_of_length false at) x ≡ content false n)) →
    Judges r (stage.Length false at) left depth x (Ok (Within (stage.Object n) (left - 1)))
length_content r at n left depth x lt some nonzero h outer b d (holds, le, a) =
    let k = depth_of outer in
    let fits = opened_fits r k (role_of_length false at) false n (left - 1) x (h k).1 (h k).0 in
    let more = object_more r left (left - 1) outer b x _ (ObjectContent r k n) a (λ s p. starts k (s ++ x ∷ []) (begins_opened r k (role_of_length false at) false n x s lt p (h k).1)) (one_less left some) in
    ((h k).0, (holds, (omega (arith, nonzero), (fits.over, fits.sized, fits.apart)), more))
  where
    starts : (k : ℕ) (s : List ℕ) → Opened r k false n s → ObjectContent r k n s
    starts k s o = (o.tag, o.size, [], n, o.whole ∙ ap (λ (s : List ℕ). o.tag ++ s) (sym (append-nil o.size)), o.tagged, o.is_length, omega arith, tt)

-- the same, where the flag is tested
abbrev Tests : (r : Reading) (nests : Bool) → LengthAt → (n left x : ℕ) → Type 0
Tests r nests at n left x = (d : ℕ) → (fault r d (role_of_length nests at) (left - 1) x ≡ None) × (next r d (role_of_length nests at) x ≡ content nests n)

pub tested_opens : (r : Reading) (nests : Bool) (at : LengthAt) (n left depth x : ℕ) → nests ≡ true → x < 256 → 1 ≤ left → Tests r nests at n left x → Judges r (stage.Length nests at) left depth x (Ok (Opens (left - 1 - n) n))
tested_opens r true at n left depth x e = length_opens r at n left depth x
tested_opens r false at n left depth x e = absurd (false≢true e)

pub tested_ends : (r : Reading) (nests : Bool) (at : LengthAt) (n left depth x : ℕ) → nests ≡ false → x < 256 → 1 ≤ left → n ≡ 0 → Tests r nests at n left x → Judges r (stage.Length nests at) left depth x (Ok (Ends (left - 1)))
tested_ends r false at n left depth x e = length_ends r at n left depth x
tested_ends r true at n left depth x e = absurd (false≢true (sym e))

pub tested_content : (r : Reading) (nests : Bool) (at : LengthAt) (n left depth x : ℕ) → nests ≡ false → x < 256 → 1 ≤ left → n ≢ 0 → Tests r nests at n left x → Judges r (stage.Length nests at) left depth x (Ok (Within (stage.Object n) (left - 1)))
tested_content r false at n left depth x e = length_content r at n left depth x
tested_content r true at n left depth x e = absurd (false≢true (sym e))
