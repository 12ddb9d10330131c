-- What the two readers of a level pass to one another.
use Rattle.std.proofs.Common.{◌≡◌, ◌≢◌, ℕ, ◌+◌, ◌-◌, ◌<◌, ◌≤◌, true, false, List, [], ◌∷◌, ◌++◌, length, take, drop, get_or, ◌^◌, refl, sym, ◌∙◌, ap, subst, arith, length-drop, suc, zero}
use Rattle.std.proofs.lemmas.List.{take_rest, length-take-le}
use Rattle.std.specs.declared.vec.Vec.{Vec}
use Rattle.std.specs.declared.alloc.Global.{Global}
use Rattle.zvt_grammar.specs.declared.why.Why.{Why}
use Rattle.zvt_grammar.specs.declared.answer.Scan.{Scan}
use Rattle.zvt_grammar.specs.declared.answer.Scan.TheVariants.{Whole, More, Refused}
use Rattle.zvt_tlv.specs.declared.heads.Head.{Head}
use Rattle.zvt_tlv.specs.declared.trees.Tlv.{Tlv, rolls-Tlv'}
use Rattle.zvt_tlv.specs.declared.trees.Body.TheViews.{roll-Tlv}
use Rattle.zvt_tlv.specs.declared.trees.Body.TheVariants.{Prim, Cons}
use Rattle.zvt_grammar.specs.Reading.{Reading, AreBytes}
use Rattle.zvt_tlv.specs.Grammar.{Spells}
use Rattle.zvt_tlv.specs.Judging.{AliveIn, PlaceIn, WhyIn}
use Rattle.zvt_tlv.specs.Trees.{objects_of}
use Rattle.zvt_tlv.specs.Answers.{Answers, HeadFound, ObjectFound, ObjectsFound}
use Rattle.zvt_tlv.specs.Spelled.{HasSpelling}
use Rattle.zvt_tlv.proofs.Spelling.{shallower, shortened, from}
use Rattle.zvt_tlv.proofs.Levels.{Within, within_of, refused_within, more_within, found_within, found_bytes, more_bytes, refused_after, more_after, are_bytes, object_size, objects_more, rest_of, ReadTo}

within_true : (r : Reading) (d room : ℕ) (bytes : List ℕ) (head : Head) (h : HeadFound r d room bytes head) → head.constructed ≡ true → Within r d room bytes h.tag h.size head.content head.size true
within_true r d room bytes head h e = subst (Within r d room bytes h.tag h.size head.content head.size) e (within_of r d room bytes head h)

within_false : (r : Reading) (d room : ℕ) (bytes : List ℕ) (head : Head) (h : HeadFound r d room bytes head) → head.constructed ≡ false → Within r d room bytes h.tag h.size head.content head.size false
within_false r d room bytes head h e = subst (Within r d room bytes h.tag h.size head.content head.size) e (within_of r d room bytes head h)

one_more : (d : ℕ) → d + 1 ≡ suc d
one_more d = omega arith

-- what the content of a constructed object needs
pub inside_requires : (r : Reading) (d room : ℕ) (bytes : List ℕ) (head : Head) → HeadFound r d room bytes head → head.constructed ≡ true → room < 2 ^ 16 →
    (head.content ≢ 1) × (head.content < 2 ^ 16) × (d < 6)
inside_requires r d room bytes head h e small =
    let w = within_true r d room bytes head h e in
    (w.fits.1, omega (arith, w.fits.0, w.total), w.tagged.deep refl)

abbrev pub Inner : (r : Reading) (d n : ℕ) → List ℕ → Scan (Vec Tlv Global) → Type 0
Inner r d n s = Answers r d n s (λ objects. ObjectsFound r d n s objects.items)

pub inner_at : (r : Reading) (d n k : ℕ) (bytes : List ℕ) (q q' : Scan (Vec Tlv Global)) → q ≡ q' → Inner r (d + 1) n (from k bytes) q → Inner r (suc d) n (drop k bytes) q'
inner_at r d n k bytes q q' e h =
    subst (λ (m : ℕ). Inner r m n (drop k bytes) q') (one_more d)
    (subst (λ (s : List ℕ). Inner r (d + 1) n s q') (take_rest bytes k) (subst (Inner r (d + 1) n (from k bytes)) e h))

pub inside_whole : (r : Reading) (d room : ℕ) (bytes : List ℕ) (head : Head) (tag : List ℕ) (q : Scan (Vec Tlv Global)) (v : Vec Tlv Global) → HeadFound r d room bytes head → head.constructed ≡ true →
    tag ≡ take head.tag_size bytes → q ≡ Whole v → Inner r (d + 1) head.content (from head.size bytes) q → ObjectFound r d room bytes (roll-Tlv (record { tag = tag; body = Cons v })) (head.size + head.content)
inside_whole r d room bytes head tag q v h e t is inner =
    subst (λ (x : Tlv). ObjectFound r d room bytes x (head.size + head.content)) (sym (rolls-Tlv' (record { tag = tag; body = Cons v })))
    (subst (λ (x : List ℕ). ObjectFound r d room bytes (record { tag = x; body = Cons v }) (head.size + head.content)) (sym (t ∙ h.tag_read))
    (found_within r d room bytes h.tag h.size head.content head.size v (within_true r d room bytes head h e) (inner_at r d head.content head.size bytes q (Whole v) is inner)))

pub inside_more : (r : Reading) (d room : ℕ) (bytes : List ℕ) (head : Head) (q : Scan (Vec Tlv Global)) → HeadFound r d room bytes head → head.constructed ≡ true →
    q ≡ More → Inner r (d + 1) head.content (from head.size bytes) q → (length bytes < room) × AliveIn r d room bytes
inside_more r d room bytes head q h e is inner =
    more_within r d room bytes h.tag h.size head.content head.size (within_true r d room bytes head h e) (inner_at r d head.content head.size bytes q More is inner)

pub inside_refused : (r : Reading) (d room : ℕ) (bytes : List ℕ) (head : Head) (q : Scan (Vec Tlv Global)) (place : ℕ) (why : Why) → HeadFound r d room bytes head → head.constructed ≡ true →
    q ≡ Refused place why → Inner r (d + 1) head.content (from head.size bytes) q → PlaceIn r d room bytes (head.size + place) × WhyIn r d room bytes (head.size + place) why
inside_refused r d room bytes head q place why h e is inner =
    refused_within r d room bytes h.tag h.size head.content head.size place why (within_true r d room bytes head h e) (inner_at r d head.content head.size bytes q (Refused place why) is inner)

drop_bytes : (k : ℕ) (bytes : List ℕ) → AreBytes bytes → AreBytes (drop k bytes)
drop_bytes zero bytes h = h
drop_bytes (suc k) [] h = h
drop_bytes (suc k) (x ∷ bytes) h = drop_bytes k bytes h.1

pub bytes_whole : (r : Reading) (d room : ℕ) (bytes : List ℕ) (head : Head) (tag : List ℕ) (v : Vec ℕ Global) → HeadFound r d room bytes head → head.constructed ≡ false →
    tag ≡ take head.tag_size bytes → head.content ≤ length (from head.size bytes) → v.items ≡ take head.content (from head.size bytes) → ((i : ℕ) → get_or bytes i 0 < 256) →
    ObjectFound r d room bytes (roll-Tlv (record { tag = tag; body = Prim v })) (head.size + head.content)
bytes_whole r d room bytes head tag v h e t enough is are =
    subst (λ (x : Tlv). ObjectFound r d room bytes x (head.size + head.content)) (sym (rolls-Tlv' (record { tag = tag; body = Prim v })))
    (subst (λ (x : List ℕ). ObjectFound r d room bytes (record { tag = x; body = Prim v }) (head.size + head.content)) (sym (t ∙ h.tag_read))
    (found_bytes r d room bytes h.tag h.size head.content head.size v (within_false r d room bytes head h e)
    (subst (λ (s : List ℕ). head.content ≤ length s) (take_rest bytes head.size) enough) (drop_bytes head.size bytes (are_bytes bytes are))
    (is ∙ ap (take head.content) (take_rest bytes head.size))))

pub bytes_more : (r : Reading) (d room : ℕ) (bytes : List ℕ) (head : Head) → HeadFound r d room bytes head → head.constructed ≡ false → length (from head.size bytes) < head.content →
    ((i : ℕ) → get_or bytes i 0 < 256) → (length bytes < room) × AliveIn r d room bytes
bytes_more r d room bytes head h e few are =
    more_bytes r d room bytes h.tag h.size head.content head.size (within_false r d room bytes head h e)
    (subst (λ (s : List ℕ). length s < head.content) (take_rest bytes head.size) few) (drop_bytes head.size bytes (are_bytes bytes are))

abbrev pub One : (r : Reading) (d n : ℕ) → List ℕ → Scan (Tlv × ℕ) → Type 0
One r d n s = Answers r d n s (λ found. ObjectFound r d n s found.0 found.1)

one_at : (r : Reading) (d n k : ℕ) (bytes : List ℕ) (q q' : Scan (Tlv × ℕ)) → q ≡ q' → One r d n (from k bytes) q → One r d n (drop k bytes) q'
one_at r d n k bytes q q' e h = subst (λ (s : List ℕ). One r d n s q') (take_rest bytes k) (subst (One r d n (from k bytes)) e h)

pub next_object : (r : Reading) (d room : ℕ) (bytes : List ℕ) (ts us : List Tlv) (k n : ℕ) (t : Tlv) (q : Scan (Tlv × ℕ)) → ReadTo r d room bytes ts k → q ≡ Whole (t, n) →
    One r d (room - k) (from k bytes) q → us ≡ ts ++ t ∷ [] → ReadTo r d room bytes us (k + n) × (0 < n)
next_object r d room bytes ts us k n t q i is h e =
    let o = one_at r d (room - k) k bytes q (Whole (t, n)) is h in
    let left = rest_of r d (room - k) n (drop k bytes) t o in (
      record {
        present = omega (arith, o.present, length-drop k bytes, i.present);
        within = omega (arith, left.0, i.within);
        apart = λ one. left.1 (omega arith);
        spelled = subst (λ (x : List Tlv). Spells r d (objects_of x) (take (k + n) bytes)) (sym e) (objects_more r d room k n bytes ts t i.present i.spelled o);
      },
      object_size r d (room - k) n (drop k bytes) t o,
    )

pub next_more : (r : Reading) (d room : ℕ) (bytes : List ℕ) (ts : List Tlv) (k : ℕ) (q : Scan (Tlv × ℕ)) → ReadTo r d room bytes ts k → q ≡ More →
    One r d (room - k) (from k bytes) q → (length bytes < room) × AliveIn r d room bytes
next_more r d room bytes ts k q i is h =
    more_after r d room k (objects_of ts) bytes i.present i.within i.spelled (one_at r d (room - k) k bytes q More is h)

pub next_refused : (r : Reading) (d room : ℕ) (bytes : List ℕ) (ts : List Tlv) (k place : ℕ) (why : Why) (q : Scan (Tlv × ℕ)) → ReadTo r d room bytes ts k → q ≡ Refused place why →
    One r d (room - k) (from k bytes) q → PlaceIn r d room bytes (k + place) × WhyIn r d room bytes (k + place) why
next_refused r d room bytes ts k place why q i is h =
    refused_after r d room k place (objects_of ts) bytes why i.present i.within i.spelled (one_at r d (room - k) k bytes q (Refused place why) is h)

-- objects that were read have a spelling
pub have_spelling : (r : Reading) (d room : ℕ) (bytes : List ℕ) (v : Vec Tlv Global) (q : Scan (Vec Tlv Global)) → 1 ≤ d → room < 2 ^ 16 → q ≡ Whole v → Inner r d room bytes q → HasSpelling (objects_of v.items)
have_spelling r d room bytes v q least small is h =
    let o = subst (Inner r d room bytes) is h in
    let size : length (take room bytes) ≡ room = length-take-le room bytes o.present in
    let short = shortened r 1 (objects_of v.items) (take room bytes) (shallower r d 1 (objects_of v.items) (take room bytes) least o.spelled) in
    record { bytes = short.0; spelled = short.1; small = omega (arith, short.2) }
