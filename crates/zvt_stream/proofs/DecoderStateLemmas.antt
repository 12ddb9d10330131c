-- Where a judge stands, in the terms of the grammar, and what that says of the bytes.
use Rattle.std.proofs.Common.{◌≡◌, ℕ, ◌+◌, ◌-◌, ◌<◌, ◌≤◌, true, false, Some, List, [], ◌∷◌, ◌++◌, length, refl, sym, ◌∙◌, ap, subst, arith, length-append, ◌⊎◌, inl, inr, suc, zero}
use Rattle.std.proofs.lemmas.Bool.{cases_lt}
use Rattle.std.proofs.lemmas.List.{append-nil}
use Rattle.zvt_grammar.specs.Reading.{Reading}
use Rattle.zvt_grammar.specs.Beginnings.{Alive, NoneWhole}
use Rattle.zvt_tlv.specs.Grammar.{none}
use Rattle.zvt_tlv.specs.Judging.{Opener, Tagged}
use Rattle.zvt_tlv.specs.Judging as object
use Rattle.zvt_tlv.specs.Sized.{PositionSized}
use Rattle.zvt_tlv.specs.Answers.{role_of_tag, role_of_length}
use Rattle.zvt_field.specs.declared.shapes.Shape.TheVariants.{Tree}
use Rattle.zvt_field.specs.Shapes.{shape_of}
use Rattle.zvt_field.specs.Judging as field
use Rattle.zvt_apdu.specs.Message.{Message}
use Rattle.zvt_apdu.specs.Grammar.{Spells}
use Rattle.zvt_apdu.specs.Judging.{head_size, InData, Position, in_fields}
use Rattle.zvt_apdu.proofs.Opened.{begun, goes, goes_alive, no_digits}
use Rattle.zvt_apdu.proofs.OpeningMoves.{long, message_size}
use Rattle.zvt_stream.specs.Parts.{At}
use Rattle.zvt_stream.specs.Judge.{levels_of}
use Rattle.zvt_stream.specs.Parts as stage
use Rattle.zvt_stream.specs.DecoderState.{Begun, layout_in, IsFull, Fields, depth_of, Level, AtField, AtObject, HoldsObjects, HasDigits, Where, role_of}

-- a level of objects is in the fields
record InLevel (r : Reading) (bytes : List ℕ) (at : ℕ) (role : object.Role) (left levels : ℕ) : Type 0 where
  openers : List Opener
  counted : length openers + 1 ≡ levels
  stands : Position r openers bytes (in_fields (field.in_container at role) left)

abbrev data_of : (r : Reading) (n left : ℕ) (inside b : List ℕ) → Begun r n inside b → length inside + suc left ≡ n → InData r b
data_of r n left inside b h e = record { high = h.high; low = h.low; size = h.size; n = n; inside = inside; whole = h.whole; are_bytes = h.are_bytes; is_size = h.is_size; fills = h.fills; short = omega (arith, e) }

fields_position : (r : Reading) (room left : ℕ) (part b : List ℕ) (os : List Opener) (role : field.Role) → Fields r room part b → length part < room → field.Position r room os part role left → Position r os b (in_fields role left)
fields_position r room left part b os role f short p = record {
  data_begun = record { high = f.begun.high; low = f.begun.low; size = f.begun.size; n = f.n; inside = f.head ++ part; whole = f.begun.whole; are_bytes = f.begun.are_bytes; is_size = f.begun.is_size; fills = f.begun.fills; short = omega (arith, length-append f.head part, f.filled, short) };
  has_fields = f.has_fields;
  head = f.head;
  part = part;
  whole = refl;
  sized = f.sized;
  room = room;
  filled = f.filled;
  stands = p;
}

-- from an inner level out to the message
level_position : (r : Reading) (b outer : List ℕ) (room left at : ℕ) (part : List ℕ) (os : List Opener) (role : object.Role) → HoldsObjects outer → Level r b outer room part → length part < room →
    object.Position r (depth_of outer) room os part at role left → InLevel r b at role left (length os + length outer)
level_position r b [] room left at part os role h l short p = absurd h
level_position r b (k ∷ []) room left at part os role h l short p = absurd h
level_position r b (k ∷ j ∷ []) room left at part os role h l short p =
    let o : Opener = record { items = none; done = []; tag = []; size = l.size; content = room } in
    let sized : PositionSized r (l.around - suc (length l.done)) (o ∷ os) (l.size ++ part) at role left = (part, refl, l.is_length, short, p) in
    record {
      openers = o ∷ os;
      counted = omega arith;
      stands = fields_position r l.around left l.part b (o ∷ os) (field.in_container at role) l.outer.1 (omega (arith, ap length l.whole, length-append l.done (l.bmp ∷ (l.size ++ part)), length-append l.size part, l.filled, short))
          (record { fields = l.fields; done = l.done; bmp = l.bmp; inside = l.size ++ part; whole = l.whole; spelled = l.spelled; is_tree = l.is_tree; level = l.around - suc (length l.done); filled = omega (arith, l.filled); stands = sized });
    }
level_position r b (k ∷ j ∷ i ∷ ks) room left at part os role h l short p =
    let o : Opener = record { items = l.items; done = l.done; tag = l.tag; size = l.size; content = room } in
    let q = level_position r b (j ∷ i ∷ ks) l.around left at l.part (o ∷ os) role tt l.outer
    (omega (arith, ap length l.whole, length-append l.done (l.tag ++ (l.size ++ part)), length-append l.tag (l.size ++ part), length-append l.size part, l.filled, short))
    (part, l.whole, l.spelled, l.tagged, l.is_length, short, p) in
    record { openers = q.openers; counted = omega (arith, q.counted); stands = q.stands }

abbrev pub Stood : Reading → At → (left : ℕ) → (outer : List ℕ) → (b : List ℕ) → Type 0
Stood r at left outer b =
    (os : List Opener) × Position r os b (role_of at left (depth_of outer)) × (levels_of (role_of at left (depth_of outer)) os ≡ suc (length outer))

one_level : (outer : List ℕ) → outer ≡ [] → 1 ≡ suc (length outer)
one_level outer e = omega (arith, ap length e)

two_levels : (outer : List ℕ) → outer ≡ 0 ∷ [] → 2 + length {A = Opener} [] ≡ suc (length outer)
two_levels outer e = omega (arith, ap length e)

more_levels : (outer : List ℕ) (openers : List Opener) → length openers + 1 ≡ length outer → 2 + length openers ≡ suc (length outer)
more_levels outer openers e = omega (arith, e)

one_less : (left : ℕ) → 0 < left → suc (left - 1) ≡ left
one_less left some = omega (arith, some)

at_field : (r : Reading) (left : ℕ) (b : List ℕ) (role : field.Role) (P : List ℕ → Type 0) → AtField r left b P → 0 < left → ((s : List ℕ) → P s → field.Begins role s) → ((room : ℕ) (part : List ℕ) → field.Here r room part role (left - 1) → field.Position r room [] part role (left - 1)) →
    Position r [] b (in_fields role (left - 1))
at_field r left b role P a some f here =
    fields_position r a.room (left - 1) a.part b [] role a.level (omega (arith, a.filled, some))
    (here a.room a.part (record { fields = a.fields; done = a.done; beginning = a.beginning; whole = a.whole; spelled = a.spelled; begins = f a.beginning a.begins; filled = (let e : length a.part + suc (left - 1) ≡ length a.part + left = omega (arith, some) in e ∙ a.filled) }))

at_object : (r : Reading) (left : ℕ) (outer b : List ℕ) (role : object.Role) (P : List ℕ → Type 0) → AtObject r left outer b P → HoldsObjects outer → 0 < left → ((s : List ℕ) → P s → object.Begins r (depth_of outer) role s) →
    InLevel r b (depth_of outer) role (left - 1) (length outer)
at_object r left outer b role P a h some f =
    let q = level_position r b outer a.room (left - 1) (depth_of outer) a.part [] role h a.level (omega (arith, a.filled, some))
    (a.items, a.done, a.beginning, a.whole, a.spelled, f a.beginning a.begins, omega (arith, a.filled, some), refl) in
    record { openers = q.openers; counted = omega (arith, q.counted); stands = q.stands }

at_container : (r : Reading) (left : ℕ) (b : List ℕ) (role : object.Role) → AtField r left b (λ s. (bmp : ℕ) × (size : List ℕ) × (s ≡ bmp ∷ size) × (shape_of bmp ≡ Some Tree) × object.Begins r 0 role (0x25 ∷ size)) → 0 < left →
    Position r [] b (in_fields (field.in_container 0 role) (left - 1))
at_container r left b role a some =
    let (bmp, size, w, tree, p) = a.begins in
    let sized : length a.part ≡ length a.done + suc (length size) = omega (arith, ap length a.whole, length-append a.done a.beginning, ap length w) in
    fields_position r a.room (left - 1) a.part b [] (field.in_container 0 role) a.level (omega (arith, a.filled, some))
    (record { fields = a.fields; done = a.done; bmp = bmp; inside = size; whole = a.whole ∙ ap (λ (s : List ℕ). a.done ++ s) w; spelled = a.spelled; is_tree = tree; level = length size + left; filled = omega (arith, a.filled, sized); stands = (p, omega (arith, some), refl) })

pub stood : (r : Reading) (at : At) (left : ℕ) (outer b : List ℕ) → Where r at left outer b → Stood r at left outer b
stood r stage.FirstControl left outer b h = ([], (refl, h.1), one_level outer h.0)
stood r (stage.SecondControl high) left outer b h = ([], (high, refl, h.1, h.2), one_level outer h.0)
stood r (stage.FirstSize high low) left outer b h = ([], (refl, h.1, h.2, h.3), one_level outer h.0)
stood r (stage.LowSize high low) left outer b h = ([], (refl, h.1, h.2, h.3), one_level outer h.0)
stood r (stage.HighSize high low size_low) left outer b h = ([], (refl, h.1, h.2, h.3, h.4), one_level outer h.0)
stood r stage.Payload left outer b (o, some, a) =
    let d = data_of r a.n (left - 1) a.inside b a.begun (omega (arith, a.filled, some)) in
    ([], (d, refl, free_payload a.no_fields), one_level outer o)
  where
    free_payload : (layout_in a.begun).fields ≡ false → (length a.inside < (layout_in a.begun).free) ⊎ ((head_size (layout_in a.begun) ≤ length a.inside) × ((layout_in a.begun).fields ≡ false))
    free_payload f = by_size (cases_lt (length a.inside) (layout_in a.begun).free)
      where
        by_size : (length a.inside < (layout_in a.begun).free) ⊎ ((layout_in a.begun).free ≤ length a.inside) → (length a.inside < (layout_in a.begun).free) ⊎ ((head_size (layout_in a.begun) ≤ length a.inside) × ((layout_in a.begun).fields ≡ false))
        by_size (inl lt) = inl lt
        by_size (inr ge) = inr (omega (arith, ge, no_digits a.begun.high a.begun.low a.n f), f)
stood r (stage.Head zero digits) left outer b (o, some, le, a) =
    let d = data_of r a.n (left - 1) a.inside b a.begun (omega (arith, a.filled, some, le)) in
    ([], (d, refl, omega (arith, a.sized, a.digits_last), omega (arith, a.sized, some)), one_level outer o)
stood r (stage.Head (suc free) digits) left outer b (o, some, le, a) =
    let d = data_of r a.n (left - 1) a.inside b a.begun (omega (arith, a.filled, some, le)) in
    ([], (d, refl, inl (omega (arith, a.sized, a.free_first (omega arith)))), one_level outer o)
stood r stage.Name left outer b (o, le, a) = ([], at_field r left b field.name _ a (omega (arith, le)) (λ s e. e) (λ room part h. (refl, h)), two_levels outer o)
stood r (stage.Digit more before) left outer b (o, has, a) = ([], at_field r left b (field.digit more before) _ a (digits_left more before left has) (λ s e. e) (λ room part h. (refl, h)), two_levels outer o)
  where
    digits_left : (more before left : ℕ) → HasDigits more before left → 0 < left
    digits_left zero before left h = omega (arith, h.0)
    digits_left (suc zero) before left h = omega (arith, h.0)
    digits_left (suc (suc zero)) before left h = omega (arith, h.0)
    digits_left (suc (suc (suc more))) before left h = absurd h
stood r (stage.Content digits more) left outer b (o, room, a) =
    ([], at_field r left b (field.in_content digits) _ a (omega (arith, room.0, room.1.1)) (λ s (bmp, size, part, n, w, head, e, are). (bmp, size, part, n, w, head, omega (arith, e, room.0))) (λ room part h. (refl, h)), two_levels outer o)
stood r (stage.Container at) left outer b (o, le, a) = ([], at_container r left b (role_of_length true at) a (omega (arith, le)), two_levels outer o)
stood r (stage.Tag at) left outer b (h, le, a) =
    let q = at_object r left outer b (role_of_tag at) _ a h (omega (arith, le)) (λ s p. p) in (q.openers, q.stands, more_levels outer q.openers q.counted)
stood r (stage.Length nests at) left outer b (h, le, a) =
    let q = at_object r left outer b (role_of_length nests at) _ a h (omega (arith, le)) (λ s p. p) in (q.openers, q.stands, more_levels outer q.openers q.counted)
stood r (stage.Object more) left outer b (h, room, a) =
    let q = at_object r left outer b object.in_content _ a h (omega (arith, room.0, room.1.1)) (λ s (tag, size, part, n, w, t, l, e, are). (tag, size, part, n, w, t, l, omega (arith, e, room.0))) in (q.openers, q.stands, more_levels outer q.openers q.counted)

-- data that is not full holds no message
short_none : (r : Reading) (b : List ℕ) → InData r b → NoneWhole (Spells r) b
short_none r b d m prefix rest e p =
    let g = goes r m prefix rest d.high d.low d.n d.size d.inside p d.is_size (sym e ∙ d.whole) in
    omega (arith, d.short, g.sized, ap length g.inside_is, length-append g.content rest)

few_none : (b : List ℕ) (r : Reading) → length b < 3 → NoneWhole (Spells r) b
few_none b r few m prefix rest e p = omega (arith, few, ap length e, length-append prefix rest, message_size r m prefix p)

long_none : (b : List ℕ) (r : Reading) (high low : ℕ) (more : List ℕ) → length b < 5 → b ≡ high ∷ low ∷ 0xFF ∷ more → NoneWhole (Spells r) b
long_none b r high low more few w m prefix rest e p =
    let q = long r m prefix rest high low more p (sym e ∙ w) in
    omega (arith, few, ap length e, length-append prefix rest, q.enough)

pub position_none : (r : Reading) (os : List Opener) (b : List ℕ) (at : At) (left depth : ℕ) → Position r os b (role_of at left depth) → NoneWhole (Spells r) b
position_none r os b stage.FirstControl left depth p = few_none b r (omega (arith, ap length p.1))
position_none r os b (stage.SecondControl high) left depth p = few_none b r (omega (arith, ap length p.2))
position_none r os b (stage.FirstSize high low) left depth p = few_none b r (omega (arith, ap length p.1))
position_none r os b (stage.LowSize high low) left depth p = long_none b r high low [] (omega (arith, ap length p.1)) p.1
position_none r os b (stage.HighSize high low s) left depth p = long_none b r high low (s ∷ []) (omega (arith, ap length p.1)) p.1
position_none r os b stage.Payload left depth p = short_none r b p.0
position_none r os b (stage.Head zero digits) left depth p = short_none r b p.0
position_none r os b (stage.Head (suc free) digits) left depth p = short_none r b p.0
position_none r os b stage.Name left depth p = short_none r b p.data_begun
position_none r os b (stage.Digit more before) left depth p = short_none r b p.data_begun
position_none r os b (stage.Content digits more) left depth p = short_none r b p.data_begun
position_none r os b (stage.Container at) left depth p = short_none r b p.data_begun
position_none r os b (stage.Tag at) left depth p = short_none r b p.data_begun
position_none r os b (stage.Length nests at) left depth p = short_none r b p.data_begun
position_none r os b (stage.Object more) left depth p = short_none r b p.data_begun

-- what is alive and full is a message
pub full_message : (r : Reading) (b : List ℕ) → Alive (Spells r) b → IsFull r b → (m : Message) × Spells r m b
full_message r b a f =
    let h = f.begun in
    let alive : Alive (Spells r) (begun h.high h.low h.size f.inside) = subst (Alive (Spells r)) h.whole a in
    let g = goes_alive r h.high h.low f.n h.size f.inside h.is_size alive in
    let joined : g.content ≡ f.inside ++ alive.rest = sym (append-nil g.content) ∙ g.inside_is in
    let ended : alive.rest ≡ [] = none_left alive.rest (omega (arith, g.sized, f.full, ap length joined, length-append f.inside alive.rest)) in
    (alive.value, subst (Spells r alive.value) (ap (λ (s : List ℕ). begun h.high h.low h.size f.inside ++ s) ended ∙ append-nil (begun h.high h.low h.size f.inside) ∙ sym h.whole) alive.spelled)
  where
    none_left : (s : List ℕ) → length s ≡ 0 → s ≡ []
    none_left [] e = refl
    none_left (x ∷ s) e = absurd (omega (arith, e))
