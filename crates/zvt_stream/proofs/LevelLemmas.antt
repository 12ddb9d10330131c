-- Levels with one more byte, items that end, and levels that are filled.
use Rattle.std.proofs.Common.{◌≡◌, ℕ, true, false, List, [], ◌∷◌, ◌++◌, length, refl, sym, ◌∙◌, ap, subst, append_assoc, arith, length-append, suc}
use Rattle.std.proofs.lemmas.List.{append-nil}
use Rattle.zvt_grammar.specs.Reading.{Reading, AreBytes}
use Rattle.zvt_tlv.specs.Grammar.{Objects, none, primitive, constructed, IsLength, Spells}
use Rattle.zvt_tlv.specs.Judging.{Tagged}
use Rattle.zvt_tlv.proofs.Spelling.{joined, spells_joined}
use Rattle.zvt_field.specs.Grammar.{Field, tree, FieldOf}
use Rattle.zvt_field.proofs.FieldLists.{list_joined}
use Rattle.zvt_stream.specs.DecoderState.{Begun, Fields, depth_of, Level, AtField, AtObject, IsEmpty, Between}

abbrev pub begun_more : (r : Reading) (n : ℕ) (inside b : List ℕ) (x : ℕ) → Begun r n inside b → Begun r n (inside ++ x ∷ []) (b ++ x ∷ [])
begun_more r n inside b x h = record {
  high = h.high;
  low = h.low;
  size = h.size;
  whole = ap (λ (s : List ℕ). s ++ x ∷ []) h.whole ∙ ap (λ (s : List ℕ). h.high ∷ h.low ∷ s) (append_assoc h.size inside (x ∷ []));
  are_bytes = h.are_bytes;
  is_size = h.is_size;
  fills = h.fills;
}

abbrev pub fields_more : (r : Reading) (room : ℕ) (part b : List ℕ) (x : ℕ) → Fields r room part b → Fields r room (part ++ x ∷ []) (b ++ x ∷ [])
fields_more r room part b x h = record {
  n = h.n;
  head = h.head;
  begun = record {
    high = h.begun.high;
    low = h.begun.low;
    size = h.begun.size;
    whole = ap (λ (s : List ℕ). s ++ x ∷ []) h.begun.whole ∙ ap (λ (s : List ℕ). h.begun.high ∷ h.begun.low ∷ s) (append_assoc h.begun.size (h.head ++ part) (x ∷ []) ∙ ap (λ (s : List ℕ). h.begun.size ++ s) (append_assoc h.head part (x ∷ [])));
    are_bytes = h.begun.are_bytes;
    is_size = h.begun.is_size;
    fills = h.begun.fills;
  };
  has_fields = h.has_fields;
  sized = h.sized;
  filled = h.filled;
}

pub level_more : (r : Reading) (b : List ℕ) (outer : List ℕ) (room : ℕ) (inside : List ℕ) (x : ℕ) → Level r b outer room inside → Level r (b ++ x ∷ []) outer room (inside ++ x ∷ [])
level_more r b [] room inside x h = absurd h
level_more r b (k ∷ []) room inside x h = (h.0, fields_more r room inside b x h.1)
level_more r b (k ∷ j ∷ []) room inside x h = record {
  around = h.around;
  part = h.part ++ x ∷ [];
  outer = level_more r b (j ∷ []) h.around h.part x h.outer;
  fields = h.fields;
  done = h.done;
  bmp = h.bmp;
  size = h.size;
  whole = ap (λ (s : List ℕ). s ++ x ∷ []) h.whole ∙ append_assoc h.done (h.bmp ∷ (h.size ++ inside)) (x ∷ []) ∙ ap (λ (s : List ℕ). h.done ++ h.bmp ∷ s) (append_assoc h.size inside (x ∷ []));
  spelled = h.spelled;
  is_tree = h.is_tree;
  is_length = h.is_length;
  filled = h.filled;
  apart = h.apart;
}
level_more r b (k ∷ j ∷ i ∷ ks) room inside x h = record {
  around = h.around;
  part = h.part ++ x ∷ [];
  outer = level_more r b (j ∷ i ∷ ks) h.around h.part x h.outer;
  items = h.items;
  done = h.done;
  tag = h.tag;
  size = h.size;
  whole = ap (λ (s : List ℕ). s ++ x ∷ []) h.whole ∙ trailing h.done h.tag h.size inside;
  spelled = h.spelled;
  tagged = h.tagged;
  is_length = h.is_length;
  filled = h.filled;
  apart = h.apart;
}
  where
    trailing : (done tag size inside : List ℕ) → (done ++ (tag ++ (size ++ inside))) ++ x ∷ [] ≡ done ++ (tag ++ (size ++ (inside ++ x ∷ [])))
    trailing done tag size inside = simp append_assoc

-- one more byte of the item
pub field_more : (r : Reading) (left less : ℕ) (b : List ℕ) (x : ℕ) (P Q : List ℕ → Type 0) → AtField r left b P → ((s : List ℕ) → P s → Q (s ++ x ∷ [])) → left ≡ suc less → AtField r less (b ++ x ∷ []) Q
field_more r left less b x P Q h f e = record {
  room = h.room;
  part = h.part ++ x ∷ [];
  level = fields_more r h.room h.part b x h.level;
  fields = h.fields;
  done = h.done;
  beginning = h.beginning ++ x ∷ [];
  whole = ap (λ (s : List ℕ). s ++ x ∷ []) h.whole ∙ append_assoc h.done h.beginning (x ∷ []);
  spelled = h.spelled;
  begins = f h.beginning h.begins;
  filled = omega (arith, length-append h.part (x ∷ []), h.filled, e);
}

pub object_more : (r : Reading) (left less : ℕ) (outer b : List ℕ) (x : ℕ) (P Q : List ℕ → Type 0) → AtObject r left outer b P → ((s : List ℕ) → P s → Q (s ++ x ∷ [])) → left ≡ suc less → AtObject r less outer (b ++ x ∷ []) Q
object_more r left less outer b x P Q h f e = record {
  room = h.room;
  part = h.part ++ x ∷ [];
  level = level_more r b outer h.room h.part x h.level;
  items = h.items;
  done = h.done;
  beginning = h.beginning ++ x ∷ [];
  whole = ap (λ (s : List ℕ). s ++ x ∷ []) h.whole ∙ append_assoc h.done h.beginning (x ∷ []);
  spelled = h.spelled;
  begins = f h.beginning h.begins;
  filled = omega (arith, length-append h.part (x ∷ []), h.filled, e);
}

-- the item is complete
pub field_done : (r : Reading) (left : ℕ) (b : List ℕ) (P : List ℕ → Type 0) → AtField r left b P → ((s : List ℕ) → P s → (f : Field) × FieldOf r f s) → AtField r left b IsEmpty
field_done r left b P h f =
    let one = f h.beginning h.begins in
    record {
      room = h.room;
      part = h.part;
      level = h.level;
      fields = h.fields ++ one.0 ∷ [];
      done = h.done ++ h.beginning;
      beginning = [];
      whole = h.whole ∙ sym (append-nil (h.done ++ h.beginning));
      spelled = list_joined r h.fields (one.0 ∷ []) h.done h.beginning h.spelled (h.beginning, [], sym (append-nil h.beginning), one.1, refl);
      begins = refl;
      filled = h.filled;
    }

pub object_done : (r : Reading) (left : ℕ) (outer b : List ℕ) (P : List ℕ → Type 0) → AtObject r left outer b P → ((s : List ℕ) → P s → (f : Objects) × Spells r (depth_of outer) f s) → AtObject r left outer b IsEmpty
object_done r left outer b P h f =
    let one = f h.beginning h.begins in
    record {
      room = h.room;
      part = h.part;
      level = h.level;
      items = joined h.items one.0;
      done = h.done ++ h.beginning;
      beginning = [];
      whole = h.whole ∙ sym (append-nil (h.done ++ h.beginning));
      spelled = spells_joined r (depth_of outer) h.items one.0 h.done h.beginning h.spelled one.1;
      begins = refl;
      filled = h.filled;
    }

-- objects
pub bytes_object : (r : Reading) (d n : ℕ) (tag size part : List ℕ) → Tagged d false tag → IsLength r n size → length part ≡ n → AreBytes part → Spells r d (primitive tag part none) (tag ++ (size ++ part))
bytes_object r d n tag size part t l e are = record {
  size = size;
  content = part;
  after = [];
  whole = ap (λ (s : List ℕ). tag ++ (size ++ s)) (sym (append-nil part));
  is_tag = t.is_tag;
  is_kind = t.is_kind;
  is_length = subst (λ (k : ℕ). IsLength r k size) (sym e) l;
  inside = (refl, are);
  others = refl;
}

nested_object : (r : Reading) (d n : ℕ) (tag size part : List ℕ) (f : Objects) → Tagged d true tag → IsLength r n size → length part ≡ n → Spells r (suc d) f part → Spells r d (constructed tag f none) (tag ++ (size ++ part))
nested_object r d n tag size part f t l e s = record {
  size = size;
  content = part;
  after = [];
  whole = ap (λ (s : List ℕ). tag ++ (size ++ s)) (sym (append-nil part));
  is_tag = t.is_tag;
  is_kind = t.is_kind;
  is_length = subst (λ (k : ℕ). IsLength r k size) (sym e) l;
  inside = (t.deep refl, s);
  others = refl;
}

-- a level that is filled ends the item that it is in
pub filled_level : (r : Reading) (k : ℕ) (ks b : List ℕ) → Between r 0 (k ∷ ks) b → Between r k ks b
filled_level r k [] b h =
    let a = h.2 in
    let f = a.level in
    (h.0, record { n = f.n; inside = f.head ++ a.part; begun = f.begun; full = omega (arith, length-append f.head a.part, a.filled, f.filled) })
filled_level r k (j ∷ []) b h =
    let a = h.1 in
    let c = a.level in
    let whole : a.part ≡ a.done = a.whole ∙ ap (λ (s : List ℕ). a.done ++ s) a.begins ∙ append-nil a.done in
    let full : length a.part ≡ a.room = omega (arith, a.filled) in
    let inner : Spells r 1 a.items a.part = subst (Spells r 1 a.items) (sym whole) a.spelled in
    let one : FieldOf r (tree c.bmp a.items) (c.bmp ∷ (c.size ++ a.part)) =
    record { one = c.size ++ a.part; whole = refl; is_tree = c.is_tree; sized = record { size = c.size; content = a.part; whole = refl; is_length = subst (λ (m : ℕ). IsLength r m c.size) (sym full) c.is_length; inside = inner } } in
    let at : AtField r k b (λ s. s ≡ c.bmp ∷ (c.size ++ a.part)) = record {
      room = c.around;
      part = c.part;
      level = c.outer.1;
      fields = c.fields;
      done = c.done;
      beginning = c.bmp ∷ (c.size ++ a.part);
      whole = c.whole;
      spelled = c.spelled;
      begins = refl;
      filled = omega (arith, ap length c.whole, length-append c.done (c.bmp ∷ (c.size ++ a.part)), length-append c.size a.part, c.filled, full);
    } in
    (c.outer.0, c.apart, field_done r k b _ at (λ s e. (tree c.bmp a.items, subst (FieldOf r (tree c.bmp a.items)) (sym e) one)))
filled_level r k (j ∷ i ∷ ks) b h =
    let a = h.1 in
    let c = a.level in
    let d = depth_of (j ∷ i ∷ ks) in
    let whole : a.part ≡ a.done = a.whole ∙ ap (λ (s : List ℕ). a.done ++ s) a.begins ∙ append-nil a.done in
    let full : length a.part ≡ a.room = omega (arith, a.filled) in
    let inner : Spells r (suc d) a.items a.part = subst (Spells r (suc d) a.items) (sym whole) a.spelled in
    let one = nested_object r d a.room c.tag c.size a.part a.items c.tagged c.is_length full inner in
    let at : AtObject r k (j ∷ i ∷ ks) b (λ s. s ≡ c.tag ++ (c.size ++ a.part)) = record {
      room = c.around;
      part = c.part;
      level = c.outer;
      items = c.items;
      done = c.done;
      beginning = c.tag ++ (c.size ++ a.part);
      whole = c.whole;
      spelled = c.spelled;
      begins = refl;
      filled = omega (arith, ap length c.whole, length-append c.done (c.tag ++ (c.size ++ a.part)), length-append c.tag (c.size ++ a.part), length-append c.size a.part, c.filled, full);
    } in
    (c.apart, object_done r k (j ∷ i ∷ ks) b _ at (λ s e. (constructed c.tag a.items none, subst (Spells r d (constructed c.tag a.items none)) (sym e) one)))
