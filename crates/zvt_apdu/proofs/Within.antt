-- What follows in the fields of a message is what follows in a list of fields of the room that is left.
use Rattle.std.proofs.Common.{◌≡◌, ℕ, ◌+◌, ◌<◌, Bool, true, List, [], ◌∷◌, ◌++◌, length, refl, sym, ◌∙◌, ap, subst, append_assoc, arith, length-append}
use Rattle.zvt_bcd.specs.Digits.{AreDigits}
use Rattle.zvt_grammar.specs.Reading.{Reading, AreBytes}
use Rattle.zvt_tlv.specs.Judging.{Opener}
use Rattle.zvt_grammar.specs.Beginnings.{Alive}
use Rattle.zvt_tlv.proofs.Spelling.{same_prefix}
use Rattle.zvt_tlv.proofs.Alive.{says_of}
use Rattle.zvt_tlv.proofs.Room.{Says}
use Rattle.zvt_field.specs.Grammar.{Field, FieldList}
use Rattle.zvt_field.specs.Judging as field
use Rattle.zvt_field.proofs.Counts as counts
use Rattle.zvt_apdu.specs.Message.{Message}
use Rattle.zvt_apdu.specs.Grammar.{IsFrameLength, Spells}
use Rattle.zvt_apdu.specs.Judging.{Layout, layout_of, head_size, in_fields, InFields, fault}
use Rattle.zvt_apdu.proofs.Frames.{Tail, Parts, Frame, frame_of}
use Rattle.zvt_apdu.proofs.Named.{message_of}
pub use Rattle.zvt_apdu.specs.UniqueDecoding.{frame_length_prefix}

-- a whole frame of a beginning whose length stands
pub record Same (r : Reading) (high low : ℕ) (size : List ℕ) (n : ℕ) (inside rest : List ℕ) (b : List ℕ) (f : Frame r b) : Type 0 where
  pub highs : f.high ≡ high
  pub lows : f.low ≡ low
  pub sizes : f.size ≡ size
  pub numbers : length f.content ≡ n
  pub contents : f.content ≡ inside ++ rest

pub same_frame : (r : Reading) (high low : ℕ) (size : List ℕ) (n : ℕ) (inside rest : List ℕ) (b : List ℕ) (f : Frame r b) → IsFrameLength r n size → b ≡ (high ∷ low ∷ (size ++ inside)) ++ rest →
    Same r high low size n inside rest b f
same_frame r high low size n inside rest b f l e =
    let whole : f.high ∷ f.low ∷ (f.size ++ f.content) ≡ high ∷ low ∷ (size ++ (inside ++ rest)) = sym f.whole ∙ e ∙ ap (λ (s : List ℕ). high ∷ low ∷ s) (append_assoc size inside rest) in
    let one = frame_length_prefix r (length f.content) n f.size size f.content (inside ++ rest) f.is_size l (cc (whole)) in
    record { highs = cc (whole); lows = cc (whole); sizes = one.0; numbers = one.1; contents = one.2 }

alive_frame : (r : Reading) (b : List ℕ) → Alive (Spells r) b → (rest : List ℕ) × Frame r (b ++ rest)
alive_frame r b h = (h.rest, frame_of r h.value (b ++ h.rest) h.spelled)

frame_alive : (r : Reading) (b rest : List ℕ) → Frame r (b ++ rest) → Alive (Spells r) b
frame_alive r b rest f = let m = message_of r (b ++ rest) f in record { value = m.message; rest = rest; spelled = m.spelled }

-- the data's parts, of the layout that the beginning says
parts_in : (r : Reading) (high low : ℕ) (size : List ℕ) (n : ℕ) (inside rest b : List ℕ) (f : Frame r b) → Same r high low size n inside rest b f → Parts r (layout_of high low n) (inside ++ rest)
parts_in r high low size n inside rest b f s =
    subst (Parts r (layout_of high low n)) s.contents
    (subst (λ (m : ℕ). Parts r (layout_of high low m) f.content) s.numbers
    (subst (λ (l : ℕ). Parts r (layout_of high l (length f.content)) f.content) s.lows
    (subst (λ (h : ℕ). Parts r (layout_of h f.low (length f.content)) f.content) s.highs f.parts)))

-- the head and the fields of the parts
pub record Split (r : Reading) (l : Layout) (head c rest : List ℕ) : Type 0 where
  pub free : List ℕ
  pub digits : List ℕ
  pub head_whole : head ≡ free ++ digits
  pub free_size : length free ≡ l.free
  pub are_bytes : AreBytes free
  pub digits_size : length digits ≡ l.digits
  pub are_digits : AreDigits digits
  pub tailed : Tail r l.fields (c ++ rest)

pub split : (r : Reading) (l : Layout) (head c rest : List ℕ) → length head ≡ head_size l → Parts r l ((head ++ c) ++ rest) → Split r l head c rest
split r l head c rest sized p =
    let whole : head ++ (c ++ rest) ≡ (p.free ++ p.digits) ++ p.tail = sym (append_assoc head c rest) ∙ p.whole ∙ sym (append_assoc p.free p.digits p.tail) in
    let two = same_prefix head (p.free ++ p.digits) (c ++ rest) p.tail (omega (arith, length-append p.free p.digits, p.free_size, p.digits_size, sized)) whole in
    record { free = p.free; digits = p.digits; head_whole = two.0; free_size = p.free_size; are_bytes = p.are_bytes; digits_size = p.digits_size; are_digits = p.are_digits; tailed = subst (Tail r l.fields) (sym two.1) p.tailed }

listed_tail : (r : Reading) (b : Bool) (s : List ℕ) → b ≡ true → Tail r b s → (fs : List Field) × FieldList r fs s
listed_tail r b s e t = subst (λ (c : Bool). Tail r c s) e t

tail_listed : (r : Reading) (b : Bool) (s : List ℕ) (fs : List Field) → b ≡ true → FieldList r fs s → Tail r b s
tail_listed r b s fs e p = let P : Bool → Type 0 = λ c. Tail r c s in subst P (sym e) (fs, p)

-- the fields of a message that is alive are alive in their room
module _ (r : Reading) (high low : ℕ) (size : List ℕ) (n : ℕ) (head : List ℕ) (room : ℕ) (is_size : IsFrameLength r n size) (listed : (layout_of high low n).fields ≡ true)
    (sized : length head ≡ head_size (layout_of high low n)) (filled : length head + room ≡ n) where
  abbrev begun : List ℕ → List ℕ
  begun c = high ∷ low ∷ (size ++ (head ++ c))

  pub alive_fields : (c : List ℕ) → Alive (Spells r) (begun c) → field.AliveIn r room c
  alive_fields c h =
      let f = alive_frame r (begun c) h in
      let s = same_frame r high low size n (head ++ c) f.0 (begun c ++ f.0) f.1 is_size refl in
      let p = split r (layout_of high low n) head c f.0 sized (parts_in r high low size n (head ++ c) f.0 (begun c ++ f.0) f.1 s) in
      let t = listed_tail r (layout_of high low n).fields (c ++ f.0) listed p.tailed in
      record { value = t.0; rest = f.0; spelled = (t.1, omega (arith, s.numbers, ap length s.contents, length-append (head ++ c) f.0, length-append head c, length-append c f.0, filled)) }

  pub fields_alive : (c d : List ℕ) → (high < 256) × (low < 256) → Alive (Spells r) (begun d) → field.AliveIn r room c → Alive (Spells r) (begun c)
  fields_alive c d small h a =
      let f = alive_frame r (begun d) h in
      let s = same_frame r high low size n (head ++ d) f.0 (begun d ++ f.0) f.1 is_size refl in
      let p = split r (layout_of high low n) head d f.0 sized (parts_in r high low size n (head ++ d) f.0 (begun d ++ f.0) f.1 s) in
      let content = head ++ (c ++ a.rest) in
      let long : length content ≡ n = omega (arith, length-append head (c ++ a.rest), a.spelled.1, filled) in
      let whole : begun c ++ a.rest ≡ high ∷ low ∷ (size ++ content) = ap (λ (s : List ℕ). high ∷ low ∷ s) (append_assoc size (head ++ c) a.rest ∙ ap (λ (s : List ℕ). size ++ s) (append_assoc head c a.rest)) in
      let parts : Parts r (layout_of high low n) content = record {
        free = p.free;
        digits = p.digits;
        tail = c ++ a.rest;
        whole = ap (λ (s : List ℕ). s ++ (c ++ a.rest)) p.head_whole ∙ append_assoc p.free p.digits (c ++ a.rest);
        free_size = p.free_size;
        are_bytes = p.are_bytes;
        digits_size = p.digits_size;
        are_digits = p.are_digits;
        tailed = tail_listed r (layout_of high low n).fields (c ++ a.rest) a.value listed a.spelled.0;
      } in
      frame_alive r (begun c) a.rest (record {
        high = high;
        low = low;
        size = size;
        content = content;
        whole = whole;
        are_bytes = small;
        is_size = subst (λ (m : ℕ). IsFrameLength r m size) (sym long) is_size;
        parts = subst (λ (m : ℕ). Parts r (layout_of high low m) content) (sym long) parts;
      })

-- in the fields: a byte's tests pass exactly where it leaves the message alive
pub fit_fields : (r : Reading) (os : List Opener) (b : List ℕ) (role : field.Role) (left x : ℕ) → InFields r os b role left → x < 256 → Alive (Spells r) b →
    Says (fault r (in_fields role left) x) (Alive (Spells r) (b ++ x ∷ []))
fit_fields r os b role left x p lt a =
    let d = p.data_begun in
    let e : b ≡ d.high ∷ d.low ∷ (d.size ++ (p.head ++ p.part)) = d.whole ∙ ap (λ (s : List ℕ). d.high ∷ d.low ∷ (d.size ++ s)) p.whole in
    let more : d.high ∷ d.low ∷ (d.size ++ (p.head ++ (p.part ++ x ∷ []))) ≡ b ++ x ∷ [] =
    sym (ap (λ (s : List ℕ). d.high ∷ d.low ∷ s) (append_assoc d.size (p.head ++ p.part) (x ∷ []) ∙ ap (λ (s : List ℕ). d.size ++ s) (append_assoc p.head p.part (x ∷ [])))) ∙ ap (λ (s : List ℕ). s ++ x ∷ []) (sym e) in
    let here = subst (Alive (Spells r)) e a in
    let f = counts.fit r os p.room p.part role left x p.stands lt (alive_fields r d.high d.low d.size d.n p.head p.room d.is_size p.has_fields p.sized p.filled p.part here) in
    says_of (field.fault r role left x) (field.AliveIn r p.room (p.part ++ x ∷ [])) (Alive (Spells r) (b ++ x ∷ []))
    (λ h. subst (Alive (Spells r)) more (fields_alive r d.high d.low d.size d.n p.head p.room d.is_size p.has_fields p.sized p.filled (p.part ++ x ∷ []) p.part d.are_bytes here h))
    (λ h. alive_fields r d.high d.low d.size d.n p.head p.room d.is_size p.has_fields p.sized p.filled (p.part ++ x ∷ []) (subst (Alive (Spells r)) (sym more) h))
    f

-- spellings that begin alike are one
pub frames_end : (r : Reading) (m n : Message) (a b x y : List ℕ) → Spells r m a → Spells r n b → a ++ x ≡ b ++ y → a ≡ b
frames_end r m n a b x y p q e =
    let f = frame_of r m a p in
    let g = frame_of r n b q in
    let whole : f.high ∷ f.low ∷ (f.size ++ (f.content ++ x)) ≡ g.high ∷ g.low ∷ (g.size ++ (g.content ++ y)) =
    ap (λ (s : List ℕ). f.high ∷ f.low ∷ s) (sym (append_assoc f.size f.content x)) ∙ ap (λ (s : List ℕ). s ++ x) (sym f.whole) ∙ e ∙ ap (λ (s : List ℕ). s ++ y) g.whole ∙ ap (λ (s : List ℕ). g.high ∷ g.low ∷ s) (append_assoc g.size g.content y) in
    let highs : f.high ≡ g.high = cc (whole) in
    let lows : f.low ≡ g.low = cc (whole) in
    let one = frame_length_prefix r (length f.content) (length g.content) f.size g.size (f.content ++ x) (g.content ++ y) f.is_size g.is_size (cc (whole)) in
    let two = same_prefix f.content g.content x y one.1 one.2 in
    let sizes : f.size ≡ g.size = one.0 in
    let contents : f.content ≡ g.content = two.0 in
    f.whole ∙ cc (highs, lows, sizes, contents) ∙ sym g.whole
