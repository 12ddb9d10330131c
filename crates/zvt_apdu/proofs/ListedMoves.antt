-- The steps of the reader of data that ends in fields.
use Rattle.std.proofs.Common.{◌≡◌, ◌≢◌, ℕ, ◌+◌, ◌-◌, ◌<◌, ◌≤◌, Bool, true, false, Some, List, [], ◌∷◌, ◌++◌, length, take, drop, slice_get, refl, sym, ◌∙◌, ap, subst, append_assoc, arith, length-append, length-drop, suc}
use Rattle.std.proofs.lemmas.Bool.{false≢true}
use Rattle.std.proofs.lemmas.List.{append-nil, length-take-le, take-append-drop, take-append-le}
use Rattle.std.proofs.Math.Seq.{drop-append_seam, take-add}
use Rattle.zvt_bcd.specs.Digits.{AreDigits}
use Rattle.zvt_grammar.specs.declared.why.Why.{Why}
use Rattle.zvt_grammar.specs.declared.answer.Scan.{Scan}
use Rattle.zvt_grammar.specs.declared.answer.Scan.TheVariants.{Whole, More, Refused}
use Rattle.zvt_grammar.specs.Beginnings.{Alive, NoneWhole, Unfinished, Place}
use Rattle.zvt_grammar.specs.Reading.{Reading, AreBytes}
use Rattle.zvt_tlv.proofs.Spelling.{same_prefix}
use Rattle.zvt_tlv.proofs.Levels.{byte_from}
use Rattle.zvt_field.specs.Grammar.{Field, FieldList}
use Rattle.zvt_field.specs.Judging as field
use Rattle.zvt_field.specs.Answers as field_answers
use Rattle.zvt_apdu.specs.Message.{Message}
use Rattle.zvt_apdu.specs.Grammar.{IsFrameLength, Spells}
use Rattle.zvt_apdu.specs.Judging.{Layout, layout_of, head_size, in_fields, WhyOf, Found, Opens, Headed, Opening}
use Rattle.zvt_apdu.specs.Messages.{IsMessage}
use Rattle.zvt_apdu.proofs.Frames.{Tail}
use Rattle.zvt_apdu.proofs.KindLemmas.{HasFields}
use Rattle.zvt_apdu.proofs.Opened.{begun, Goes, goes, goes_alive, fills_out, parts_size, alive_listed}
use Rattle.zvt_apdu.proofs.DataMoves.{are_bytes, take_bytes, inside_is, prefix_is, whole_size, inside_bytes, goes_with, none_whole, Stands, stands, is_found}

-- fields
abbrev pub trailing : (l : Layout) → List ℕ → List ℕ
trailing l inside = drop (head_size l) inside

room_is : (r : Reading) (bytes : List ℕ) (o : Opening) (l : Layout) → (s : Stands r bytes o l) → head_size l ≤ o.size
room_is r bytes o l s = omega (arith, (fills_out (layout_of o.high o.low o.size) o.size s.opens.fills).0, ap head_size s.is_layout)

pub listed_room : (r : Reading) (bytes : List ℕ) (o : Opening) (l : Layout) → Headed r bytes o l → l.fields ≡ true → (head_size l ≤ o.size) × (o.size < 65536) × (o.size - head_size l ≢ 1)
listed_room r bytes o l h f =
    let s = stands r bytes o l h in
    let fits = room_is r bytes o l s in (
      fits,
      size_small r o.size h.opens.size h.opens.is_size,
      λ one. (fills_out (layout_of o.high o.low o.size) o.size h.opens.fills).1 (ap (λ (l : Layout). l.fields) (sym h.is_layout) ∙ f) (omega (arith, one, fits, ap head_size h.is_layout)),
    )
  where
    size_small : (r : Reading) (n : ℕ) (s : List ℕ) → IsFrameLength r n s → n < 65536
    size_small r n [] h = absurd h
    size_small r n (a ∷ []) h = omega (arith, h.0)
    size_small r n (a ∷ b ∷ []) h = absurd h
    size_small r n (a ∷ x ∷ y ∷ []) h = omega (arith, h.2, h.3, h.4)
    size_small r n (a ∷ b ∷ c ∷ d ∷ s) h = absurd h

-- what the reader of fields says of the bytes after the head
at : (r : Reading) (bytes inside part : List ℕ) (o : Opening) (l : Layout) (p : Opens r bytes o) (q q' : Scan (List Field)) → inside ≡ drop o.start bytes → part ≡ drop (head_size l) inside → q ≡ q' → field_answers.Answers r (o.size - head_size l) part q → field_answers.Answers r (o.size - head_size l) (trailing l p.inside) q'
at r bytes inside part o l p q q' e f is h =
    subst (λ (s : List ℕ). field_answers.Answers r (o.size - head_size l) s q') (f ∙ ap (drop (head_size l)) (e ∙ inside_is r bytes o p)) (subst (field_answers.Answers r (o.size - head_size l) part) is h)

pub fields_whole : (r : Reading) (bytes inside part : List ℕ) (o : Opening) (l : Layout) (q : Scan (List Field)) (fs : List Field) (m : Message) → (h : Headed r bytes o l) → l.fields ≡ true → inside ≡ drop o.start bytes → part ≡ drop (head_size l) inside → q ≡ Whole fs →
    field_answers.Answers r (o.size - head_size l) part q → ((listed : List ℕ) → FieldList r fs listed → IsMessage r o.high o.low (take (head_size l) inside ++ listed) m) → Found r bytes m (o.start + o.size)
unfolding stands
fields_whole r bytes inside part o l q fs m h f e e' is a make =
    let w = at r bytes inside part o l h.opens q (Whole fs) e e' is a in
    let s = stands r bytes o l h in
    let room = o.size - head_size l in
    let there : head_size l + room ≡ o.size = omega (arith, room_is r bytes o l s) in
    let listed = take room (trailing l h.opens.inside) in
    let same : inside ≡ h.opens.inside = e ∙ inside_is r bytes o h.opens in
    let content : take (head_size l) inside ++ listed ≡ take o.size h.opens.inside =
    ap (λ (s : List ℕ). take (head_size l) s ++ listed) same ∙ sym (take-add (head_size l) room h.opens.inside) ∙ ap (λ (k : ℕ). take k h.opens.inside) there in
    is_found r bytes (take (head_size l) inside ++ listed) o h.opens m (make listed w.1) content (omega (arith, w.0, length-drop (head_size l) h.opens.inside, s.there, there))

pub fields_more : (r : Reading) (bytes inside part : List ℕ) (o : Opening) (l : Layout) (q : Scan (List Field)) → Headed r bytes o l → l.fields ≡ true → inside ≡ drop o.start bytes → part ≡ drop (head_size l) inside → q ≡ More →
    field_answers.Answers r (o.size - head_size l) part q → AreBytes bytes → Unfinished (Spells r) bytes
unfolding stands
fields_more r bytes inside part o l q h f e e' is a are =
    let w = at r bytes inside part o l h.opens q More e e' is a in
    let s = stands r bytes o l h in
    let p = s.opens in
    let room = o.size - head_size l in
    record {
      alive = subst (Alive (Spells r)) (ap (begun o.high o.low p.size) (sym s.parts) ∙ sym p.whole)
          (alive_listed r o.high o.low o.size p.size p.are_bytes p.is_size (take l.free p.inside) (take l.digits (drop l.free p.inside)) (trailing l p.inside) room s.free_size (take_bytes l.free p.inside (inside_bytes r bytes o p are)) s.digits_size s.are_digits
          (ap (λ (l : Layout). l.fields) (sym s.is_layout) ∙ f) (omega (arith, room_is r bytes o l s, ap head_size s.is_layout)) w.1);
      none_whole = none_whole r bytes o p (omega (arith, w.0, length-drop (head_size l) p.inside, s.there, room_is r bytes o l s));
    }

-- the fields of what goes with a beginning
listed_parts : (r : Reading) (high low n room : ℕ) (size inside prefix rest head : List ℕ) (l : Layout) → (g : Goes r high low n size inside prefix rest) → l ≡ layout_of high low n → l.fields ≡ true → length head ≡ head_size l → head_size l + room ≡ n → (part : List ℕ) → inside ≡ head ++ part →
    (fs : List Field) × (listed : List ℕ) × (listed ++ rest ≡ part) × FieldList r fs listed × (length listed ≡ room)
listed_parts r high low n room size inside prefix rest head l g is f sized filled part e =
    let p = g.parts in
    let back : (p.free ++ (p.digits ++ p.tail)) ++ rest ≡ (p.free ++ p.digits) ++ (p.tail ++ rest) = simp append_assoc in
    let whole : (p.free ++ p.digits) ++ (p.tail ++ rest) ≡ head ++ part = sym back ∙ ap (λ (s : List ℕ). s ++ rest) (sym p.whole) ∙ g.inside_is ∙ e in
    let two = same_prefix (p.free ++ p.digits) head (p.tail ++ rest) part (omega (arith, length-append p.free p.digits, p.free_size, p.digits_size, sized, ap head_size is)) whole in
    let t = listed_tail (layout_of high low n).fields p.tail (ap (λ (l : Layout). l.fields) (sym is) ∙ f) p.tailed in
    (t.0, p.tail, two.1, t.1, omega (arith, g.sized, parts_size r (layout_of high low n) g.content p, filled, ap head_size is))
  where
    listed_tail : (b : Bool) (s : List ℕ) → b ≡ true → Tail r b s → (fs : List Field) × FieldList r fs s
    listed_tail true s e t = t
    listed_tail false s e t = absurd (false≢true e)

-- a prefix is a prefix of what comes first
cut_prefix : (k : ℕ) (s t rest : List ℕ) → t ++ rest ≡ s → k ≤ length t → take k s ≡ take k t
cut_prefix k s t rest e le = ap (take k) (sym e) ∙ take-append-le k t rest le

-- fields by a prefix and what is left
parted : (r : Reading) (fs : List Field) (room k : ℕ) (s u : List ℕ) → u ≡ take k s → FieldList r fs s → length s ≡ room →
    FieldList r fs (u ++ drop k s) × (length (u ++ drop k s) ≡ room)
parted r fs room k s u e f l =
    subst (λ (v : List ℕ). FieldList r fs v × (length v ≡ room)) (sym (take-append-drop k s) ∙ ap (λ (v : List ℕ). v ++ drop k s) (sym e)) (f, l)

-- fields with nothing after them
ended : (r : Reading) (fs : List Field) (room : ℕ) (s u : List ℕ) → s ++ [] ≡ u → FieldList r fs s → length s ≡ room → FieldList r fs u × (length u ≡ room)
ended r fs room s u e f l = subst (λ (v : List ℕ). FieldList r fs v × (length v ≡ room)) (sym (append-nil s) ∙ e) (f, l)

pub fields_refused : (r : Reading) (bytes inside part : List ℕ) (o : Opening) (l : Layout) (q : Scan (List Field)) (k : ℕ) (why : Why) → Headed r bytes o l → l.fields ≡ true → inside ≡ drop o.start bytes → part ≡ drop (head_size l) inside → q ≡ Refused k why →
    field_answers.Answers r (o.size - head_size l) part q → AreBytes bytes →
    NoneWhole (Spells r) bytes × Place (Spells r) bytes ((o.start + head_size l) + k) × WhyOf r bytes ((o.start + head_size l) + k) why
unfolding stands
fields_refused r bytes inside part o l q k why h f e e' is a are =
    let w = at r bytes inside part o l h.opens q (Refused k why) e e' is a in
    let s = stands r bytes o l h in
    let p = s.opens in
    let place = w.0.0 in
    let reason = w.1 in
    let room = o.size - head_size l in
    let total : head_size l + room ≡ o.size = omega (arith, room_is r bytes o l s) in
    let head = take (head_size l) p.inside in
    let head_len : length head ≡ head_size l = length-take-le (head_size l) p.inside s.there in
    let left : (o.start + head_size l) + k ≡ o.start + (head_size l + k) = omega arith in
    let next : suc ((o.start + head_size l) + k) ≡ o.start + (head_size l + suc k) = omega arith in
    let upto : (j : ℕ) → take (o.start + (head_size l + j)) bytes ≡ begun o.high o.low p.size (head ++ take j (trailing l p.inside)) =
    λ j. prefix_is r bytes o p (head_size l + j) ∙ ap (begun o.high o.low p.size) (take-add (head_size l) j p.inside) in
    let at_place : take ((o.start + head_size l) + k) bytes ≡ begun o.high o.low p.size (head ++ take k (trailing l p.inside)) = ap (λ (m : ℕ). take m bytes) left ∙ upto k in
    let after : take (suc ((o.start + head_size l) + k)) bytes ≡ begun o.high o.low p.size (head ++ take (suc k) (trailing l p.inside)) = ap (λ (m : ℕ). take m bytes) next ∙ upto (suc k) in
    let heads : head ≡ take l.free p.inside ++ take l.digits (drop l.free p.inside) = take-add l.free l.digits p.inside in (
      λ m b rest g t. place.dead (first (goes_with r bytes o p m b rest g t) w.0.1),
      record {
        present = omega (arith, whole_size r bytes o p, place.present, length-drop (head_size l) p.inside, s.there);
        alive = subst (Alive (Spells r)) (ap (begun o.high o.low p.size) (sym (ap (λ (s : List ℕ). s ++ take k (trailing l p.inside)) heads ∙ append_assoc (take l.free p.inside) (take l.digits (drop l.free p.inside)) (take k (trailing l p.inside)))) ∙ sym at_place)
            (alive_listed r o.high o.low o.size p.size p.are_bytes p.is_size (take l.free p.inside) (take l.digits (drop l.free p.inside)) (take k (trailing l p.inside)) room s.free_size (take_bytes l.free p.inside (inside_bytes r bytes o p are)) s.digits_size s.are_digits
            (ap (λ (l : Layout). l.fields) (sym s.is_layout) ∙ f) (omega (arith, total, ap head_size s.is_layout)) place.alive);
        dead = λ d.
            let b = subst (Alive (Spells r)) after d in
            let g = goes_alive r o.high o.low o.size p.size (head ++ take (suc k) (trailing l p.inside)) p.is_size b in
            let t = listed_parts r o.high o.low o.size room p.size _ _ [] head l g s.is_layout f head_len total (take (suc k) (trailing l p.inside) ++ b.rest) (append_assoc head (take (suc k) (trailing l p.inside)) b.rest) in
            place.dead (record { value = t.0; rest = b.rest; spelled = ended r t.0 room t.1 (take (suc k) (trailing l p.inside) ++ b.rest) t.2 t.3 t.4 });
      },
      record {
        openers = reason.openers;
        role = in_fields reason.role reason.left;
        byte = reason.byte;
        stands = record {
          data_begun = record {
            high = o.high;
            low = o.low;
            size = p.size;
            n = o.size;
            inside = head ++ take k (trailing l p.inside);
            whole = at_place;
            are_bytes = p.are_bytes;
            is_size = p.is_size;
            fills = p.fills;
            short = omega (arith, length-append head (take k (trailing l p.inside)), head_len, length-take-le k (trailing l p.inside) (omega (arith, place.present)), w.0.1, total);
          };
          has_fields = ap (λ (l : Layout). l.fields) (sym s.is_layout) ∙ f;
          head = head;
          part = take k (trailing l p.inside);
          whole = refl;
          sized = head_len ∙ ap head_size s.is_layout;
          room = room;
          filled = omega (arith, head_len, total);
          stands = reason.stands;
        };
        is_byte =
            let deep : slice_get p.inside (head_size l + k) ≡ Some reason.byte = byte_from (head_size l) k reason.byte p.inside place.present reason.is_byte in
            let size : length (drop o.start bytes) ≡ length p.inside = ap length (inside_is r bytes o p) in
            ap (slice_get bytes) left ∙ byte_from o.start (head_size l + k) reason.byte bytes (omega (arith, size, place.present, length-drop (head_size l) p.inside, s.there)) (subst (λ (s : List ℕ). slice_get s (head_size l + k) ≡ Some reason.byte) (sym (inside_is r bytes o p)) deep);
        fails = reason.fails;
      },
    )
  where
    first : {b rest : List ℕ} → Goes r o.high o.low o.size h.opens.size h.opens.inside b rest → k < o.size - head_size l → field.AliveIn r (o.size - head_size l) (take (suc k) (trailing l h.opens.inside))
    first {b = b} {rest = rest} g lt =
        let s = stands r bytes o l h in
        let room = o.size - head_size l in
        let inside = h.opens.inside in
        let t = listed_parts r o.high o.low o.size room h.opens.size inside b rest (take (head_size l) inside) l g s.is_layout f (length-take-le (head_size l) inside s.there) (omega (arith, room_is r bytes o l s)) (trailing l inside) (sym (take-append-drop (head_size l) inside)) in
        let same : take (suc k) (trailing l inside) ≡ take (suc k) t.1 = cut_prefix (suc k) (trailing l inside) t.1 rest t.2 (omega (arith, t.4, lt)) in
        record {
          value = t.0;
          rest = drop (suc k) t.1;
          spelled = parted r t.0 room (suc k) t.1 (take (suc k) (trailing l inside)) same t.3 t.4;
        }

-- the head before the fields
pub head_fields : (r : Reading) (bytes inside : List ℕ) (o : Opening) (l : Layout) → Headed r bytes o l → l.fields ≡ true → inside ≡ drop o.start bytes → HasFields o.high o.low (take (head_size l) inside)
unfolding stands
head_fields r bytes inside o l h f e =
    let s = stands r bytes o l h in
    let whole = h.opens.inside in
    let same : inside ≡ whole = e ∙ inside_is r bytes o h.opens in
    let sized : length (take (head_size l) inside) ≡ head_size l = length-take-le (head_size l) inside (omega (arith, s.there, ap length same)) in
    let head : take (head_size l) inside ≡ take l.free whole ++ take l.digits (drop l.free whole) = ap (take (head_size l)) same ∙ take-add l.free l.digits whole in
    let prefix_size : (layout_of o.high o.low o.size).free ≡ length (take l.free whole) = sym s.free_size in
    let digits : drop (layout_of o.high o.low o.size).free (take (head_size l) inside) ≡ take l.digits (drop l.free whole) =
    ap (drop (layout_of o.high o.low o.size).free) head ∙ ap (λ (k : ℕ). drop k (take l.free whole ++ take l.digits (drop l.free whole))) prefix_size ∙ drop-append_seam (take l.free whole) (take l.digits (drop l.free whole)) in
    (o.size, ap (λ (l : Layout). l.fields) (sym h.is_layout) ∙ f, ap head_size (sym h.is_layout) ∙ sym sized, subst AreDigits (sym digits) s.are_digits)

pub head_bytes : (r : Reading) (bytes inside : List ℕ) (o : Opening) (l : Layout) → Headed r bytes o l → inside ≡ drop o.start bytes → AreBytes bytes → AreBytes (take (head_size l) inside)
head_bytes r bytes inside o l h e are = take_bytes (head_size l) inside (subst AreBytes (sym (e ∙ inside_is r bytes o h.opens)) (inside_bytes r bytes o h.opens are))
