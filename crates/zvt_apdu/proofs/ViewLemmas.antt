-- Facts on views of messages: where the data stands, and the fields in it.
use Rattle.std.proofs.Common.{◌≡◌, ℕ, ◌+◌, ◌-◌, ◌<◌, ◌≤◌, Bool, true, false, Option, Some, None, List, [], ◌∷◌, ◌++◌, length, take, drop, slice_index_or, refl, sym, ◌∙◌, ap, subst, arith, length-append, append_assoc}
use Rattle.std.proofs.lemmas.List.{append-nil}
use Rattle.std.proofs.Math.Logic.{∥∥₁_elim, ∥∥₁_map}
use Rattle.std.specs.Coded.{Coded-set, coded_list, coded_option, coded_ℕ, le_prop}
use Rattle.zvt_grammar.specs.Reading.{shortest, padded}
use Rattle.zvt_tlv.proofs.ViewLemmas.{rest_at}
use Rattle.zvt_field.specs.Grammar.{Field, FieldList, field_code}
use Rattle.zvt_field.specs.Views.{FieldsBytes, fields_once}
use Rattle.zvt_apdu.specs.Message.{Message, ack, nack, registration, authorisation, reversal, end_of_day, abort_order, status, intermediate, print_line, text_block, completion, abort, other}
use Rattle.zvt_field.proofs.ViewLemmas.{fields_loosened}
use Rattle.zvt_apdu.specs.Grammar.{Form, BytesFrom, FieldsFrom, Registration, form_of, IsControl, IsFrameLength, Listed, Data, Spells}
use Rattle.zvt_apdu.specs.Judging.{Layout, bytes_after, fields_after, layout, layout_of}
use Rattle.zvt_apdu.specs.Views.{MessageBytes, message_once, fields_in, control_of, FrameFirst}
use Rattle.zvt_apdu.proofs.Frames.{short_registration, long_registration}

-- bytes spell one message
pub same_message : (m : Message) (b : List ℕ) → ∥ Spells padded m b ∥₁ → (v : MessageBytes b) → v.0 ≡ m
same_message m b p v = ap (λ (u : MessageBytes b). u.0) (message_once b v (m, p))

-- what comes after the bytes before the fields
abbrev pub InTail : Bool → List ℕ → Option (List Field) → Type 0
InTail true tail (Some fields) = FieldList padded fields tail
InTail true tail None = ⊥
InTail false tail (Some fields) = ⊥
InTail false tail None = Unit {0}

pub record DataOf (fields : Option (List Field)) (l : Layout) (content : List ℕ) : Type 0 where
  pub head : List ℕ
  pub tail : List ℕ
  pub whole : content ≡ head ++ tail
  pub sized : length head ≡ l.free + l.digits
  pub inside : InTail l.fields tail fields

pub record Laid (m : Message) (b : List ℕ) : Type 0 where
  pub high : ℕ
  pub low : ℕ
  pub size : List ℕ
  pub content : List ℕ
  pub whole : b ≡ high ∷ low ∷ (size ++ content)
  pub is_control : IsControl m (high ∷ low ∷ [])
  pub is_size : IsFrameLength padded (length content) size
  pub parts : DataOf (fields_in m) (layout_of high low (length content)) content

free_data : (count : ℕ) (first payload b : List ℕ) → b ≡ first ++ payload → length first ≡ count → DataOf None (bytes_after count) b
free_data count first payload b e l = record { head = first; tail = payload; whole = e; sized = omega (arith, l); inside = tt }

listed_data : (count : ℕ) (first listed b : List ℕ) (fs : List Field) → b ≡ first ++ listed → length first ≡ count → FieldList padded fs listed → DataOf (Some fs) (fields_after count) b
listed_data count first listed b fs e l p = record { head = first; tail = listed; whole = e; sized = omega (arith, l); inside = p }

laid_as : (m : Message) (b : List ℕ) (high low : ℕ) (o : Option Form) (p : Spells padded m b) → p.control ≡ high ∷ low ∷ [] → form_of high low ≡ o → DataOf (fields_in m) (layout o (length p.content)) p.content → Laid m b
laid_as m b high low o p c is q = record {
  high = high;
  low = low;
  size = p.size;
  content = p.content;
  whole = p.whole ∙ ap (λ (s : List ℕ). s ++ (p.size ++ p.content)) c;
  is_control = subst (IsControl m) c p.is_control;
  is_size = p.is_size;
  parts = subst (λ (o : Option Form). DataOf (fields_in m) (layout o (length p.content)) p.content) (sym is) q;
}

pub laid : (m : Message) (b : List ℕ) → Spells padded m b → Laid m b
unfolding form_of
laid (ack payload) b p = laid_as (ack payload) b 0x80 0x00 (Some (BytesFrom 0)) p p.is_control refl (free_data 0 [] payload _ p.is_content.0 refl)
laid (nack code payload) b p = laid_as (nack code payload) b 0x84 code (Some (BytesFrom 0)) p p.is_control.0 refl (free_data 0 [] payload _ p.is_content.0 refl)
laid (registration password config None) b p =
    let c = p.is_content in
    let n : length p.content ≡ 4 = omega (arith, ap length c.0, ap length (append-nil (password ++ config ∷ [])), c.1) in
    laid_as (registration password config None) b 0x06 0x00 (Some Registration) p p.is_control refl
    (subst (λ (l : Layout). DataOf None l p.content) (sym (short_registration (length p.content) n)) (free_data 4 (password ++ config ∷ []) [] _ c.0 c.1))
laid (registration password config (Some rest)) b p =
    let c = p.is_content in
    let n : 4 < length p.content = omega (arith, ap length c.whole, length-append (password ++ config ∷ []) (c.digits ++ c.listed), length-append c.digits c.listed, c.count, c.two) in
    let q : DataOf (Some rest.1) (record { free = 4; digits = 2; fields = true }) p.content = record {
      head = (password ++ config ∷ []) ++ c.digits;
      tail = c.listed;
      whole = c.whole ∙ sym (append_assoc (password ++ config ∷ []) c.digits c.listed);
      sized = omega (arith, length-append (password ++ config ∷ []) c.digits, c.count, c.two);
      inside = c.spelled;
    } in
    laid_as (registration password config (Some rest)) b 0x06 0x00 (Some Registration) p p.is_control refl
    (subst (λ (l : Layout). DataOf (Some rest.1) l p.content) (sym (long_registration (length p.content) n)) q)
laid (authorisation fs) b p = laid_as (authorisation fs) b 0x06 0x01 (Some (FieldsFrom 0)) p p.is_control refl (listed_data 0 [] p.is_content.0 _ fs p.is_content.1 refl p.is_content.4)
laid (reversal password fs) b p = laid_as (reversal password fs) b 0x06 0x30 (Some (FieldsFrom 3)) p p.is_control refl (listed_data 3 password p.is_content.0 _ fs p.is_content.1 p.is_content.2 p.is_content.4)
laid (end_of_day password fs) b p = laid_as (end_of_day password fs) b 0x06 0x50 (Some (FieldsFrom 3)) p p.is_control refl (listed_data 3 password p.is_content.0 _ fs p.is_content.1 p.is_content.2 p.is_content.4)
laid (abort_order fs) b p = laid_as (abort_order fs) b 0x06 0xB0 (Some (FieldsFrom 0)) p p.is_control refl (listed_data 0 [] p.is_content.0 _ fs p.is_content.1 refl p.is_content.4)
laid (status fs) b p = laid_as (status fs) b 0x04 0x0F (Some (FieldsFrom 0)) p p.is_control refl (listed_data 0 [] p.is_content.0 _ fs p.is_content.1 refl p.is_content.4)
laid (intermediate s payload) b p = laid_as (intermediate s payload) b 0x04 0xFF (Some (BytesFrom 1)) p p.is_control refl (free_data 1 (s ∷ []) payload _ p.is_content.0 refl)
laid (print_line s text) b p = laid_as (print_line s text) b 0x06 0xD1 (Some (BytesFrom 1)) p p.is_control refl (free_data 1 (s ∷ []) text _ p.is_content.0 refl)
laid (text_block fs) b p = laid_as (text_block fs) b 0x06 0xD3 (Some (FieldsFrom 0)) p p.is_control refl (listed_data 0 [] p.is_content.0 _ fs p.is_content.1 refl p.is_content.4)
laid (completion fs) b p = laid_as (completion fs) b 0x06 0x0F (Some (FieldsFrom 0)) p p.is_control refl (listed_data 0 [] p.is_content.0 _ fs p.is_content.1 refl p.is_content.4)
laid (abort s payload) b p = laid_as (abort s payload) b 0x06 0x1E (Some (BytesFrom 1)) p p.is_control refl (free_data 1 (s ∷ []) payload _ p.is_content.0 refl)
laid (other high low payload) b p = laid_as (other high low payload) b high low None p p.is_control.0 p.is_control.3 (free_data 0 [] payload _ p.is_content.0 refl)

pub frame_first : (m : Message) (b : List ℕ) → Spells padded m b → FrameFirst b
frame_first m b p = let l = laid m b p in (l.high, l.low, l.size, l.content, l.whole, l.is_size)

-- where the data starts
pub data_third : (b : List ℕ) → FrameFirst b → 2 < length b
data_third b (high, low, [], content, e, s) = absurd s
data_third b (high, low, x ∷ size, content, e, s) = omega (arith, ap length e)

pub data_long : (b : List ℕ) → FrameFirst b → slice_index_or b 2 0 ≡ 0xFF → 5 ≤ length b
data_long b (high, low, [], content, e, s) m = absurd s
data_long b (high, low, x ∷ [], content, e, s) m =
    let is : x ≡ 0xFF = ap (λ (l : List ℕ). slice_index_or l 2 0) (sym e) ∙ m in absurd (omega (arith, is, s.0, s.1))
data_long b (high, low, x ∷ y ∷ [], content, e, s) m = absurd s
data_long b (high, low, x ∷ y ∷ z ∷ [], content, e, s) m = omega (arith, ap length e)
data_long b (high, low, x ∷ y ∷ z ∷ w ∷ size, content, e, s) m = absurd s

pub data_after_long : (b : List ℕ) (high low : ℕ) (size content : List ℕ) → b ≡ high ∷ low ∷ (size ++ content) → IsFrameLength padded (length content) size → slice_index_or b 2 0 ≡ 0xFF → take (length b - 5) (drop 5 b) ≡ content
data_after_long b high low [] content e s m = absurd s
data_after_long b high low (x ∷ []) content e s m =
    let is : x ≡ 0xFF = ap (λ (l : List ℕ). slice_index_or l 2 0) (sym e) ∙ m in absurd (omega (arith, is, s.0, s.1))
data_after_long b high low (x ∷ y ∷ []) content e s m = absurd s
data_after_long b high low (x ∷ y ∷ z ∷ []) content e s m = rest_at 5 b (high ∷ low ∷ x ∷ y ∷ z ∷ []) content refl e
data_after_long b high low (x ∷ y ∷ z ∷ w ∷ size) content e s m = absurd s

pub data_after_short : (b : List ℕ) (high low : ℕ) (size content : List ℕ) → b ≡ high ∷ low ∷ (size ++ content) → IsFrameLength padded (length content) size → (slice_index_or b 2 0 ≡ 0xFF → ⊥) → take (length b - 3) (drop 3 b) ≡ content
data_after_short b high low [] content e s ne = absurd s
data_after_short b high low (x ∷ []) content e s ne = rest_at 3 b (high ∷ low ∷ x ∷ []) content refl e
data_after_short b high low (x ∷ y ∷ []) content e s ne = absurd s
data_after_short b high low (x ∷ y ∷ z ∷ []) content e s ne = absurd (ne (ap (λ (l : List ℕ). slice_index_or l 2 0) e ∙ s.0))
data_after_short b high low (x ∷ y ∷ z ∷ w ∷ size) content e s ne = absurd s

-- the control bytes come first
named : (m : Message) (c : List ℕ) → IsControl m c → c ≡ control_of m
named (ack p) c h = h
named (nack k p) c h = h.0
named (registration w g s) c h = h
named (authorisation f) c h = h
named (reversal w f) c h = h
named (end_of_day w f) c h = h
named (abort_order f) c h = h
named (status f) c h = h
named (intermediate s p) c h = h
named (print_line s p) c h = h
named (text_block f) c h = h
named (completion f) c h = h
named (abort s p) c h = h
named (other a b p) c h = h.0

pub two_first : (m : Message) (b : List ℕ) → ∥ Spells padded m b ∥₁ → 1 < length b
two_first m b p = ∥∥₁_elim p le_prop (λ p. omega (arith, ap length (laid m b p).whole))

pub control_first : (m : Message) (b : List ℕ) → ∥ Spells padded m b ∥₁ → slice_index_or b 0 0 ∷ slice_index_or b 1 0 ∷ [] ≡ control_of m
control_first m b p =
    ∥∥₁_elim p (Coded-set (coded_list coded_ℕ) _ _) (λ p.
    let l = laid m b p in
    ap (λ (s : List ℕ). slice_index_or s 0 0 ∷ slice_index_or s 1 0 ∷ []) l.whole ∙ named m _ l.is_control)

-- what a walk found is the data of the message
abbrev pub IsData : (b d : List ℕ) → Type 0
IsData b d = (high low : ℕ) (size content : List ℕ) → b ≡ high ∷ low ∷ (size ++ content) → IsFrameLength padded (length content) size → d ≡ content

abbrev pub IsLayout : (b d : List ℕ) → Layout → Type 0
IsLayout b d l = l ≡ layout_of (slice_index_or b 0 0) (slice_index_or b 1 0) (length d)

found : (m : Message) (b d : List ℕ) (l : Layout) → Spells padded m b → IsData b d → IsLayout b d l → DataOf (fields_in m) l d
found m b d l p x e =
    let k = laid m b p in
    let datas : d ≡ k.content = x k.high k.low k.size k.content k.whole k.is_size in
    let highs : slice_index_or b 0 0 ≡ k.high = ap (λ (s : List ℕ). slice_index_or s 0 0) k.whole in
    let lows : slice_index_or b 1 0 ≡ k.low = ap (λ (s : List ℕ). slice_index_or s 1 0) k.whole in
    let layouts : l ≡ layout_of k.high k.low (length k.content) =
    e ∙ ap (λ (h : ℕ). layout_of h (slice_index_or b 1 0) (length d)) highs ∙ ap (λ (w : ℕ). layout_of k.high w (length d)) lows ∙ ap (λ (s : List ℕ). layout_of k.high k.low (length s)) datas in
    subst (λ (l : Layout). DataOf (fields_in m) l d) (sym layouts) (subst (DataOf (fields_in m) (layout_of k.high k.low (length k.content))) (sym datas) k.parts)

pub head_fits : (m : Message) (b d : List ℕ) (l : Layout) → ∥ Spells padded m b ∥₁ → IsData b d → IsLayout b d l → l.free + l.digits ≤ length d
head_fits m b d l p x e = ∥∥₁_elim p le_prop (λ p. let k = found m b d l p x e in omega (arith, ap length k.whole, length-append k.head k.tail, k.sized))

abbrev pub trailing : ℕ → List ℕ → List ℕ
trailing n d = take (length d - n) (drop n d)

tail_is : (fs : Option (List Field)) (l : Layout) (d : List ℕ) → (k : DataOf fs l d) → trailing (l.free + l.digits) d ≡ k.tail
tail_is fs l d k = rest_at (l.free + l.digits) d k.head k.tail (sym k.sized) k.whole

in_tail : (fs : Option (List Field)) (flag : Bool) (t : List ℕ) → InTail flag t fs → flag ≡ true → (fields : List Field) × (fs ≡ Some fields) × FieldList padded fields t
in_tail (Some fields) true t h e = (fields, refl, h)
in_tail None true t h e = absurd h
in_tail (Some fields) false t h e = absurd h
in_tail None false t h e = absurd (cc (e))

no_tail : (fs : Option (List Field)) (flag : Bool) (t : List ℕ) → InTail flag t fs → flag ≡ false → None ≡ fs
no_tail (Some fields) true t h e = absurd (cc (e))
no_tail None true t h e = absurd h
no_tail (Some fields) false t h e = absurd h
no_tail None false t h e = refl

pub fields_spelled : (m : Message) (b d : List ℕ) (l : Layout) → ∥ Spells padded m b ∥₁ → IsData b d → IsLayout b d l → l.fields ≡ true → FieldsBytes (trailing (l.free + l.digits) d)
fields_spelled m b d l p x e has =
    ∥∥₁_elim p (fields_once (trailing (l.free + l.digits) d)) (λ p.
    let k = found m b d l p x e in
    let t = in_tail (fields_in m) l.fields k.tail k.inside has in
    (t.0, ∣ subst (FieldList padded t.0) (sym (tail_is (fields_in m) l d k)) t.2 ∣₁))

pub fields_are : (m : Message) (b d : List ℕ) (l : Layout) (g : List Field) → ∥ Spells padded m b ∥₁ → IsData b d → IsLayout b d l → l.fields ≡ true →
    ((fields : List Field) → FieldList padded fields (trailing (l.free + l.digits) d) → g ≡ fields) → Some g ≡ fields_in m
fields_are m b d l g p x e has w =
    ∥∥₁_elim p (Coded-set (coded_option (coded_list field_code)) _ _) (λ p.
    let k = found m b d l p x e in
    let t = in_tail (fields_in m) l.fields k.tail k.inside has in
    ap Some (w t.0 (subst (FieldList padded t.0) (sym (tail_is (fields_in m) l d k)) t.2)) ∙ sym t.1)

pub no_fields : (m : Message) (b d : List ℕ) (l : Layout) → ∥ Spells padded m b ∥₁ → IsData b d → IsLayout b d l → l.fields ≡ false → None ≡ fields_in m
no_fields m b d l p x e has =
    ∥∥₁_elim p (Coded-set (coded_option (coded_list field_code)) _ _) (λ p.
    let k = found m b d l p x e in no_tail (fields_in m) l.fields k.tail k.inside has)

-- the shortest reading's spellings are spellings of the padded one
frame_loosened : (n : ℕ) (s : List ℕ) → IsFrameLength shortest n s → IsFrameLength padded n s
frame_loosened n [] p = p
frame_loosened n (a ∷ []) p = p
frame_loosened n (a ∷ b ∷ []) p = p
frame_loosened n (a ∷ b ∷ c ∷ []) p = (p.0, omega arith, p.2, p.3, p.4)
frame_loosened n (a ∷ b ∷ c ∷ d ∷ more) p = p

listed_loosened : (count : ℕ) (first : List ℕ) (fs : List Field) (s : List ℕ) → Listed shortest count first fs s → Listed padded count first fs s
listed_loosened count first fs s (listed, e, l, b, p) = (listed, e, l, b, fields_loosened fs listed p)

data_loosened : (m : Message) (s : List ℕ) → Data shortest m s → Data padded m s
data_loosened (ack payload) s p = p
data_loosened (nack code payload) s p = p
data_loosened (registration password config None) s p = p
data_loosened (registration password config (Some rest)) s p = record {
  digits = p.digits;
  listed = p.listed;
  whole = p.whole;
  count = p.count;
  are_bytes = p.are_bytes;
  two = p.two;
  are_digits = p.are_digits;
  number = p.number;
  spelled = fields_loosened rest.1 p.listed p.spelled;
}
data_loosened (authorisation fs) s p = listed_loosened 0 [] fs s p
data_loosened (reversal password fs) s p = listed_loosened 3 password fs s p
data_loosened (end_of_day password fs) s p = listed_loosened 3 password fs s p
data_loosened (abort_order fs) s p = listed_loosened 0 [] fs s p
data_loosened (status fs) s p = listed_loosened 0 [] fs s p
data_loosened (intermediate step payload) s p = p
data_loosened (print_line attribute text) s p = p
data_loosened (text_block fs) s p = listed_loosened 0 [] fs s p
data_loosened (completion fs) s p = listed_loosened 0 [] fs s p
data_loosened (abort code payload) s p = p
data_loosened (other high low payload) s p = p

pub message_loosened : (m : Message) (s : List ℕ) → Spells shortest m s → Spells padded m s
message_loosened m s p = record {
  control = p.control;
  size = p.size;
  content = p.content;
  whole = p.whole;
  is_control = p.is_control;
  is_size = frame_loosened (length p.content) p.size p.is_size;
  is_content = data_loosened m p.content p.is_content;
}

pub control_named : (m : Message) (b : List ℕ) → ∥ Spells padded m b ∥₁ → ∥ IsControl m (slice_index_or b 0 0 ∷ slice_index_or b 1 0 ∷ []) ∥₁
control_named m b p =
    ∥∥₁_map p (λ p.
    let l = laid m b p in subst (IsControl m) (sym (ap (λ (s : List ℕ). slice_index_or s 0 0 ∷ slice_index_or s 1 0 ∷ []) l.whole)) l.is_control)

-- what a reader found or a writer wrote has a view
pub spelled_bytes : (m : Message) (s : List ℕ) → Spells shortest m s → MessageBytes s
spelled_bytes m s p = (m, ∣ message_loosened m s p ∣₁)
