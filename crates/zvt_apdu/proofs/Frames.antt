-- A message by its parts: control bytes, length, and the three parts of its data.
use Rattle.std.proofs.Common.{◌≡◌, ℕ, ◌<◌, Bool, true, false, Option, Some, None, List, [], ◌∷◌, ◌++◌, length, refl, sym, ◌∙◌, ap, subst, arith, length-append}
use Rattle.std.proofs.lemmas.List.{append-nil}
use Rattle.std.proofs.lemmas.List.Elements.{All-nil}
use Rattle.std.proofs.lemmas.Bool.{cond-false, lt-leb}
use Rattle.zvt_bcd.specs.Digits.{AreDigits, IsDigitPair}
use Rattle.zvt_grammar.specs.Reading.{Reading, AreBytes}
use Rattle.zvt_field.specs.Grammar.{Field, FieldList}
use Rattle.zvt_apdu.specs.Message.{Message, ack, nack, registration, authorisation, reversal, end_of_day, abort_order, status, intermediate, print_line, text_block, completion, abort, other}
use Rattle.zvt_apdu.specs.Grammar.{Form, BytesFrom, FieldsFrom, Registration, form_of, Free, Listed, IsFrameLength, Spells}
use Rattle.zvt_apdu.specs.Judging.{Layout, bytes_after, fields_after, layout, layout_of}

abbrev pub Tail : Reading → Bool → List ℕ → Type 0
Tail r true b = (fields : List Field) × FieldList r fields b
Tail r false b = AreBytes b

-- Data by its layout.
pub record Parts (r : Reading) (l : Layout) (b : List ℕ) : Type 0 where
  pub free : List ℕ
  pub digits : List ℕ
  pub tail : List ℕ
  pub whole : b ≡ free ++ (digits ++ tail)
  pub free_size : length free ≡ l.free
  pub are_bytes : AreBytes free
  pub digits_size : length digits ≡ l.digits
  pub are_digits : AreDigits digits
  pub tailed : Tail r l.fields tail

-- A message by its parts.
pub record Frame (r : Reading) (b : List ℕ) : Type 0 where
  pub high : ℕ
  pub low : ℕ
  pub size : List ℕ
  pub content : List ℕ
  pub whole : b ≡ high ∷ low ∷ (size ++ content)
  pub are_bytes : (high < 256) × (low < 256)
  pub is_size : IsFrameLength r (length content) size
  pub parts : Parts r (layout_of high low (length content)) content

free_parts : (r : Reading) (count : ℕ) (first payload b : List ℕ) → Free count first payload b → Parts r (bytes_after count) b
free_parts r count first payload b p = record { free = first; digits = []; tail = payload; whole = p.0; free_size = p.1; are_bytes = p.2; digits_size = refl; are_digits = All-nil IsDigitPair; tailed = p.3 }

listed_parts : (r : Reading) (count : ℕ) (first : List ℕ) (fs : List Field) (b : List ℕ) → Listed r count first fs b → Parts r (fields_after count) b
listed_parts r count first fs b p = record { free = first; digits = []; tail = p.0; whole = p.1; free_size = p.2; are_bytes = p.3; digits_size = refl; are_digits = All-nil IsDigitPair; tailed = (fs, p.4) }

-- a message of these control bytes, whose form is known
framed : (r : Reading) (high low : ℕ) (o : Option Form) (m : Message) (b : List ℕ) (p : Spells r m b) → p.control ≡ high ∷ low ∷ [] → (high < 256) × (low < 256) → form_of high low ≡ o →
    Parts r (layout o (length p.content)) p.content → Frame r b
framed r high low o m b p c small is q = record {
  high = high;
  low = low;
  size = p.size;
  content = p.content;
  whole = p.whole ∙ ap (λ (s : List ℕ). s ++ (p.size ++ p.content)) c;
  are_bytes = small;
  is_size = p.is_size;
  parts = subst (λ (o : Option Form). Parts r (layout o (length p.content)) p.content) (sym is) q;
}

pub short_registration : (n : ℕ) → n ≡ 4 → layout (Some Registration) n ≡ bytes_after 4
short_registration n e = rw e refl

pub long_registration : (n : ℕ) → 4 < n → layout (Some Registration) n ≡ record { free = 4; digits = 2; fields = true }
long_registration n lt = cond-false _ _ _ (lt-leb n 4 lt)

pub frame_of : (r : Reading) (m : Message) (b : List ℕ) → Spells r m b → Frame r b
unfolding form_of
frame_of r (ack payload) b p = framed r 0x80 0x00 (Some (BytesFrom 0)) (ack payload) b p p.is_control (omega arith, omega arith) refl (free_parts r 0 [] payload p.content p.is_content)
frame_of r (nack code payload) b p = framed r 0x84 code (Some (BytesFrom 0)) (nack code payload) b p p.is_control.0 (omega arith, p.is_control.1) refl (free_parts r 0 [] payload p.content p.is_content)
frame_of r (registration password config None) b p =
    let c = p.is_content in
    let n : length p.content ≡ 4 = omega (arith, ap length c.0, ap length (append-nil (password ++ config ∷ [])), c.1) in
    framed r 0x06 0x00 (Some Registration) (registration password config None) b p p.is_control (omega arith, omega arith) refl
    (subst (λ (l : Layout). Parts r l p.content) (sym (short_registration (length p.content) n)) (free_parts r 4 (password ++ config ∷ []) [] p.content c))
frame_of r (registration password config (Some rest)) b p =
    let c = p.is_content in
    let n : 4 < length p.content = omega (arith, ap length c.whole, length-append (password ++ config ∷ []) (c.digits ++ c.listed), length-append c.digits c.listed, c.count, c.two) in
    let q : Parts r (record { free = 4; digits = 2; fields = true }) p.content = record { free = password ++ config ∷ []; digits = c.digits; tail = c.listed; whole = c.whole; free_size = c.count; are_bytes = c.are_bytes; digits_size = c.two; are_digits = c.are_digits; tailed = (rest.1, c.spelled) } in
    framed r 0x06 0x00 (Some Registration) (registration password config (Some rest)) b p p.is_control (omega arith, omega arith) refl
    (subst (λ (l : Layout). Parts r l p.content) (sym (long_registration (length p.content) n)) q)
frame_of r (authorisation fs) b p = framed r 0x06 0x01 (Some (FieldsFrom 0)) (authorisation fs) b p p.is_control (omega arith, omega arith) refl (listed_parts r 0 [] fs p.content p.is_content)
frame_of r (reversal password fs) b p = framed r 0x06 0x30 (Some (FieldsFrom 3)) (reversal password fs) b p p.is_control (omega arith, omega arith) refl (listed_parts r 3 password fs p.content p.is_content)
frame_of r (end_of_day password fs) b p = framed r 0x06 0x50 (Some (FieldsFrom 3)) (end_of_day password fs) b p p.is_control (omega arith, omega arith) refl (listed_parts r 3 password fs p.content p.is_content)
frame_of r (abort_order fs) b p = framed r 0x06 0xB0 (Some (FieldsFrom 0)) (abort_order fs) b p p.is_control (omega arith, omega arith) refl (listed_parts r 0 [] fs p.content p.is_content)
frame_of r (status fs) b p = framed r 0x04 0x0F (Some (FieldsFrom 0)) (status fs) b p p.is_control (omega arith, omega arith) refl (listed_parts r 0 [] fs p.content p.is_content)
frame_of r (intermediate s payload) b p = framed r 0x04 0xFF (Some (BytesFrom 1)) (intermediate s payload) b p p.is_control (omega arith, omega arith) refl (free_parts r 1 (s ∷ []) payload p.content p.is_content)
frame_of r (print_line s payload) b p = framed r 0x06 0xD1 (Some (BytesFrom 1)) (print_line s payload) b p p.is_control (omega arith, omega arith) refl (free_parts r 1 (s ∷ []) payload p.content p.is_content)
frame_of r (text_block fs) b p = framed r 0x06 0xD3 (Some (FieldsFrom 0)) (text_block fs) b p p.is_control (omega arith, omega arith) refl (listed_parts r 0 [] fs p.content p.is_content)
frame_of r (completion fs) b p = framed r 0x06 0x0F (Some (FieldsFrom 0)) (completion fs) b p p.is_control (omega arith, omega arith) refl (listed_parts r 0 [] fs p.content p.is_content)
frame_of r (abort s payload) b p = framed r 0x06 0x1E (Some (BytesFrom 1)) (abort s payload) b p p.is_control (omega arith, omega arith) refl (free_parts r 1 (s ∷ []) payload p.content p.is_content)
frame_of r (other high low payload) b p = framed r high low None (other high low payload) b p p.is_control.0 (p.is_control.1, p.is_control.2) p.is_control.3 (free_parts r 0 [] payload p.content p.is_content)
