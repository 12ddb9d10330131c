-- What is written of a message.
use Rattle.std.proofs.Common.{◌≡◌, ℕ, ◌+◌, ◌-◌, ◌<◌, ◌≤◌, ◌/◌, ◌%◌, List, [], ◌∷◌, ◌++◌, Option, Some, length, drop, get_or, refl, sym, ◌∙◌, ap, subst, append_assoc, arith, length-append, length-drop, nat_lt, ◌⊎◌, inl, inr}
use Rattle.std.proofs.lemmas.List.{take_rest}
use Rattle.std.proofs.lemmas.Bool.{cond-true, cond-false, lt-ltb, le-ltb, cases_lt}
use borrow.Rule.Slice.PartMut.{put_mid}
use Rattle.zvt_bcd.specs.Digits.{AreDigits, number_of}
use Rattle.zvt_grammar.specs.Reading.{Reading, shortest}
use Rattle.zvt_tlv.specs.Sizes.{Puts}
use Rattle.zvt_tlv.proofs.Spelling.{from}
use Rattle.zvt_tlv.proofs.Writing.{puts_after}
use Rattle.zvt_field.specs.Grammar.{Field, FieldList}
use Rattle.zvt_apdu.proofs.OneSpelling.{one_list_spelling}
use Rattle.zvt_apdu.specs.Message.{Message, ack, nack, registration, authorisation, reversal, end_of_day, abort_order, status, intermediate, print_line, text_block, completion, abort, other}
use Rattle.zvt_apdu.specs.Grammar.{IsControl, Listed, Registered, Data, IsFrameLength, Spells}
use Rattle.zvt_apdu.specs.Messages.{Fitting, HasData, HasSpelling, length_bytes, TakesControl}
use Rattle.zvt_apdu.proofs.OneSpelling.{two_digits, one_data, one_control, length_spelled}

-- the fields fit after what comes first
pub listed_fits : (k n : ℕ) (first : List ℕ) (fs : List Field) (b listed : List ℕ) → Listed shortest k first fs b → length b ≤ n → FieldList shortest fs listed → length first + length listed ≤ n
listed_fits k n first fs b listed p le q =
    omega (arith, ap length p.1, length-append first p.0, ap length (one_list_spelling fs listed p.0 q p.4), le)

pub listed_alone_fits : (n : ℕ) (fs : List Field) (b listed : List ℕ) → Listed shortest 0 [] fs b → length b ≤ n → FieldList shortest fs listed → length listed ≤ n
listed_alone_fits n fs b listed p le q = omega (arith, listed_fits 0 n [] fs b listed p le q)

pub registered_fits : (n currency : ℕ) (first digits : List ℕ) (fs : List Field) (b listed : List ℕ) → Registered shortest first currency fs b → length b ≤ n → FieldList shortest fs listed → 6 + length listed ≤ n
registered_fits n currency first digits fs b listed p le q =
    omega (arith, ap length p.whole, length-append first (p.digits ++ p.listed), length-append p.digits p.listed, p.count, p.two, ap length (one_list_spelling fs listed p.listed q p.spelled), le)

three_bytes : (s : List ℕ) → length s ≡ 3 → get_or s 0 0 ∷ get_or s 1 0 ∷ get_or s 2 0 ∷ [] ≡ s
three_bytes [] e = absurd (omega arith)
three_bytes (a ∷ []) e = absurd (omega arith)
three_bytes (a ∷ b ∷ []) e = absurd (omega arith)
three_bytes (a ∷ b ∷ c ∷ []) e = refl
three_bytes (a ∷ b ∷ c ∷ d ∷ s) e = absurd (omega arith)

-- the head of a registration with a currency
pub registered_is : (password digits listed bytes : List ℕ) (config high low currency : ℕ) (fs : List Field) → length password ≡ 3 → digits ≡ high ∷ low ∷ [] → AreDigits digits → number_of digits ≡ currency → (p : Registered shortest (password ++ config ∷ []) currency fs bytes) →
    (get_or password 0 0 ∷ get_or password 1 0 ∷ get_or password 2 0 ∷ config ∷ high ∷ low ∷ []) ++ p.listed ≡ bytes
registered_is password digits listed bytes config high low currency fs three is are number p =
    let same : p.digits ≡ digits = two_digits p.digits digits p.two (ap length is) p.are_digits are (p.number ∙ sym number) in
    let prefix : get_or password 0 0 ∷ get_or password 1 0 ∷ get_or password 2 0 ∷ [] ≡ password = three_bytes password three in
    let whole : (get_or password 0 0 ∷ get_or password 1 0 ∷ get_or password 2 0 ∷ []) ++ (config ∷ high ∷ low ∷ p.listed) ≡ bytes =
    ap (λ (s : List ℕ). s ++ (config ∷ high ∷ low ∷ p.listed)) prefix
    ∙ ap (λ (s : List ℕ). password ++ (config ∷ (s ++ p.listed))) (sym (same ∙ is))
    ∙ sym (append_assoc password (config ∷ []) (p.digits ++ p.listed)) ∙ sym p.whole in
    whole

two_bytes : (s : List ℕ) → length s ≡ 2 → s ≡ get_or s 0 0 ∷ get_or s 1 0 ∷ []
two_bytes [] e = absurd (omega arith)
two_bytes (a ∷ []) e = absurd (omega arith)
two_bytes (a ∷ b ∷ []) e = refl
two_bytes (a ∷ b ∷ c ∷ s) e = absurd (omega arith)

pub rest_fits : (password : List ℕ) (config : ℕ) (r : Option (ℕ × List Field)) (rest : ℕ × List Field) (room : ℕ) → r ≡ Some rest → Fitting (registration password config r) room → (listed : List ℕ) → FieldList shortest rest.1 listed → 6 + length listed ≤ room
rest_fits password config r rest room is h listed q =
    registered_fits room rest.0 (password ++ config ∷ []) [] rest.1 h.bytes listed (subst (λ (r : Option (ℕ × List Field)). Data shortest (registration password config r) h.bytes) is h.is_data) h.fits q

pub rest_written : (password digits old new : List ℕ) (config count : ℕ) (r : Option (ℕ × List Field)) (rest : ℕ × List Field) → r ≡ Some rest → length password ≡ 3 → length digits ≡ 2 → AreDigits digits → number_of digits ≡ rest.0 →
    ((listed : List ℕ) → FieldList shortest rest.1 listed → Puts ((get_or password 0 0 ∷ get_or password 1 0 ∷ get_or password 2 0 ∷ config ∷ get_or digits 0 0 ∷ get_or digits 1 0 ∷ []) ++ listed) old new count) →
    (bytes : List ℕ) → Data shortest (registration password config r) bytes → Puts bytes old new count
rest_written password digits old new config count r rest is three two are number puts bytes p =
    let d : Registered shortest (password ++ config ∷ []) rest.0 rest.1 bytes = subst (λ (r : Option (ℕ × List Field)). Data shortest (registration password config r) bytes) is p in
    subst (λ (s : List ℕ). Puts s old new count) (registered_is password digits d.listed bytes config (get_or digits 0 0) (get_or digits 1 0) rest.0 rest.1 three (two_bytes digits two) are number d) (puts d.listed d.spelled)

-- a message with a spelling takes no other's control bytes
pub not_taken : (r : Reading) (m : Message) (b : List ℕ) → Spells r m b → TakesControl m → ⊥
not_taken r m b p = by_message m p.is_control
  where
    by_message : (m : Message) → IsControl m p.control → TakesControl m → ⊥
    by_message (ack payload) c t = t
    by_message (nack code payload) c t = t
    by_message (registration password config rest) c t = t
    by_message (authorisation fs) c t = t
    by_message (reversal password fs) c t = t
    by_message (end_of_day password fs) c t = t
    by_message (abort_order fs) c t = t
    by_message (status fs) c t = t
    by_message (intermediate step payload) c t = t
    by_message (print_line attribute text) c t = t
    by_message (text_block fs) c t = t
    by_message (completion fs) c t = t
    by_message (abort code payload) c t = t
    by_message (other high low payload) c t = t c.3

size_small : (r : Reading) (n : ℕ) (s : List ℕ) → IsFrameLength r n s → n < 65536
size_small r n [] h = absurd h
size_small r n (a ∷ []) h = omega (arith, h.0)
size_small r n (a ∷ b ∷ []) h = absurd h
size_small r n (a ∷ l ∷ u ∷ []) h = omega (arith, h.2, h.3, h.4)
size_small r n (a ∷ b ∷ c ∷ d ∷ s) h = absurd h

-- the parts of a spelling
pub record IsWritten (n m : Message) (size : ℕ) (bytes : List ℕ) (h : HasData n size) : Type 0 where
  pub small : size < 65536
  pub not_other : TakesControl n → ⊥
  pub whole : (control : List ℕ) → IsControl n control → bytes ≡ control ++ (length_bytes size ++ h.bytes)
  pub sized : length bytes ≡ (2 + length (length_bytes size)) + size

pub two_control : (m : Message) (c : List ℕ) → IsControl m c → length c ≡ 2
two_control (ack payload) c h = ap length h
two_control (nack code payload) c h = ap length h.0
two_control (registration password config rest) c h = ap length h
two_control (authorisation fs) c h = ap length h
two_control (reversal password fs) c h = ap length h
two_control (end_of_day password fs) c h = ap length h
two_control (abort_order fs) c h = ap length h
two_control (status fs) c h = ap length h
two_control (intermediate step payload) c h = ap length h
two_control (print_line attribute text) c h = ap length h
two_control (text_block fs) c h = ap length h
two_control (completion fs) c h = ap length h
two_control (abort code payload) c h = ap length h
two_control (other high low payload) c h = ap length h.0

pub is_written : (n m : Message) (size : ℕ) (bytes : List ℕ) → n ≡ m → (h : HasData n size) → Spells shortest m bytes → IsWritten n m size bytes h
is_written n m size bytes same h q =
    let p = subst (λ (m : Message). Spells shortest m bytes) (sym same) q in
    let content : p.content ≡ h.bytes = one_data n p.content h.bytes p.is_content h.is_data in
    let long : length p.content ≡ size = ap length content ∙ h.sized in
    let sizes : p.size ≡ length_bytes size = length_spelled (length p.content) p.size p.is_size ∙ ap length_bytes long in
    record {
      small = omega (arith, size_small shortest (length p.content) p.size p.is_size, long);
      not_other = not_taken shortest n bytes p;
      whole = λ c k. p.whole ∙ ap (λ (s : List ℕ). s ++ (p.size ++ p.content)) (one_control n p.control c p.is_control k) ∙ ap (λ (s : List ℕ). c ++ (s ++ p.content)) sizes ∙ ap (λ (s : List ℕ). c ++ (length_bytes size ++ s)) content;
      sized = omega (arith, ap length p.whole, length-append p.control (p.size ++ p.content), length-append p.size p.content, two_control n p.control p.is_control, ap length sizes, long);
    }

pub data_small : (n m : Message) (size : ℕ) → n ≡ m → HasData n size → HasSpelling m → size < 65536
data_small n m size same h s = (is_written n m size s.bytes same h s.spelled).small

pub size_is : (n m : Message) (head size : ℕ) (bytes : List ℕ) → n ≡ m → HasData n size → head ≡ 2 + length (length_bytes size) → Spells shortest m bytes → head + size ≡ length bytes
size_is n m head size bytes same h e p = omega (arith, (is_written n m size bytes same h p).sized, e)

-- what comes after the head has room
pub data_fits : (n : Message) (size head at high low : ℕ) (old mid : List ℕ) → (h : HasData n size) → (head ≡ 2 + length (length_bytes size)) → head + size ≤ length old → Puts (high ∷ low ∷ length_bytes size) old mid at → Fitting n (length (from at mid))
data_fits n size head at high low old mid h e enough p =
    let first = high ∷ low ∷ length_bytes size in
    record {
      bytes = h.bytes;
      is_data = h.is_data;
      fits = omega (arith, h.sized, e, enough, p.1, ap length p.0, length-append first (drop (length first) old), length-drop (length first) old, ap length (take_rest mid at), length-drop at mid);
    }

pub encoded : (n m : Message) (head size at count high low : ℕ) (control old mid sub : List ℕ) → n ≡ m → (h : HasData n size) → head ≡ 2 + length (length_bytes size) → head + size ≤ length old → control ≡ high ∷ low ∷ [] →
    IsControl n control → Puts (high ∷ low ∷ length_bytes size) old mid at → ((bytes : List ℕ) → Data shortest n bytes → Puts bytes (from at mid) sub count) →
    (bytes : List ℕ) → Spells shortest m bytes → (put_mid at (length mid - at) mid sub ≡ bytes ++ drop (at + count) old) × (at + count ≡ length bytes) × (at + count ≤ length old)
encoded n m head size at count high low control old mid sub same h e enough two named p q bytes s =
    let w = is_written n m size bytes same h s in
    let all = puts_after (high ∷ low ∷ length_bytes size) h.bytes old mid sub at count p (q h.bytes h.is_data) in
    let whole : (high ∷ low ∷ length_bytes size) ++ h.bytes ≡ bytes = sym (w.whole (high ∷ low ∷ []) (subst (IsControl n) two named)) in
    let counted : at + count ≡ length bytes = all.1 ∙ ap length whole in (
      all.0 ∙ ap (λ (s : List ℕ). s ++ drop (length s) old) whole ∙ ap (λ (k : ℕ). bytes ++ drop k old) (sym counted),
      counted,
      omega (arith, counted, w.sized, e, enough),
    )

pub too_short : (n m : Message) (head size : ℕ) (out : List ℕ) → n ≡ m → HasData n size → head ≡ 2 + length (length_bytes size) → length out < head + size →
    (bytes : List ℕ) → Spells shortest m bytes → (out ≡ out) × (head + size ≡ length bytes) × (length out < head + size)
too_short n m head size out same h e few bytes p = (refl, size_is n m head size bytes same h e p, few)

pub control_is : (s : List ℕ) → length s ≡ 2 → s ≡ get_or s 0 0 ∷ get_or s 1 0 ∷ []
control_is = two_bytes

-- a message whose data fits, and which takes no other's control bytes
pub spellable : (m : Message) (size : ℕ) (control : List ℕ) → HasData m size → size < 65536 → IsControl m control → HasSpelling m
spellable m size control h small c = record {
  bytes = control ++ (length_bytes size ++ h.bytes);
  spelled = record { control = control; size = length_bytes size; content = h.bytes; whole = refl; is_control = c; is_size = subst (λ (n : ℕ). IsFrameLength shortest n (length_bytes size)) (sym h.sized) (length_is size small); is_content = h.is_data };
}
  where
    length_is : (n : ℕ) → n < 65536 → IsFrameLength shortest n (length_bytes n)
    length_is n small = by_size (cases_lt n 255)
      where
        by_size : (n < 255) ⊎ (255 ≤ n) → IsFrameLength shortest n (length_bytes n)
        by_size (inl lt) = subst (IsFrameLength shortest n) (sym (cond-true (nat_lt n 255) (n ∷ []) (0xFF ∷ n % 256 ∷ n / 256 ∷ []) (lt-ltb n 255 lt))) (lt, refl)
        by_size (inr ge) = subst (IsFrameLength shortest n) (sym (cond-false (nat_lt n 255) (n ∷ []) (0xFF ∷ n % 256 ∷ n / 256 ∷ []) (le-ltb n 255 ge))) (refl, ge, omega arith, omega arith, omega arith)

pub too_large : (m : Message) (size : ℕ) → HasData m size → 65535 < size → HasSpelling m → ⊥
too_large m size h lt s = omega (arith, data_small m m size refl h s, lt)

pub taken : (m : Message) → TakesControl m → HasSpelling m → ⊥
taken m t s = not_taken shortest m s.bytes s.spelled t
