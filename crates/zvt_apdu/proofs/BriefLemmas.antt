-- What is written for each till message is a spelling of its message.
use Rattle.std.proofs.Common.{◌≡◌, ℕ, ◌+◌, ◌*◌, ◌/◌, ◌%◌, ◌^◌, ◌<◌, ◌≤◌, Some, List, [], ◌∷◌, ◌++◌, length, length-append, false, true, drop, get_or, take, refl, sym, ◌∙◌, ap, subst, append_assoc, append-nil, arith}
use Rattle.std.proofs.Math.Nat.{pow-suc, mul-le-mul_right}
use Rattle.std.proofs.lemmas.Nat.{div-mul-add, mod-mul-add}
use Rattle.std.proofs.Math.Seq.{take-append_seam}
use Rattle.std.proofs.lemmas.List.Elements.{All-head, All-tail}
use Rattle.zvt_bcd.specs.Digits.{AreDigits, IsDigitPair, pair_number, number_of}
use Rattle.zvt_grammar.specs.Reading.{AreBytes, shortest}
use Rattle.zvt_grammar.specs.declared.answer.Scan.{Scan}
use Rattle.zvt_grammar.specs.declared.answer.Scan.TheVariants.{Whole, More, Refused}
use Rattle.zvt_tlv.proofs.Alive.{bytes_joined}
use Rattle.zvt_field.specs.Grammar.{Field, plain, FieldOf, FieldList}
use Rattle.zvt_field.specs.Shapes.{shape_of}
use Rattle.zvt_apdu.specs.Message.{Message, ack, nack, registration, authorisation, reversal, end_of_day, abort_order}
use Rattle.zvt_apdu.specs.Grammar.{Spells}
use Rattle.zvt_apdu.specs.Judging.{Answers}
use Rattle.zvt_apdu.specs.Briefs.{digits, PutsMessage}
use Rattle.zvt_apdu.proofs.LawLemmas.{spellings_are_read}
use Rattle.zvt_apdu.proofs.Writing.{control_is}

-- digits spell a number below a hundred to the power of their count
small : (s : List ℕ) → AreDigits s → number_of s < 100 ^ length s
small [] p = omega arith
small (x ∷ s) p =
    let pair : IsDigitPair x = All-head IsDigitPair x s p in
    let below : pair_number x ≤ 99 = omega (arith, pair.0, pair.1) in
    omega (arith, small s (All-tail IsDigitPair x s p), mul-le-mul_right (100 ^ length s) below, pow-suc 100 (length s))

one_pair : (x : ℕ) → IsDigitPair x → pair_number x / 10 * 16 + pair_number x % 10 ≡ x
one_pair x p = omega (arith, p.0, p.1)

-- digits are those of their number
pub digits_are : (s : List ℕ) → AreDigits s → s ≡ digits (length s) (number_of s)
digits_are [] p = refl
digits_are (x ∷ s) p =
    let power = 100 ^ length s in
    let less = small s (All-tail IsDigitPair x s p) in
    let high : number_of (x ∷ s) / power ≡ pair_number x = div-mul-add (pair_number x) power (number_of s) less in
    let low : number_of (x ∷ s) % power ≡ number_of s = mod-mul-add (pair_number x) power (number_of s) less in
    rw (high, low, one_pair x (All-head IsDigitPair x s p)) (ap (λ (t : List ℕ). x ∷ t) (digits_are s (All-tail IsDigitPair x s p)))

pub ack_spelled : Spells shortest (ack []) (0x80 ∷ 0x00 ∷ 0x00 ∷ [])
ack_spelled =
    record {
      control = 0x80 ∷ 0x00 ∷ [];
      size = 0 ∷ [];
      content = [];
      whole = refl;
      is_control = refl;
      is_size = (omega arith, refl);
      is_content = (refl, refl, tt, tt);
    }

pub nack_spelled : (code : ℕ) → code < 256 → Spells shortest (nack code []) (0x84 ∷ code ∷ 0x00 ∷ [])
nack_spelled code h =
    record {
      control = 0x84 ∷ code ∷ [];
      size = 0 ∷ [];
      content = [];
      whole = refl;
      is_control = (refl, h);
      is_size = (omega arith, refl);
      is_content = (refl, refl, tt, tt);
    }

pub abort_spelled : Spells shortest (abort_order []) (0x06 ∷ 0xB0 ∷ 0x00 ∷ [])
abort_spelled =
    record {
      control = 0x06 ∷ 0xB0 ∷ [];
      size = 0 ∷ [];
      content = [];
      whole = refl;
      is_control = refl;
      is_size = (omega arith, refl);
      is_content = ([], refl, refl, tt, refl);
    }

pub closing_spelled : (password : List ℕ) → length password ≡ 3 → AreBytes password → Spells shortest (end_of_day password []) (0x06 ∷ 0x50 ∷ 3 ∷ (password ++ []))
closing_spelled password three bytes =
    record {
      control = 0x06 ∷ 0x50 ∷ [];
      size = 3 ∷ [];
      content = password ++ [];
      whole = refl;
      is_control = refl;
      is_size = (omega (arith, ap length (append-nil password), three), omega (arith, ap length (append-nil password), three));
      is_content = ([], refl, three, bytes, refl);
    }

-- one field of a fixed size
plain_field : (bmp : ℕ) (content rest : List ℕ) (fields : List Field) → FieldOf shortest (plain bmp content) (bmp ∷ content) → FieldList shortest fields rest → FieldList shortest (plain bmp content ∷ fields) (bmp ∷ (content ++ rest))
plain_field bmp content rest fields one more = (bmp ∷ content, rest, refl, one, more)

receipt_field : (receipt : List ℕ) → length receipt ≡ 2 → AreBytes receipt → FieldOf shortest (plain 0x87 receipt) (0x87 ∷ receipt)
unfolding shape_of
receipt_field receipt two bytes = record { digits = false; size = []; whole = refl; is_head = (refl, two, refl); is_content = bytes }

amount_field : (six : List ℕ) → length six ≡ 6 → AreDigits six → FieldOf shortest (plain 0x04 six) (0x04 ∷ six)
unfolding shape_of
amount_field six long are = record { digits = true; size = []; whole = refl; is_head = (refl, long, refl); is_content = are }

currency_field : (pair : List ℕ) → length pair ≡ 2 → AreDigits pair → FieldOf shortest (plain 0x49 pair) (0x49 ∷ pair)
unfolding shape_of
currency_field pair two are = record { digits = true; size = []; whole = refl; is_head = (refl, two, refl); is_content = are }

pub reversal_spelled : (password receipt : List ℕ) → length password ≡ 3 → AreBytes password → length receipt ≡ 2 → AreBytes receipt
    → Spells shortest (reversal password (plain 0x87 receipt ∷ [])) (0x06 ∷ 0x30 ∷ 6 ∷ (password ++ 0x87 ∷ receipt))
reversal_spelled password receipt three bytes two more =
    let long : length (password ++ 0x87 ∷ receipt) ≡ 6 = omega (arith, length-append password (0x87 ∷ receipt)) in
    record {
      control = 0x06 ∷ 0x30 ∷ [];
      size = 6 ∷ [];
      content = password ++ 0x87 ∷ receipt;
      whole = refl;
      is_control = refl;
      is_size = (omega arith, sym long);
      is_content = (0x87 ∷ receipt, refl, three, bytes, subst (λ (s : List ℕ). FieldList shortest (plain 0x87 receipt ∷ []) (0x87 ∷ s)) (append-nil receipt) (plain_field 0x87 receipt [] [] (receipt_field receipt two more) refl));
    }

pub registration_spelled : (password pair : List ℕ) (config currency : ℕ) → length password ≡ 3 → AreBytes password → config < 256 → length pair ≡ 2 → AreDigits pair → number_of pair ≡ currency
    → Spells shortest (registration password config (Some (currency, []))) (0x06 ∷ 0x00 ∷ 6 ∷ (password ++ config ∷ pair))
registration_spelled password pair config currency three bytes h two are number =
    let long : length (password ++ config ∷ pair) ≡ 6 = omega (arith, length-append password (config ∷ pair)) in
    record {
      control = 0x06 ∷ 0x00 ∷ [];
      size = 6 ∷ [];
      content = password ++ config ∷ pair;
      whole = refl;
      is_control = refl;
      is_size = (omega arith, sym long);
      is_content =
          record {
            digits = pair;
            listed = [];
            whole = ap (λ (s : List ℕ). password ++ config ∷ s) (sym (append-nil pair)) ∙ sym (append_assoc password (config ∷ []) (pair ++ []));
            count = omega (arith, length-append password (config ∷ []));
            are_bytes = bytes_joined password (config ∷ []) bytes (h, tt);
            two = two;
            are_digits = are;
            number = number;
            spelled = refl;
          };
    }

payment_fields : (six two : List ℕ) → length six ≡ 6 → AreDigits six → length two ≡ 2 → AreDigits two → FieldList shortest (plain 0x04 six ∷ plain 0x49 two ∷ []) (0x04 ∷ (six ++ 0x49 ∷ two))
payment_fields six two long are short pair =
    plain_field 0x04 six (0x49 ∷ two) (plain 0x49 two ∷ []) (amount_field six long are)
    (subst (λ (s : List ℕ). FieldList shortest (plain 0x49 two ∷ []) (0x49 ∷ s)) (append-nil two) (plain_field 0x49 two [] [] (currency_field two short pair) refl))

-- digits of that count are those of their number
pub digits_as : (count number : ℕ) (s : List ℕ) → length s ≡ count → AreDigits s → number_of s ≡ number → s ≡ digits count number
digits_as count number s long are same = digits_are s are ∙ ap (λ (k : ℕ). digits k (number_of s)) long ∙ ap (digits count) same

pub payment_spelled : (six two : List ℕ) (amount currency : ℕ) → length six ≡ 6 → AreDigits six → number_of six ≡ amount → length two ≡ 2 → AreDigits two → number_of two ≡ currency
    → Spells shortest (authorisation (plain 0x04 (digits 6 amount) ∷ plain 0x49 (digits 2 currency) ∷ [])) (0x06 ∷ 0x01 ∷ 10 ∷ 0x04 ∷ (six ++ 0x49 ∷ two))
payment_spelled six two amount currency long are number short pair other =
    let size : length (0x04 ∷ (six ++ 0x49 ∷ two)) ≡ 10 = omega (arith, length-append six (0x49 ∷ two)) in
    let listed : FieldList shortest (plain 0x04 (digits 6 amount) ∷ plain 0x49 (digits 2 currency) ∷ []) (0x04 ∷ (six ++ 0x49 ∷ two)) =
    subst (λ (s : List ℕ). FieldList shortest (plain 0x04 s ∷ plain 0x49 (digits 2 currency) ∷ []) (0x04 ∷ (six ++ 0x49 ∷ two))) (digits_as 6 amount six long are number)
    (subst (λ (s : List ℕ). FieldList shortest (plain 0x04 six ∷ plain 0x49 s ∷ []) (0x04 ∷ (six ++ 0x49 ∷ two))) (digits_as 2 currency two short pair other) (payment_fields six two long are short pair)) in
    record {
      control = 0x06 ∷ 0x01 ∷ [];
      size = 10 ∷ [];
      content = 0x04 ∷ (six ++ 0x49 ∷ two);
      whole = refl;
      is_control = refl;
      is_size = (omega arith, sym size);
      is_content = (0x04 ∷ (six ++ 0x49 ∷ two), refl, refl, tt, listed);
    }

-- what is written reads as the message
pub brief_read : (m : Message) (answer : Scan (Message × ℕ)) (old new : List ℕ) (count : ℕ) → PutsMessage m old new count → Answers shortest (take count new) answer → answer ≡ Whole (m, count)
brief_read m answer old new count p h =
    let prefix : take count new ≡ p.bytes ++ [] = ap (λ (s : List ℕ). take count s) p.puts.0 ∙ ap (λ (k : ℕ). take k (p.bytes ++ drop (length p.bytes) old)) p.puts.1 ∙ take-append_seam p.bytes (drop (length p.bytes) old) ∙ sym (append-nil p.bytes) in
    spellings_are_read shortest m p.bytes [] answer p.spelled (subst (λ (s : List ℕ). Answers shortest s answer) prefix h) ∙ ap (λ (k : ℕ). Whole (m, k)) (sym p.puts.1)

-- a registration's and a reversal's last two bytes, one by one
pub registration_by_two : (password pair : List ℕ) (config currency : ℕ) → length password ≡ 3 → AreBytes password → config < 256 → length pair ≡ 2 → AreDigits pair → number_of pair ≡ currency
    → Spells shortest (registration password config (Some (currency, []))) (0x06 ∷ 0x00 ∷ 6 ∷ (password ++ config ∷ get_or pair 0 0 ∷ get_or pair 1 0 ∷ []))
registration_by_two password pair config currency three bytes h two are number =
    subst (λ (s : List ℕ). Spells shortest (registration password config (Some (currency, []))) (0x06 ∷ 0x00 ∷ 6 ∷ (password ++ config ∷ s))) (control_is pair two) (registration_spelled password pair config currency three bytes h two are number)

pub reversal_by_two : (password receipt : List ℕ) → length password ≡ 3 → AreBytes password → length receipt ≡ 2 → AreBytes (0x87 ∷ get_or receipt 0 0 ∷ get_or receipt 1 0 ∷ [])
    → Spells shortest (reversal password (plain 0x87 receipt ∷ [])) (0x06 ∷ 0x30 ∷ 6 ∷ (password ++ 0x87 ∷ get_or receipt 0 0 ∷ get_or receipt 1 0 ∷ []))
reversal_by_two password receipt three bytes two more =
    subst (λ (s : List ℕ). Spells shortest (reversal password (plain 0x87 receipt ∷ [])) (0x06 ∷ 0x30 ∷ 6 ∷ (password ++ 0x87 ∷ s))) (control_is receipt two)
    (reversal_spelled password receipt three bytes two (subst AreBytes (sym (control_is receipt two)) more.1))

abbrev read_of : Scan (Message × ℕ) → Message
read_of (Whole found) = found.0
read_of More = ack []
read_of (Refused place why) = ack []

pub same_message : (m n : Message) (j k : ℕ) → ◌≡◌ {A = Scan (Message × ℕ)} (Whole (m, j)) (Whole (n, k)) → m ≡ n
same_message m n j k e = ap read_of e
