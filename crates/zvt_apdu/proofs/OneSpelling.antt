-- In the shortest reading a message has one spelling.
use Rattle.std.proofs.Common.{◌≡◌, ℕ, ◌+◌, ◌*◌, ◌/◌, ◌%◌, Some, None, List, [], ◌∷◌, ◌++◌, length, sym, ◌∙◌, ap, arith}
use Rattle.std.proofs.lemmas.Bool.{cond-true, cond-false, lt-ltb, le-ltb}
use Rattle.std.proofs.lemmas.List.Elements.{All-head, All-tail}
use Rattle.zvt_bcd.specs.Digits.{AreDigits, IsDigitPair, number_of}
use Rattle.zvt_grammar.specs.Reading.{shortest}
use Rattle.zvt_grammar.specs.Laws.{SpellingsAreOne}
use Rattle.zvt_field.specs.Grammar.{Field, FieldList}
use Rattle.zvt_field.proofs.Spellings.{list_spelled}
use Rattle.zvt_apdu.specs.Message.{Message, ack, nack, registration, authorisation, reversal, end_of_day, abort_order, status, intermediate, print_line, text_block, completion, abort, other}
use Rattle.zvt_apdu.specs.Grammar.{IsControl, Listed, Registered, Data, IsFrameLength, Spells}
use Rattle.zvt_apdu.specs.Messages.{length_bytes}

-- fields have one spelling
pub one_list_spelling : (fs : List Field) (a b : List ℕ) → FieldList shortest fs a → FieldList shortest fs b → a ≡ b
one_list_spelling fs a b p q = list_spelled fs a p ∙ sym (list_spelled fs b q)

-- two bytes of digits spell one number
pub two_digits : (a b : List ℕ) → length a ≡ 2 → length b ≡ 2 → AreDigits a → AreDigits b → number_of a ≡ number_of b → a ≡ b
two_digits (x ∷ y ∷ []) (u ∷ v ∷ []) s t p q e =
    let xp : IsDigitPair x = All-head IsDigitPair x (y ∷ []) p in
    let yp : IsDigitPair y = All-head IsDigitPair y [] (All-tail IsDigitPair x (y ∷ []) p) in
    let up : IsDigitPair u = All-head IsDigitPair u (v ∷ []) q in
    let vp : IsDigitPair v = All-head IsDigitPair v [] (All-tail IsDigitPair u (v ∷ []) q) in
    let e' : (x / 16 * 10 + x % 16) * 100 + (y / 16 * 10 + y % 16) ≡ (u / 16 * 10 + u % 16) * 100 + (v / 16 * 10 + v % 16) = omega (arith, e) in
    let first : x ≡ u = omega (arith, xp.0, xp.1, yp.0, yp.1, up.0, up.1, vp.0, vp.1, e') in
    let second : y ≡ v = omega (arith, xp.0, xp.1, yp.0, yp.1, up.0, up.1, vp.0, vp.1, e') in
    cc (first, second)
two_digits (x ∷ y ∷ []) [] s t p q e = absurd (omega arith)
two_digits (x ∷ y ∷ []) (u ∷ []) s t p q e = absurd (omega arith)
two_digits (x ∷ y ∷ []) (u ∷ v ∷ w ∷ b) s t p q e = absurd (omega arith)
two_digits [] b s t p q e = absurd (omega arith)
two_digits (x ∷ []) b s t p q e = absurd (omega arith)
two_digits (x ∷ y ∷ z ∷ a) b s t p q e = absurd (omega arith)

one_listed : (k : ℕ) (first : List ℕ) (fs : List Field) (a b : List ℕ) → Listed shortest k first fs a → Listed shortest k first fs b → a ≡ b
one_listed k first fs a b p q = p.1 ∙ ap (λ (s : List ℕ). first ++ s) (one_list_spelling fs p.0 q.0 p.4 q.4) ∙ sym q.1

one_registered : (first : List ℕ) (currency : ℕ) (fs : List Field) (a b : List ℕ) → Registered shortest first currency fs a → Registered shortest first currency fs b → a ≡ b
one_registered first currency fs a b p q =
    let digits : p.digits ≡ q.digits = two_digits p.digits q.digits p.two q.two p.are_digits q.are_digits (p.number ∙ sym q.number) in
    let listed : p.listed ≡ q.listed = one_list_spelling fs p.listed q.listed p.spelled q.spelled in
    p.whole ∙ cc (digits, listed) ∙ sym q.whole

pub one_data : (m : Message) (a b : List ℕ) → Data shortest m a → Data shortest m b → a ≡ b
one_data (ack payload) a b p q = p.0 ∙ sym q.0
one_data (nack code payload) a b p q = p.0 ∙ sym q.0
one_data (registration password config None) a b p q = p.0 ∙ sym q.0
one_data (registration password config (Some rest)) a b p q = one_registered (password ++ config ∷ []) rest.0 rest.1 a b p q
one_data (authorisation fs) a b p q = one_listed 0 [] fs a b p q
one_data (reversal password fs) a b p q = one_listed 3 password fs a b p q
one_data (end_of_day password fs) a b p q = one_listed 3 password fs a b p q
one_data (abort_order fs) a b p q = one_listed 0 [] fs a b p q
one_data (status fs) a b p q = one_listed 0 [] fs a b p q
one_data (intermediate step payload) a b p q = p.0 ∙ sym q.0
one_data (print_line attribute text) a b p q = p.0 ∙ sym q.0
one_data (text_block fs) a b p q = one_listed 0 [] fs a b p q
one_data (completion fs) a b p q = one_listed 0 [] fs a b p q
one_data (abort code payload) a b p q = p.0 ∙ sym q.0
one_data (other high low payload) a b p q = p.0 ∙ sym q.0

pub one_control : (m : Message) (a b : List ℕ) → IsControl m a → IsControl m b → a ≡ b
one_control (ack payload) a b p q = p ∙ sym q
one_control (nack code payload) a b p q = p.0 ∙ sym q.0
one_control (registration password config rest) a b p q = p ∙ sym q
one_control (authorisation fs) a b p q = p ∙ sym q
one_control (reversal password fs) a b p q = p ∙ sym q
one_control (end_of_day password fs) a b p q = p ∙ sym q
one_control (abort_order fs) a b p q = p ∙ sym q
one_control (status fs) a b p q = p ∙ sym q
one_control (intermediate step payload) a b p q = p ∙ sym q
one_control (print_line attribute text) a b p q = p ∙ sym q
one_control (text_block fs) a b p q = p ∙ sym q
one_control (completion fs) a b p q = p ∙ sym q
one_control (abort code payload) a b p q = p ∙ sym q
one_control (other high low payload) a b p q = p.0 ∙ sym q.0

-- the shortest length is that of length_bytes
pub length_spelled : (n : ℕ) (s : List ℕ) → IsFrameLength shortest n s → s ≡ length_bytes n
length_spelled n [] l = absurd l
length_spelled n (a ∷ []) l = ap (λ (x : ℕ). x ∷ []) l.1 ∙ sym (cond-true _ _ _ (lt-ltb n 255 l.0))
length_spelled n (a ∷ b ∷ []) l = absurd l
length_spelled n (a ∷ b ∷ c ∷ []) l =
    let low : b ≡ n % 256 = omega (arith, l.2, l.3, l.4) in
    let high : c ≡ n / 256 = omega (arith, l.2, l.3, l.4) in
    let e : a ∷ b ∷ c ∷ [] ≡ 0xFF ∷ (n % 256) ∷ (n / 256) ∷ [] = cc (l.0, high, low) in
    e ∙ sym (cond-false _ _ _ (le-ltb n 255 l.1))
length_spelled n (a ∷ b ∷ c ∷ d ∷ s) l = absurd l

pub spellings_are_one : SpellingsAreOne (Spells shortest)
spellings_are_one m a b p q =
    let content : p.content ≡ q.content = one_data m p.content q.content p.is_content q.is_content in
    let control : p.control ≡ q.control = one_control m p.control q.control p.is_control q.is_control in
    let size : p.size ≡ q.size = length_spelled (length p.content) p.size p.is_size ∙ ap (λ (s : List ℕ). length_bytes (length s)) content ∙ sym (length_spelled (length q.content) q.size q.is_size) in
    p.whole ∙ cc (content, control, size) ∙ sym q.whole
