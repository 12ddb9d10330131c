-- Facts on the parts of a message, where its data stands.
use Rattle.std.proofs.Common.{◌≡◌, ℕ, ◌-◌, ◌<◌, ◌≤◌, ◌⊎◌, inl, inr, Some, None, List, [], ◌∷◌, ◌++◌, length, take, drop, slice_index_or, refl, sym, ◌∙◌, ap, subst, arith, length-append, append_assoc}
use Rattle.std.proofs.Math.Logic.{∥∥₁_elim, ∥∥₁_map}
use Rattle.std.proofs.Math.Nat.{ℕ_set}
use Rattle.std.specs.Coded.{Coded-set, coded_list, coded_option, coded_ℕ, le_prop}
use Rattle.zvt_bcd.specs.Digits.{AreDigits, number_of}
use Rattle.zvt_grammar.specs.Reading.{padded}
use Rattle.zvt_tlv.proofs.ViewLemmas.{rest_at}
use Rattle.zvt_field.proofs.ViewLemmas.{digits_once}
use Rattle.zvt_apdu.specs.Message.{Message, ack, nack, registration, reversal, end_of_day, intermediate, print_line, abort, other}
use Rattle.zvt_apdu.specs.Grammar.{IsControl, Data, Spells}
use Rattle.zvt_apdu.specs.Kinds.{Kind, kind_of, kind_at}
use Rattle.zvt_apdu.specs.declared.kinds.Kind.TheVariants as kind
use Rattle.zvt_apdu.specs.contracts.kinds.Kind.{the_type}
use Rattle.zvt_apdu.specs.UniqueDecoding.{two_bytes, kind_named}
use Rattle.zvt_apdu.specs.Views.{code_in, password_in, config_in, currency_in, status_in, attribute_in, text_in, payload_in}
use Rattle.zvt_apdu.proofs.ViewLemmas.{IsData}
use denote.Enum.Bare.{tag_one}
use denote.Enum.Declared.{tag_of}

-- two kinds of one number are one
pub kind_shown : (m : Message) (c : List ℕ) → ∥ IsControl m c ∥₁ → kind_at (slice_index_or c 0 0) (slice_index_or c 1 0) ≡ kind_of m
kind_shown m c p =
    tag_one the_type tt _ _ (∥∥₁_elim p (ℕ_set _ _) (λ p.
    let t = two_bytes m c p in
    ap (λ (c : List ℕ). tag_of the_type (kind_at (slice_index_or c 0 0) (slice_index_or c 1 0))) t.2 ∙ ap (tag_of the_type) (sym (kind_named padded m t.0 t.1 c t.2 p))))

pub data_shown : (m : Message) (b d : List ℕ) → ∥ Spells padded m b ∥₁ → IsData b d → ∥ Data padded m d ∥₁
data_shown m b d p x =
    ∥∥₁_map p (λ p.
    let c = two_bytes m p.control p.is_control in
    let e : d ≡ p.content = x c.0 c.1 p.size p.content (p.whole ∙ ap (λ (s : List ℕ). s ++ (p.size ++ p.content)) c.2) p.is_size in
    subst (Data padded m) (sym e) p.is_content)

-- how many bytes come first in the data
abbrev pub head_of : Kind → ℕ
head_of kind.Registration = 4
head_of kind.Reversal = 3
head_of kind.EndOfDay = 3
head_of kind.Intermediate = 1
head_of kind.PrintLine = 1
head_of kind.Abort = 1
head_of _ = 0

at_least : (n : ℕ) (first more b : List ℕ) → b ≡ first ++ more → length first ≡ n → n ≤ length b
at_least n first more b e l = omega (arith, ap length e, length-append first more, l)

headed : (m : Message) (d : List ℕ) → Data padded m d → head_of (kind_of m) ≤ length d
headed (registration w g None) d p = at_least 4 (w ++ g ∷ []) [] d p.0 p.1
headed (registration w g (Some s)) d p = at_least 4 (w ++ g ∷ []) (p.digits ++ p.listed) d p.whole p.count
headed (reversal w fs) d p = at_least 3 w p.0 d p.1 p.2
headed (end_of_day w fs) d p = at_least 3 w p.0 d p.1 p.2
headed (intermediate s x) d p = at_least 1 (s ∷ []) x d p.0 refl
headed (print_line s x) d p = at_least 1 (s ∷ []) x d p.0 refl
headed (abort s x) d p = at_least 1 (s ∷ []) x d p.0 refl
headed m d p = omega arith

pub head_stands : (k : Kind) (m : Message) (d : List ℕ) → ∥ Data padded m d ∥₁ → k ≡ kind_of m → head_of k ≤ length d
head_stands k m d p e = ∥∥₁_elim p le_prop (λ p. subst (λ (k : Kind). head_of k ≤ length d) (sym e) (headed m d p))

-- the first byte, and what is after it
one : (x : ℕ) (rest d : List ℕ) → d ≡ (x ∷ []) ++ rest → Some (slice_index_or d 0 0) ≡ Some x
one x rest d e = ap (λ (l : List ℕ). Some (slice_index_or l 0 0)) e

abbrev pub after_one : List ℕ → List ℕ
after_one d = take (length d - 1) (drop 1 d)

trailing : (x : ℕ) (rest d : List ℕ) → d ≡ (x ∷ []) ++ rest → Some (after_one d) ≡ Some rest
trailing x rest d e = ap Some (rest_at 1 d (x ∷ []) rest refl e)

pub code_shown : (m : Message) (d : List ℕ) → ∥ Data padded m d ∥₁ → kind.Abort ≡ kind_of m → Some (slice_index_or d 0 0) ≡ code_in m
code_shown (abort c x) d p e = ∥∥₁_elim p (Coded-set (coded_option coded_ℕ) _ _) (λ p. one c x d p.0)
code_shown m d p e = absurd (cc (e))

pub status_shown : (m : Message) (d : List ℕ) → ∥ Data padded m d ∥₁ → kind.Intermediate ≡ kind_of m → Some (slice_index_or d 0 0) ≡ status_in m
status_shown (intermediate s x) d p e = ∥∥₁_elim p (Coded-set (coded_option coded_ℕ) _ _) (λ p. one s x d p.0)
status_shown m d p e = absurd (cc (e))

pub attribute_shown : (m : Message) (d : List ℕ) → ∥ Data padded m d ∥₁ → kind.PrintLine ≡ kind_of m → Some (slice_index_or d 0 0) ≡ attribute_in m
attribute_shown (print_line a x) d p e = ∥∥₁_elim p (Coded-set (coded_option coded_ℕ) _ _) (λ p. one a x d p.0)
attribute_shown m d p e = absurd (cc (e))

pub text_shown : (m : Message) (d : List ℕ) → ∥ Data padded m d ∥₁ → kind.PrintLine ≡ kind_of m → Some (after_one d) ≡ text_in m
text_shown (print_line a x) d p e = ∥∥₁_elim p (Coded-set (coded_option (coded_list coded_ℕ)) _ _) (λ p. trailing a x d p.0)
text_shown m d p e = absurd (cc (e))

-- a password and the byte after it
abbrev three : List ℕ → List ℕ
three d = slice_index_or d 0 0 ∷ slice_index_or d 1 0 ∷ slice_index_or d 2 0 ∷ []

first_three : (w more d : List ℕ) → d ≡ w ++ more → length w ≡ 3 → Some (three d) ≡ Some w
first_three (x ∷ y ∷ z ∷ []) more d e l = ap (λ (s : List ℕ). Some (three s)) e
first_three w more d e l = absurd (omega (arith, l))

fourth : (w : List ℕ) (g : ℕ) (more d : List ℕ) → d ≡ (w ++ g ∷ []) ++ more → length (w ++ g ∷ []) ≡ 4 → Some (slice_index_or d 3 0) ≡ Some g
fourth (x ∷ y ∷ z ∷ []) g more d e l = ap (λ (s : List ℕ). Some (slice_index_or s 3 0)) e
fourth w g more d e l = absurd (omega (arith, l, length-append w (g ∷ [])))

before_four : (w : List ℕ) (g : ℕ) (more d : List ℕ) → d ≡ (w ++ g ∷ []) ++ more → length (w ++ g ∷ []) ≡ 4 → Some (three d) ≡ Some w
before_four w g more d e l = first_three w (g ∷ more) d (e ∙ append_assoc w (g ∷ []) more) (omega (arith, l, length-append w (g ∷ [])))

shown_password : (m : Message) (d : List ℕ) → Data padded m d → 3 ≤ head_of (kind_of m) → Some (three d) ≡ password_in m
shown_password (registration w g None) d p e = before_four w g [] d p.0 p.1
shown_password (registration w g (Some s)) d p e = before_four w g (p.digits ++ p.listed) d p.whole p.count
shown_password (reversal w fs) d p e = first_three w p.0 d p.1 p.2
shown_password (end_of_day w fs) d p e = first_three w p.0 d p.1 p.2
shown_password m d p e = absurd (omega arith)

abbrev pub HasPassword : Kind → Type 0
HasPassword k = (k ≡ kind.Registration) ⊎ ((k ≡ kind.Reversal) ⊎ (k ≡ kind.EndOfDay))

pub password_long : (k : Kind) → HasPassword k → 3 ≤ head_of k
password_long k (inl e) = omega (arith, ap head_of e)
password_long k (inr (inl e)) = omega (arith, ap head_of e)
password_long k (inr (inr e)) = omega (arith, ap head_of e)

pub password_shown : (k : Kind) (m : Message) (d : List ℕ) → ∥ Data padded m d ∥₁ → k ≡ kind_of m → HasPassword k → Some (slice_index_or d 0 0 ∷ slice_index_or d 1 0 ∷ slice_index_or d 2 0 ∷ []) ≡ password_in m
password_shown k m d p e h =
    ∥∥₁_elim p (Coded-set (coded_option (coded_list coded_ℕ)) _ _) (λ p.
    shown_password m d p (subst (λ (k : Kind). 3 ≤ head_of k) e (password_long k h)))

pub config_shown : (m : Message) (d : List ℕ) → ∥ Data padded m d ∥₁ → kind.Registration ≡ kind_of m → Some (slice_index_or d 3 0) ≡ config_in m
config_shown (registration w g None) d p e = ∥∥₁_elim p (Coded-set (coded_option coded_ℕ) _ _) (λ p. fourth w g [] d p.0 p.1)
config_shown (registration w g (Some s)) d p e = ∥∥₁_elim p (Coded-set (coded_option coded_ℕ) _ _) (λ p. fourth w g (p.digits ++ p.listed) d p.whole p.count)
config_shown m d p e = absurd (cc (e))

-- the currency after them
abbrev pub two : List ℕ → List ℕ
two d = slice_index_or d 4 0 ∷ slice_index_or d 5 0 ∷ []

digits_are : (first digits more d : List ℕ) → d ≡ first ++ (digits ++ more) → length first ≡ 4 → length digits ≡ 2 → two d ≡ digits
digits_are (x ∷ y ∷ z ∷ w ∷ []) (a ∷ b ∷ []) more d e l k = ap two e
digits_are (x ∷ y ∷ z ∷ w ∷ []) digits more d e l k = absurd (omega (arith, k))
digits_are first digits more d e l k = absurd (omega (arith, l))

four_alone : (first d : List ℕ) → d ≡ first ++ [] → length first ≡ 4 → length d ≡ 4
four_alone first d e l = omega (arith, ap length e, length-append first [], l)

pub currency_digits : (m : Message) (d : List ℕ) → ∥ Data padded m d ∥₁ → kind.Registration ≡ kind_of m → 6 ≤ length d → AreDigits (two d)
currency_digits (registration w g None) d p e n = ∥∥₁_elim p (digits_once (two d)) (λ p. absurd (omega (arith, n, four_alone (w ++ g ∷ []) d p.0 p.1)))
currency_digits (registration w g (Some s)) d p e n =
    ∥∥₁_elim p (digits_once (two d)) (λ p. subst AreDigits (sym (digits_are (w ++ g ∷ []) p.digits p.listed d p.whole p.count p.two)) p.are_digits)
currency_digits m d p e n = absurd (cc (e))

pub currency_shown : (m : Message) (d : List ℕ) → ∥ Data padded m d ∥₁ → kind.Registration ≡ kind_of m → 6 ≤ length d → Some (number_of (two d)) ≡ currency_in m
currency_shown (registration w g None) d p e n =
    ∥∥₁_elim p (Coded-set (coded_option coded_ℕ) _ _) (λ p. absurd (omega (arith, n, four_alone (w ++ g ∷ []) d p.0 p.1)))
currency_shown (registration w g (Some s)) d p e n =
    ∥∥₁_elim p (Coded-set (coded_option coded_ℕ) _ _) (λ p.
    ap (λ (x : List ℕ). Some (number_of x)) (digits_are (w ++ g ∷ []) p.digits p.listed d p.whole p.count p.two) ∙ ap (λ (x : ℕ). Some x) p.number)
currency_shown m d p e n = absurd (cc (e))

pub no_currency : (m : Message) (d : List ℕ) → ∥ Data padded m d ∥₁ → kind.Registration ≡ kind_of m → length d < 6 → None ≡ currency_in m
no_currency (registration w g None) d p e n = refl
no_currency (registration w g (Some s)) d p e n =
    ∥∥₁_elim p (Coded-set (coded_option coded_ℕ) _ _) (λ p.
    absurd (omega (arith, n, ap length p.whole, length-append (w ++ g ∷ []) (p.digits ++ p.listed), length-append p.digits p.listed, p.count, p.two)))
no_currency m d p e n = absurd (cc (e))

-- the payload is all of the data, or what is after its first byte
abbrev pub IsPayload : Kind → Type 0
IsPayload k = (k ≡ kind.Ack) ⊎ ((k ≡ kind.Nack) ⊎ (k ≡ kind.Other))

abbrev pub HasPayload : Kind → Type 0
HasPayload k = (k ≡ kind.Intermediate) ⊎ (k ≡ kind.Abort)

whole_payload : (m : Message) (d : List ℕ) → Data padded m d → IsPayload (kind_of m) → Some d ≡ payload_in m
whole_payload (ack x) d p e = ap Some p.0
whole_payload (nack c x) d p e = ap Some p.0
whole_payload (other h l x) d p e = ap Some p.0
whole_payload m d p (inl e) = absurd (cc (e))
whole_payload m d p (inr (inl e)) = absurd (cc (e))
whole_payload m d p (inr (inr e)) = absurd (cc (e))

rest_payload : (m : Message) (d : List ℕ) → Data padded m d → HasPayload (kind_of m) → Some (after_one d) ≡ payload_in m
rest_payload (intermediate s x) d p e = trailing s x d p.0
rest_payload (abort s x) d p e = trailing s x d p.0
rest_payload m d p (inl e) = absurd (cc (e))
rest_payload m d p (inr e) = absurd (cc (e))

pub payload_shown : (k : Kind) (m : Message) (d : List ℕ) → ∥ Data padded m d ∥₁ → k ≡ kind_of m → IsPayload k → Some d ≡ payload_in m
payload_shown k m d p e h = ∥∥₁_elim p (Coded-set (coded_option (coded_list coded_ℕ)) _ _) (λ p. whole_payload m d p (subst IsPayload e h))

pub payload_after : (k : Kind) (m : Message) (d : List ℕ) → ∥ Data padded m d ∥₁ → k ≡ kind_of m → HasPayload k → Some (after_one d) ≡ payload_in m
payload_after k m d p e h = ∥∥₁_elim p (Coded-set (coded_option (coded_list coded_ℕ)) _ _) (λ p. rest_payload m d p (subst HasPayload e h))

pub payload_follows : (k : Kind) → HasPayload k → 1 ≤ head_of k
payload_follows k (inl e) = omega (arith, ap head_of e)
payload_follows k (inr e) = omega (arith, ap head_of e)
