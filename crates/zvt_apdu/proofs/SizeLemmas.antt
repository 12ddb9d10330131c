-- What the parts of a message need to be data, and the control bytes.
use Rattle.std.proofs.Common.{◌≡◌, ◌≢◌, ℕ, ◌+◌, ◌<◌, Option, Some, None, List, [], ◌∷◌, ◌++◌, length, refl, sym, ap, subst, arith, length-append}
use Rattle.std.proofs.lemmas.List.{append-nil}
use Rattle.zvt_bcd.specs.Digits.{AreDigits, number_of}
use Rattle.zvt_grammar.specs.Reading.{shortest, AreBytes}
use Rattle.zvt_field.specs.Grammar.{Field, FieldList}
use Rattle.zvt_field.specs.Bodies.{HaveSpelling}
use Rattle.zvt_apdu.specs.declared.messages.Message as declared
use Rattle.zvt_apdu.specs.Message.{registration}
use Rattle.zvt_apdu.specs.Grammar.{Form, form_of, Free, Listed, Data}
use Rattle.zvt_apdu.specs.Messages.{message_of, HasData, ListedIn}

not_some : (o : Option Form) → ((o ≢ None) → ⊥) → o ≡ None
not_some None h = refl
not_some (Some f) h = absurd (h (λ e. cc (e)))

pub other_control : (high low : ℕ) → (form_of high low ≢ None → ⊥) → high < 256 → low < 256 → (high ∷ low ∷ [] ≡ high ∷ low ∷ []) × (high < 256) × (low < 256) × (form_of high low ≡ None)
other_control high low h a b = (refl, a, b, not_some (form_of high low) h)

-- bytes alone
pub free_alone : (payload : List ℕ) → AreBytes payload → Free 0 [] payload payload
free_alone payload b = (refl, refl, tt, b)

pub free_after : (byte : ℕ) (payload : List ℕ) → AreBytes (byte ∷ payload) → Free 1 (byte ∷ []) payload (byte ∷ payload)
free_after byte payload b = (refl, refl, (b.0, tt), b.1)

pub listed_alone : (fs : List Field) (n : ℕ) (l : ListedIn fs n) → Listed shortest 0 [] fs l.bytes
listed_alone fs n l = (l.bytes, refl, refl, tt, l.listed)

pub listed_after : (password : List ℕ) (fs : List Field) (n : ℕ) → length password ≡ 3 → AreBytes password → (l : ListedIn fs n) → Listed shortest 3 password fs (password ++ l.bytes)
listed_after password fs n three b l = (l.bytes, refl, three, b, l.listed)

pub listed_in : (fs : List Field) (n : ℕ) → HaveSpelling fs → ((bytes : List ℕ) → FieldList shortest fs bytes → n ≡ length bytes) → ListedIn fs n
listed_in fs n h e = record { bytes = h.bytes; listed = h.spelled; sized = sym (e h.bytes h.spelled); small = omega (arith, h.small, e h.bytes h.spelled) }

-- the data of each kind
pub byte_data : (m : declared.Message) (byte n : ℕ) (there payload : List ℕ) → there ≡ payload → ((b : List ℕ) → Free 1 (byte ∷ []) payload b → Data shortest (message_of m) b) → n ≡ 1 + length there → AreBytes (byte ∷ there) → HasData (message_of m) n
byte_data m byte n there payload same make e b = record {
  bytes = byte ∷ payload;
  is_data = make (byte ∷ payload) (free_after byte payload (subst (λ (s : List ℕ). AreBytes (byte ∷ s)) same b));
  sized = omega (arith, e, ap length same);
}

pub password_data : (m : declared.Message) (password : List ℕ) (fs : List Field) (k n : ℕ) → ((b : List ℕ) → Listed shortest 3 password fs b → Data shortest (message_of m) b) → k ≡ 3 → length password ≡ 3 → AreBytes password → ListedIn fs n → HasData (message_of m) (k + n)
password_data m password fs k n make e three b l = record {
  bytes = password ++ l.bytes;
  is_data = make (password ++ l.bytes) (listed_after password fs n three b l);
  sized = omega (arith, length-append password l.bytes, l.sized, e, three);
}

bytes_joined : (a b : List ℕ) → AreBytes a → AreBytes b → AreBytes (a ++ b)
bytes_joined [] b p q = q
bytes_joined (x ∷ a) b p q = (p.0, bytes_joined a b p.1 q)

pub registered_alone : (password : List ℕ) (config n : ℕ) → n ≡ 3 → length password ≡ 3 → AreBytes password → config < 256 → HasData (registration password config None) (n + 1)
registered_alone password config n e three b small = record {
  bytes = password ++ config ∷ [];
  is_data = (sym (append-nil (password ++ config ∷ [])), omega (arith, length-append password (config ∷ []), three), bytes_joined password (config ∷ []) b (small, tt), tt);
  sized = omega (arith, length-append password (config ∷ []), e, three);
}

pub registered_after : (password digits : List ℕ) (config currency k two n : ℕ) (fs : List Field) → k ≡ 3 → length password ≡ 3 → AreBytes password → config < 256 → length digits ≡ 2 → AreDigits digits → number_of digits ≡ currency → two ≡ 2 → ListedIn fs n →
    HasData (registration password config (Some (currency, fs))) (((k + 1) + two) + n)
registered_after password digits config currency k two n fs e three b small long are number t l = record {
  bytes = (password ++ config ∷ []) ++ (digits ++ l.bytes);
  is_data = record {
    digits = digits;
    listed = l.bytes;
    whole = refl;
    count = omega (arith, length-append password (config ∷ []), three);
    are_bytes = bytes_joined password (config ∷ []) b (small, tt);
    two = long;
    are_digits = are;
    number = number;
    spelled = l.listed;
  };
  sized = omega (arith, length-append (password ++ config ∷ []) (digits ++ l.bytes), length-append password (config ∷ []), length-append digits l.bytes, three, long, e, t, l.sized);
}
