-- A message that a view shows has a shortest spelling, and its fields have one.
use Rattle.std.proofs.Common.{◌≡◌, ℕ, ◌<◌, ◌≤◌, ◌^◌, ◌/◌, ◌%◌, ◌⊎◌, inl, inr, Some, None, List, [], ◌∷◌, ◌++◌, length, refl, sym, ap, subst, arith, length-append}
use Rattle.std.proofs.lemmas.Bool.{cases_lt}
use Rattle.zvt_grammar.specs.Reading.{Reading, shortest}
use Rattle.zvt_field.specs.Grammar.{Field}
use Rattle.zvt_field.specs.Bodies.{HaveSpelling}
use Rattle.zvt_field.proofs.Shortening.{fields_shortened}
use Rattle.zvt_apdu.specs.Message.{Message, ack, nack, registration, authorisation, reversal, end_of_day, abort_order, status, intermediate, print_line, text_block, completion, abort, other}
use Rattle.zvt_apdu.specs.Grammar.{IsFrameLength, Listed, Data, Spells}
use Rattle.zvt_apdu.specs.Messages.{HasSpelling}
use Rattle.zvt_apdu.specs.Views.{fields_in}

frame_small : (r : Reading) (n : ℕ) (s : List ℕ) → IsFrameLength r n s → n < 2 ^ 16
frame_small r n [] p = absurd p
frame_small r n (a ∷ []) p = omega (arith, p.0)
frame_small r n (a ∷ b ∷ []) p = absurd p
frame_small r n (a ∷ b ∷ c ∷ []) p = omega (arith, p.2, p.3, p.4)
frame_small r n (a ∷ b ∷ c ∷ d ∷ more) p = absurd p

-- a shortest length, in no more bytes than one of a greater number
shortest_frame : (r : Reading) (n m : ℕ) (s : List ℕ) → IsFrameLength r n s → m ≤ n → (t : List ℕ) × IsFrameLength shortest m t × (length t ≤ length s)
shortest_frame r n m s p le = by_size (cases_lt m 255)
  where
    long : (s : List ℕ) → IsFrameLength r n s → 255 ≤ n → 3 ≤ length s
    long [] p ge = absurd p
    long (a ∷ []) p ge = absurd (omega (arith, p.0))
    long (a ∷ b ∷ []) p ge = absurd p
    long (a ∷ b ∷ c ∷ s) p ge = omega arith

    some : (s : List ℕ) → IsFrameLength r n s → 1 ≤ length s
    some [] p = absurd p
    some (a ∷ s) p = omega arith

    by_size : ((m < 255) ⊎ (255 ≤ m)) → (t : List ℕ) × IsFrameLength shortest m t × (length t ≤ length s)
    by_size (inl lt) = (m ∷ [], (lt, refl), some s p)
    by_size (inr ge) =
        let small = frame_small r n s p in
        (0xFF ∷ (m % 256) ∷ (m / 256) ∷ [], (refl, ge, omega arith, omega (arith, small), omega arith), long s p (omega arith))

-- data in no more bytes
abbrev Shorter : Message → List ℕ → Type 0
Shorter m s = (b : List ℕ) × Data shortest m b × (length b ≤ length s)

listed_shortened : (r : Reading) (count : ℕ) (first : List ℕ) (fs : List Field) (s : List ℕ) → Listed r count first fs s → (b : List ℕ) × Listed shortest count first fs b × (length b ≤ length s)
listed_shortened r count first fs s (listed, e, l, are, p) =
    let k = fields_shortened r fs listed p in
    (first ++ k.0, (k.0, refl, l, are, k.1), omega (arith, ap length e, length-append first listed, length-append first k.0, k.2))

data_shortened : (r : Reading) (m : Message) (s : List ℕ) → Data r m s → Shorter m s
data_shortened r (ack payload) s p = (s, p, omega arith)
data_shortened r (nack code payload) s p = (s, p, omega arith)
data_shortened r (registration password config None) s p = (s, p, omega arith)
data_shortened r (registration password config (Some rest)) s p =
    let first = password ++ config ∷ [] in
    let k = fields_shortened r rest.1 p.listed p.spelled in (
      first ++ (p.digits ++ k.0),
      record {
        digits = p.digits;
        listed = k.0;
        whole = refl;
        count = p.count;
        are_bytes = p.are_bytes;
        two = p.two;
        are_digits = p.are_digits;
        number = p.number;
        spelled = k.1;
      },
      omega (arith, ap length p.whole, length-append first (p.digits ++ p.listed), length-append p.digits p.listed, length-append first (p.digits ++ k.0), length-append p.digits k.0, k.2),
    )
data_shortened r (authorisation fs) s p = listed_shortened r 0 [] fs s p
data_shortened r (reversal password fs) s p = listed_shortened r 3 password fs s p
data_shortened r (end_of_day password fs) s p = listed_shortened r 3 password fs s p
data_shortened r (abort_order fs) s p = listed_shortened r 0 [] fs s p
data_shortened r (status fs) s p = listed_shortened r 0 [] fs s p
data_shortened r (intermediate step payload) s p = (s, p, omega arith)
data_shortened r (print_line attribute text) s p = (s, p, omega arith)
data_shortened r (text_block fs) s p = listed_shortened r 0 [] fs s p
data_shortened r (completion fs) s p = listed_shortened r 0 [] fs s p
data_shortened r (abort code payload) s p = (s, p, omega arith)
data_shortened r (other high low payload) s p = (s, p, omega arith)

pub message_shorter : (r : Reading) (m : Message) (s : List ℕ) → Spells r m s → (b : List ℕ) × Spells shortest m b × (length b ≤ length s)
message_shorter r m s p =
    let k = data_shortened r m p.content p.is_content in
    let size = shortest_frame r (length p.content) (length k.0) p.size p.is_size k.2 in (
      p.control ++ (size.0 ++ k.0),
      record { control = p.control; size = size.0; content = k.0; whole = refl; is_control = p.is_control; is_size = size.1; is_content = k.1 },
      omega (arith, ap length p.whole, length-append p.control (p.size ++ p.content), length-append p.size p.content, length-append p.control (size.0 ++ k.0), length-append size.0 k.0, k.2, size.2),
    )

pub message_shortened : (r : Reading) (m : Message) (s : List ℕ) → Spells r m s → HasSpelling m
message_shortened r m s p = let k = message_shorter r m s p in record { bytes = k.0; spelled = k.1 }

-- the fields of a message that has a spelling have one
listed_spelled : (count : ℕ) (first : List ℕ) (fs gs : List Field) (s : List ℕ) → length s < 2 ^ 16 → Some gs ≡ Some fs → Listed shortest count first fs s → HaveSpelling gs
listed_spelled count first fs gs s small e (listed, is, l, are, p) =
    let same : gs ≡ fs = cc (e) in
    subst HaveSpelling (sym same) (record { bytes = listed; spelled = p; small = omega (arith, small, ap length is, length-append first listed) })

data_fields : (m : Message) (s : List ℕ) (gs : List Field) → length s < 2 ^ 16 → Some gs ≡ fields_in m → Data shortest m s → HaveSpelling gs
data_fields (registration password config (Some rest)) s gs small e p =
    let same : gs ≡ rest.1 = cc (e) in
    subst HaveSpelling (sym same) (record {
      bytes = p.listed;
      spelled = p.spelled;
      small = omega (arith, small, ap length p.whole, length-append (password ++ config ∷ []) (p.digits ++ p.listed), length-append p.digits p.listed);
    })
data_fields (authorisation fs) s gs small e p = listed_spelled 0 [] fs gs s small e p
data_fields (reversal password fs) s gs small e p = listed_spelled 3 password fs gs s small e p
data_fields (end_of_day password fs) s gs small e p = listed_spelled 3 password fs gs s small e p
data_fields (abort_order fs) s gs small e p = listed_spelled 0 [] fs gs s small e p
data_fields (status fs) s gs small e p = listed_spelled 0 [] fs gs s small e p
data_fields (text_block fs) s gs small e p = listed_spelled 0 [] fs gs s small e p
data_fields (completion fs) s gs small e p = listed_spelled 0 [] fs gs s small e p
data_fields m s gs small e p = absurd (cc (e))

pub fields_spelled : (m : Message) (gs : List Field) → Some gs ≡ fields_in m → HasSpelling m → HaveSpelling gs
fields_spelled m gs e h =
    let p = h.spelled in data_fields m p.content gs (frame_small shortest (length p.content) p.size p.is_size) e p.is_content
