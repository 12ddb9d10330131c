-- What the message of an order says.
use Rattle.std.proofs.Common.{◌≡◌, ℕ, ◌<◌, Bool, true, false, List, [], ◌∷◌, length, Option, Some, None, refl, sym, ap, subst, take, drop, cond, arith}
use Rattle.std.proofs.lemmas.List.{length-drop}
use Rattle.std.specs.Coded.{le_prop}
use Rattle.std.specs.Prelude.{is_some}
use Rattle.std.proofs.Math.Logic.{∥∥₁_elim}
use Rattle.zvt_grammar.specs.Reading.{padded}
use Rattle.zvt_grammar.specs.declared.answer.Scan.{Scan}
use Rattle.zvt_grammar.specs.declared.answer.Scan.TheVariants.{Whole}
use Rattle.zvt_field.specs.Answers.{Answers}
use Rattle.zvt_field.specs.Grammar.{Field, FieldList}
use Rattle.zvt_field.specs.UniqueDecoding.{not_single}
use Rattle.zvt_field.proofs.LawProofs.{one_answer}
use Rattle.zvt_apdu.specs.Grammar.{IsFrameLength, Spells}
use Rattle.zvt_apdu.specs.Kinds.{kind_of}
use Rattle.zvt_apdu.specs.Message.{Message, ack, nack, registration, authorisation, reversal, end_of_day, abort_order, status, intermediate, print_line, text_block, completion, abort, other}
use Rattle.zvt_apdu.specs.Views.{payload_in}
use Rattle.zvt_apdu.specs.declared.kinds.Kind.TheVariants as kind
use Rattle.zvt_till.specs.declared.happenings.Sent.{Sent}
use Rattle.zvt_report.specs.Reported.{message_if}
use Rattle.zvt_report.specs.Said.{AreSpelledBy, has_password, listed_in}

-- ---- the fields of data

-- one byte spells no fields
pub single_spells_none : (listed : List ℕ) → length listed ≡ 1 → AreSpelledBy listed None
single_spells_none listed one = λ fields spelled. not_single padded fields listed spelled one

whole_take : (listed : List ℕ) → take (length listed) listed ≡ listed
whole_take [] = refl
whole_take (x ∷ listed) = ap (λ (l : List ℕ). x ∷ l) (whole_take listed)

whole_spells : (listed : List ℕ) (fields : List Field) → Answers padded (length listed) listed (Whole fields) → AreSpelledBy listed (Some fields)
whole_spells listed fields answers = subst (λ (l : List ℕ). FieldList padded fields l) (whole_take listed) answers.1

pub whole_found : (listed : List ℕ) (answer : Scan (List Field)) (fields : List Field) → answer ≡ Whole fields → Answers padded (length listed) listed answer → AreSpelledBy listed (Some fields)
whole_found listed answer fields is answers = whole_spells listed fields (subst (λ (a : Scan (List Field)). Answers padded (length listed) listed a) is answers)

pub not_whole_spells : (listed : List ℕ) (answer : Scan (List Field)) → ((fields : List Field) → answer ≡ Whole fields → ⊥) → Answers padded (length listed) listed answer → AreSpelledBy listed None
not_whole_spells listed answer differs answers =
    λ fields spelled.
    let whole : Answers padded (length listed) listed (Whole fields) = (omega arith, subst (λ (l : List ℕ). FieldList padded fields l) (sym (whole_take listed)) spelled) in
    differs fields (one_answer padded (length listed) listed answer (Whole fields) answers whole)

-- ---- the data of an order that no till of this software sends

frame_short : (n : ℕ) (size : List ℕ) → IsFrameLength padded n size → n < 65536
frame_short n [] is = absurd is
frame_short n (a ∷ []) is = omega (arith, is.0)
frame_short n (a ∷ b ∷ []) is = absurd is
frame_short n (a ∷ low ∷ high ∷ []) is = omega (arith, is.2, is.3, is.4)
frame_short n (a ∷ b ∷ c ∷ d ∷ more) is = absurd is

listed_short : (low : ℕ) (payload : List ℕ) → length payload < 65536 → length (listed_in low payload) < 65536
listed_short low payload short = by (has_password low)
  where
    by : (b : Bool) → length (cond b (drop 3 payload) payload) < 65536
    by true = omega (arith, short, length-drop 3 payload)
    by false = short

other_short : (m : Message) (bytes payload : List ℕ) → ∥ Spells padded m bytes ∥₁ → kind_of m ≡ kind.Other → payload_in m ≡ Some payload → length payload < 65536
other_short (other high low own) bytes payload spelled is holds =
    ∥∥₁_elim spelled le_prop (λ p.
    let same : own ≡ payload = cc in
    omega (arith, frame_short (length p.content) p.size p.is_size, ap length p.is_content.0, ap length same))
other_short (ack own) bytes payload spelled is holds = absurd cc
other_short (nack code own) bytes payload spelled is holds = absurd cc
other_short (registration password config rest) bytes payload spelled is holds = absurd cc
other_short (authorisation fields) bytes payload spelled is holds = absurd cc
other_short (reversal password fields) bytes payload spelled is holds = absurd cc
other_short (end_of_day password fields) bytes payload spelled is holds = absurd cc
other_short (abort_order fields) bytes payload spelled is holds = absurd cc
other_short (status fields) bytes payload spelled is holds = absurd cc
other_short (intermediate step own) bytes payload spelled is holds = absurd cc
other_short (print_line attribute text) bytes payload spelled is holds = absurd cc
other_short (text_block fields) bytes payload spelled is holds = absurd cc
other_short (completion fields) bytes payload spelled is holds = absurd cc
other_short (abort code own) bytes payload spelled is holds = absurd cc

-- what is listed in the data has the size of a message at most
pub listed_fits : (m : Message) (bytes payload : List ℕ) (low : ℕ) → ∥ Spells padded m bytes ∥₁ → kind_of m ≡ kind.Other → payload_in m ≡ Some payload → length (listed_in low payload) < 65536
listed_fits m bytes payload low spelled is holds = listed_short low payload (other_short m bytes payload spelled is holds)

-- ---- one more order

pub message_begun : (m : Message) (order : Option Sent) → is_some order ≡ true → message_if m order ≡ m ∷ []
message_begun m None is = absurd cc
message_begun m (Some order) is = refl
