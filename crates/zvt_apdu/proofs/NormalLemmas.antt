-- The strict spelling of a message that was read.
use Rattle.std.proofs.Common.{◌≡◌, ℕ, List, ◌++◌, length, take, drop, refl, sym, ◌∙◌, ap, subst, arith, length-append}
use Rattle.std.proofs.lemmas.List.{length-take-le, take-append-drop}
use Rattle.std.proofs.Math.Seq.{take-append_seam}
use Rattle.zvt_grammar.specs.Reading.{shortest, padded}
use Rattle.zvt_apdu.specs.Message.{Message}
use Rattle.zvt_apdu.specs.Grammar.{Spells}
use Rattle.zvt_apdu.specs.Judging.{Found}
use Rattle.zvt_apdu.specs.Normal.{IsNormal}
use Rattle.zvt_apdu.specs.UniqueDecoding.{one_message}
use Rattle.zvt_apdu.specs.Laws.{StrictIsPadded, StrictStays, NormalsAreOne, NormalsStay}
use Rattle.zvt_apdu.proofs.OwnedLemmas.{message_shorter}
use Rattle.zvt_apdu.proofs.OneMessage.{messages_end_themselves}
use Rattle.zvt_apdu.proofs.OneSpelling.{spellings_are_one}
use Rattle.zvt_apdu.proofs.ViewLemmas.{message_loosened}

-- any strict spelling of what was read is the one
pub normal : (bytes : List ℕ) (m : Message) (n : ℕ) (s : List ℕ) → Found padded bytes m n → Spells shortest m s → IsNormal bytes s n
normal bytes m n s f p =
    let k = message_shorter padded m (take n bytes) f.spelled in
    let same : s ≡ k.0 = spellings_are_one m s k.0 p k.1 in
    record {
      message = m;
      found = f;
      spelled = p;
      shorter = omega (arith, ap length same, k.2, length-take-le n bytes f.present);
      kept = λ q strict.
          let one : q ≡ m = one_message padded q m (take n bytes) (take n bytes) refl (message_loosened q (take n bytes) strict) f.spelled in
          spellings_are_one m s (take n bytes) p (subst (λ (x : Message). Spells shortest x (take n bytes)) one strict);
    }

pub strict_is_padded : StrictIsPadded
strict_is_padded = message_loosened

pub strict_stays : StrictStays
strict_stays bytes m n f = record { present = f.present; spelled = message_loosened m (take n bytes) f.spelled }

pub normals_are_one : NormalsAreOne
normals_are_one bytes s t n k p q =
    let both = messages_end_themselves padded p.message q.message (take n bytes) (take k bytes) (drop n bytes) (drop k bytes) p.found.spelled q.found.spelled (take-append-drop n bytes ∙ sym (take-append-drop k bytes)) in (
      spellings_are_one q.message s t (subst (λ (m : Message). Spells shortest m s) both.0 p.spelled) q.spelled,
      omega (arith, ap length both.1, length-take-le n bytes p.found.present, length-take-le k bytes q.found.present),
    )

pub normals_stay : NormalsStay
normals_stay bytes rest s n p =
    let first : take (length s) (s ++ rest) ≡ s = take-append_seam s rest in
    normal (s ++ rest) p.message (length s) s
    (record { present = omega (arith, length-append s rest); spelled = subst (Spells padded p.message) (sym first) (message_loosened p.message s p.spelled) }) p.spelled
