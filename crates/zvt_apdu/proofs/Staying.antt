-- Answers that more bytes leave, and the one fault of a message.
use Rattle.std.proofs.Common.{ℕ, List, length, refl, sym, ap, subst, arith, length-append}
use Rattle.std.proofs.lemmas.List.{take-append-le}
use Rattle.zvt_grammar.specs.declared.answer.Scan.TheVariants.{Whole, More, Refused}
use Rattle.zvt_tlv.proofs.Places.{place_more, none_more, byte_more}
use Rattle.zvt_apdu.specs.declared.messages.BadValue.TheVariants.{TooLarge, NamedControl}
use Rattle.zvt_apdu.specs.Grammar.{Spells}
use Rattle.zvt_apdu.specs.Judging.{Position}
use Rattle.zvt_apdu.specs.Laws.{AnswersStay, FaultsAreOne, SpelledIsFaultless}
use Rattle.zvt_apdu.proofs.OneSpelling.{one_data}
use Rattle.zvt_apdu.proofs.Writing.{too_large, taken}

pub answers_stay : AnswersStay
answers_stay r bytes more (Whole found) ne p = record {
  present = omega (arith, p.present, length-append bytes more);
  spelled = subst (Spells r found.0) (sym (take-append-le found.1 bytes more p.present)) p.spelled;
}
answers_stay r bytes more More ne p = absurd (ne refl)
answers_stay r bytes more (Refused k w) ne p = (
  none_more (Spells r) bytes more k p.0 p.1,
  place_more (Spells r) bytes more k p.1,
  record {
    openers = p.2.openers;
    role = p.2.role;
    byte = p.2.byte;
    stands = subst (λ (b : List ℕ). Position r p.2.openers b p.2.role) (sym (take-append-le k bytes more (omega (arith, p.1.present)))) p.2.stands;
    is_byte = byte_more bytes more k p.2.byte p.2.is_byte;
    fails = p.2.fails;
  },
)

pub faults_are_one : FaultsAreOne
faults_are_one m TooLarge TooLarge p q = refl
faults_are_one m TooLarge NamedControl (n, h, large) (t, (k, g, small)) = absurd (omega (arith, ap length (one_data m h.bytes g.bytes h.is_data g.is_data), h.sized, g.sized, large, small))
faults_are_one m NamedControl TooLarge (t, (k, g, small)) (n, h, large) = absurd (omega (arith, ap length (one_data m h.bytes g.bytes h.is_data g.is_data), h.sized, g.sized, large, small))
faults_are_one m NamedControl NamedControl p q = refl

pub faultless : SpelledIsFaultless
faultless m TooLarge s (n, h, large) = too_large m n h (omega (arith, large)) s
faultless m NamedControl s (t, more) = taken m t s
