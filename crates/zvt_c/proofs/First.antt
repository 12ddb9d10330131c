-- The message that comes first, where the answer says that it is whole.
use Rattle.std.proofs.Common.{◌≡◌, ℕ, ◌<◌, List, length, take, sym, subst, ap, arith}
use Rattle.zvt_grammar.specs.Reading.{shortest}
use Rattle.zvt_grammar.specs.declared.answer.Scan.TheVariants.{Whole, More, Refused}
use Rattle.zvt_apdu.specs.Message.{Message}
use Rattle.zvt_apdu.specs.Judging as apdu
use Rattle.zvt_stream.proofs.Beginnings.{bounds_in}
use Rattle.zvt_c.specs.declared.answer.ZvtAnswer.{ZvtAnswer}
use Rattle.zvt_c.specs.Answers.{Says, answer_of, scanned, refused_memory}

-- it is of the size that the answer says
pub whole_first : (bytes : List ℕ) (answer : ZvtAnswer) → Says bytes answer → answer.status ≡ 0
    → (message : Message) × apdu.Answers shortest bytes (Whole (message, answer.size)) × (answer ≡ answer_of (Whole (message, answer.size)))
whole_first bytes answer (scanned (Whole found) answers e) zero =
    let size : found.1 ≡ answer.size = sym (ap (λ (a : ZvtAnswer). a.size) e) in (
      found.0,
      subst (λ (n : ℕ). apdu.Answers shortest bytes (Whole (found.0, n))) size answers,
      subst (λ (n : ℕ). answer ≡ answer_of (Whole (found.0, n))) size e,
    )
whole_first bytes answer (scanned More answers e) zero = absurd (omega (arith, ap (λ (a : ZvtAnswer). a.status) e, zero))
whole_first bytes answer (scanned (Refused place why) answers e) zero = absurd (omega (arith, ap (λ (a : ZvtAnswer). a.status) e, zero))
whole_first bytes answer (refused_memory e) zero = absurd (omega (arith, ap (λ (a : ZvtAnswer). a.status) e, zero))

-- it has bytes
pub has_bytes : (bytes : List ℕ) (message : Message) (size : ℕ) → apdu.Answers shortest bytes (Whole (message, size)) → 0 < length (take size bytes)
has_bytes bytes message size found = omega (arith, (bounds_in shortest message (take size bytes) found.spelled).0)
