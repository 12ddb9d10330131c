use Rattle.std.proofs.Common.{ap, [], ◌∷◌}
use Rattle.zvt_stream.specs.Answered.{Answered}
use Rattle.zvt_apdu.proofs.BriefLemmas.{ack_spelled}
use Rattle.zvt_term.proofs.dressing.add_ack.Goals as goal

pub returns-clause-added : goal.returns-clause-added
returns-clause-added c =
    record {
      bytes = 0x80 ∷ 0x00 ∷ 0x00 ∷ [];
      spelled = ack_spelled;
      after = ap (λ (a : Answered). a.bytes) c.add.ensures;
      counted = ap (λ (a : Answered). a.count) c.add.ensures;
    }
