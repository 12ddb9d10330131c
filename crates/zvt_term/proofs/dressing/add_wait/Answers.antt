use Rattle.std.proofs.Common.{ap, [], ◌∷◌}
use Rattle.zvt_stream.specs.Answered.{Answered}
use Rattle.zvt_term.proofs.DressingLemmas.{wait_spelled}
use Rattle.zvt_term.proofs.dressing.add_wait.Goals as goal

pub returns : goal.returns
returns c =
    record {
      bytes = 0x04 ∷ 0xFF ∷ 0x01 ∷ 0x0E ∷ [];
      spelled = wait_spelled;
      after = ap (λ (a : Answered). a.bytes) c.add.ensures;
      counted = ap (λ (a : Answered). a.count) c.add.ensures;
    }
