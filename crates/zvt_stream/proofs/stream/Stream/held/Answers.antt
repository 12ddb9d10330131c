use Rattle.std.proofs.Common.{arith}
use Rattle.zvt_stream.proofs.LineReadingLemmas.{few_by}
use Rattle.zvt_stream.proofs.stream.Stream.held.Goals as goal

pub returns-else-self-clause-few : goal.returns-else-self-clause-few
returns-else-self-clause-few c = let few = rw c.if-self.false at (few_by _ _ c.self.invariant.0.unfinished) in omega (arith, few, c.len.ensures)
