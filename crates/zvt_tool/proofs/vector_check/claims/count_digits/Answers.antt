use Rattle.std.proofs.Common.{arith}
use Rattle.std.proofs.lemmas.List.Elements.{All-more}
use Rattle.zvt_tool.specs.Vectors.{IsDigit}
use Rattle.zvt_tool.proofs.vector_check.claims.count_digits.Goals as goal

pub loop-count-preserved : goal.loop-count-preserved
loop-count-preserved c = record {
  within = omega (arith, c.loop-count-test.true);
  digits = All-more IsDigit c.args.text.now c.loop-count.count 0 c.loop-count-test.true c.loop-count.invariant.digits (c.if-text-count-ge48.true, c.if-text-count-le57.true);
}
