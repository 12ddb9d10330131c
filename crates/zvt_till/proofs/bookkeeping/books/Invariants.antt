use Rattle.std.proofs.Common.{take}
use Rattle.zvt_till.specs.Judging.{HasJudged}
use Rattle.zvt_till.proofs.bookkeeping.books.Given as goal

abbrev pub invariant-loop-happening : goal.invariant-loop-happening
invariant-loop-happening l = record {
  judged : HasJudged (take l.happening-index l.log) l.keeping;
}
