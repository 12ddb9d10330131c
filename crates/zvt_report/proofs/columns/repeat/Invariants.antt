use Rattle.std.proofs.Common.{◌≡◌, ◌++◌, replicate}
use Rattle.zvt_report.proofs.columns.repeat.Given as goal

abbrev pub invariant-loop : goal.invariant-loop
invariant-loop l = l.text ≡ l.initial.text ++ replicate l.counter l.character
