use Rattle.std.proofs.Common.{◌≡◌, ◌++◌, take}
use Rattle.zvt_runs.specs.Settlements.{settled_lines}
use Rattle.zvt_runs.proofs.settlements.say_settlements.Given as goal

abbrev pub invariant-loop-settlement : goal.invariant-loop-settlement
invariant-loop-settlement l = l.text ≡ l.initial.text ++ settled_lines l.form (take l.settlement-index l.settled)
