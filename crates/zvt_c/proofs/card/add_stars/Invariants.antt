use Rattle.std.proofs.Common.{◌≡◌, ◌++◌, replicate}
use Rattle.zvt_c.proofs.card.add_stars.Given as goal

abbrev pub invariant-loop : goal.invariant-loop
invariant-loop l = l.text.items ≡ l.initial.text.items ++ replicate l.counter 42
