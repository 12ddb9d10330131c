use Rattle.std.proofs.Common.{◌≡◌, ◌++◌, take}
use Rattle.zvt_runs.specs.Books.{unclears_text}
use Rattle.zvt_runs.proofs.books.say_unclear.Given as goal

abbrev pub invariant-loop-at : goal.invariant-loop-at
invariant-loop-at l = l.text ≡ l.initial.text ++ unclears_text (take l.at l.unclear) l.heard l.notes
