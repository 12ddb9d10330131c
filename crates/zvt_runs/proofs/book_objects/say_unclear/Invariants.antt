use Rattle.std.proofs.Common.{◌≡◌, ◌++◌, take}
use Rattle.zvt_runs.specs.BookObjects.{unclears_json}
use Rattle.zvt_runs.proofs.book_objects.say_unclear.Given as goal

abbrev pub invariant-loop-at : goal.invariant-loop-at
invariant-loop-at l = l.text ≡ l.initial.text ++ unclears_json l.currency (take l.at l.unclear) l.heard l.notes
