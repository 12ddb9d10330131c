use Rattle.std.proofs.Common.{◌≡◌, ◌++◌, take}
use Rattle.zvt_runs.specs.BookObjects.{entries_json}
use Rattle.zvt_runs.proofs.book_objects.say_entries.Given as goal

abbrev pub invariant-loop-at : goal.invariant-loop-at
invariant-loop-at l = l.text ≡ l.initial.text ++ entries_json l.currency (take l.at l.book) l.notes
