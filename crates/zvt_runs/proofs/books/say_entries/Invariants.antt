use Rattle.std.proofs.Common.{◌≡◌, ◌++◌, take}
use Rattle.zvt_runs.specs.Books.{entries_text}
use Rattle.zvt_runs.proofs.books.say_entries.Given as goal

abbrev pub invariant-loop-at : goal.invariant-loop-at
invariant-loop-at l = l.text ≡ l.initial.text ++ entries_text (take l.at l.book) l.notes
