use Rattle.std.proofs.Common.{◌≡◌, ◌++◌, length}
use Rattle.json.specs.Print.{escape}
use Rattle.zvt_report.proofs.quoting.write_escaped.Given as goal

abbrev pub decreases-characters : goal.decreases-characters
decreases-characters l = length l.rest

abbrev pub invariant-characters : goal.invariant-characters
invariant-characters l = l.text ++ escape l.rest ≡ l.initial.text ++ escape l.characters
