use Rattle.std.proofs.Common.{◌≡◌, ◌++◌, length, map}
use Rattle.zvt_report.specs.LookObjects.{more_text, of_member}
use Rattle.zvt_report.proofs.look_objects.more.Given as goal

abbrev pub invariant-members : goal.invariant-members
invariant-members l = l.text ++ more_text (map of_member l.rest) ≡ l.initial.text ++ more_text (map of_member l.fn.members)

abbrev pub decreases-members : goal.decreases-members
decreases-members l = length l.rest
