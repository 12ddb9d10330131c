use Rattle.std.proofs.Common.{◌≡◌, ◌++◌, false, length}
use Rattle.serde_json.specs.Written.{members_text}
use Rattle.zvt_report.specs.Members.{said}
use Rattle.zvt_report.proofs.members.write_members.Given as goal

abbrev pub invariant-members : goal.invariant-members
invariant-members l = l.text ++ members_text l.later (said l.rest) ≡ l.initial.text ++ members_text false (said l.fn.members)

abbrev pub decreases-members : goal.decreases-members
decreases-members l = length l.rest
