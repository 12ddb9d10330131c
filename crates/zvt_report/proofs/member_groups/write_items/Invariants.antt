use Rattle.std.proofs.Common.{◌≡◌, ◌++◌, false, length}
use Rattle.serde_json.specs.Written.{items_text}
use Rattle.zvt_report.specs.GroupObjects.{group_items}
use Rattle.zvt_report.proofs.member_groups.write_items.Given as goal

abbrev pub invariant-groups : goal.invariant-groups
invariant-groups l = l.text ++ items_text l.later (group_items l.rest) ≡ l.initial.text ++ items_text false (group_items l.fn.groups)

abbrev pub decreases-groups : goal.decreases-groups
decreases-groups l = length l.rest
