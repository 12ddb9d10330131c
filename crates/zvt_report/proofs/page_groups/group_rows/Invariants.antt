use Rattle.std.proofs.Common.{◌≡◌, ◌++◌, length}
use Rattle.zvt_page.specs.Html.{render}
use Rattle.zvt_report.specs.PageGroups.{group_rows}
use Rattle.zvt_report.proofs.page_groups.group_rows.Given as goal

abbrev pub invariant-groups : goal.invariant-groups
invariant-groups l = l.page ++ render (group_rows l.decimals l.rest) ≡ l.initial.page ++ render (group_rows l.decimals l.groups)

abbrev pub decreases-groups : goal.decreases-groups
decreases-groups l = length l.rest
