use Rattle.std.proofs.Common.{◌≡◌, ◌+◌, ◌++◌, length}
use Rattle.zvt_page.specs.Html.{render}
use Rattle.zvt_report.specs.PageGroups.{group_tables}
use Rattle.zvt_report.proofs.page_groups.group_tables.Given as goal

abbrev pub invariant-rows : goal.invariant-rows
invariant-rows l = record {
  so_far : l.page ++ render (group_tables l.decimals l.closings l.place l.rest) ≡ l.initial.page ++ render (group_tables l.decimals l.closings 0 l.rows);
  left : l.place + length l.rest ≡ length l.rows;
}

abbrev pub decreases-rows : goal.decreases-rows
decreases-rows l = length l.rest
