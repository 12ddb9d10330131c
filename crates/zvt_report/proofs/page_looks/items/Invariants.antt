use Rattle.std.proofs.Common.{◌≡◌, ◌++◌, length}
use Rattle.zvt_page.specs.Html.{render}
use Rattle.zvt_report.specs.PageLooks as looks
use Rattle.zvt_report.proofs.page_looks.items.Given as goal

abbrev pub invariant-looks : goal.invariant-looks
invariant-looks l =
    l.page ++ render (looks.items l.shown l.decimals l.book l.closings l.messages l.rows l.urgent l.rest)
    ≡ l.initial.page ++ render (looks.items l.shown l.decimals l.book l.closings l.messages l.rows l.urgent l.looks)

abbrev pub decreases-looks : goal.decreases-looks
decreases-looks l = length l.rest
