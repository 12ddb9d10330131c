use Rattle.std.proofs.Common.{◌≡◌, ◌++◌, length}
use Rattle.zvt_page.specs.Html.{render}
use Rattle.zvt_report.specs.PageSlips.{paper}
use Rattle.zvt_report.proofs.page_slips.paper.Given as goal

abbrev pub invariant-texts : goal.invariant-texts
invariant-texts l = l.page ++ render (paper l.rest) ≡ l.initial.page ++ render (paper l.texts)

abbrev pub decreases-texts : goal.decreases-texts
decreases-texts l = length l.rest
