use Rattle.std.proofs.Common.{◌≡◌, ◌++◌, length}
use Rattle.std.specs.Str.Lines.{lines}
use Rattle.zvt_page.specs.Html.{render}
use Rattle.zvt_report.specs.PageEvents as events
use Rattle.zvt_report.proofs.page_events.line_parts.Given as goal

abbrev pub invariant-lines : goal.invariant-lines
invariant-lines l =
    l.page ++ render (events.line_parts (lines l.rest)) ≡ l.initial.page ++ render (events.line_parts (lines l.text))

abbrev pub decreases-lines : goal.decreases-lines
decreases-lines l = length l.rest
