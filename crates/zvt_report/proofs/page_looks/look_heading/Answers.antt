use Rattle.std.proofs.Common.{append_assoc}
use Rattle.zvt_report.specs.PageLooks.{look_heading}
use Rattle.zvt_report.proofs.TextLemmas.{completes}
use Rattle.zvt_report.proofs.page_looks.look_heading.Goals as goal

pub returns : goal.returns
unfolding look_heading
returns c =
    completes c.end.result c.escaped.new.text c.end.new.text _ _
    (simp (c.in_ok-escaped.ensures, c.in_ok-start.ensures, append_assoc)) c.end.ensures
