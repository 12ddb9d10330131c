use Rattle.std.proofs.Common.{append_assoc}
use Rattle.zvt_report.specs.LookList.{listed_looks}
use Rattle.zvt_report.proofs.TextLemmas.{completes}
use Rattle.zvt_report.proofs.look_list.listed_looks.Goals as goal

pub returns : goal.returns
unfolding listed_looks
returns c =
    completes c.looks_from-2.result c.looks_from.new.text c.looks_from-2.new.text _ _
    (simp (c.in_ok-looks_from.ensures, c.in_ok-word.ensures, c.urgent_count-urgent.ensures, append_assoc)) c.looks_from-2.ensures
