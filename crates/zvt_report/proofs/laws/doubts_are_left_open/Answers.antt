use Rattle.zvt_report.proofs.OpenLemmas.{doubts_are_left_open}
use Rattle.zvt_report.proofs.laws.doubts_are_left_open.Goals as goal

pub returns : goal.returns
returns c = doubts_are_left_open
