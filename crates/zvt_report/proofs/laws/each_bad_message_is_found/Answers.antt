use Rattle.zvt_report.proofs.FindingLemmas as law
use Rattle.zvt_report.proofs.laws.each_bad_message_is_found.Goals as goal

pub returns : goal.returns
returns c = law.each_bad_message_is_found
