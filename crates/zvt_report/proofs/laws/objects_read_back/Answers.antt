use Rattle.zvt_report.proofs.ReadLemmas.{objects_read_back}
use Rattle.zvt_report.proofs.laws.objects_read_back.Goals as goal

pub returns : goal.returns
returns c = objects_read_back
