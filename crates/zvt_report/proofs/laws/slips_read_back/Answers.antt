use Rattle.zvt_report.proofs.SlipObjectLemmas.{slips_read_back}
use Rattle.zvt_report.proofs.laws.slips_read_back.Goals as goal

pub returns : goal.returns
returns c = slips_read_back
