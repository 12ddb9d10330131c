use Rattle.zvt_report.proofs.LookLemmas.{each_payment_is_looked_at}
use Rattle.zvt_report.proofs.laws.each_payment_is_looked_at.Goals as goal

pub returns : goal.returns
returns c = each_payment_is_looked_at
