use Rattle.zvt_report.proofs.ReportedLemmas.{each_order_has_a_message}
use Rattle.zvt_report.proofs.laws.each_order_has_a_message.Goals as goal

pub returns : goal.returns
returns c = each_order_has_a_message
