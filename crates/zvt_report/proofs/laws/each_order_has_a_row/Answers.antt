use Rattle.zvt_report.proofs.LawLemmas.{each_order_has_a_row}
use Rattle.zvt_report.proofs.laws.each_order_has_a_row.Goals as goal

pub returns : goal.returns
returns c = each_order_has_a_row
