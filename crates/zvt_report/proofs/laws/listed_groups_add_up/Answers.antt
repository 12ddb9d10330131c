use Rattle.zvt_report.proofs.GroupLemmas.{listed_groups_add_up}
use Rattle.zvt_report.proofs.laws.listed_groups_add_up.Goals as goal

pub returns : goal.returns
returns c = listed_groups_add_up
