use Rattle.zvt_report.proofs.NamingLemmas.{reversals_name_entries}
use Rattle.zvt_report.proofs.laws.reversals_name_entries.Goals as goal

pub returns : goal.returns
returns c = reversals_name_entries
