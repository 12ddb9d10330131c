use Rattle.zvt_report.proofs.EntryLemmas.{each_reversal_names_an_entry}
use Rattle.zvt_report.proofs.laws.each_reversal_names_an_entry.Goals as goal

pub returns : goal.returns
returns c = each_reversal_names_an_entry
