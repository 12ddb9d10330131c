use Rattle.zvt_report.proofs.PlaceLemmas.{places_name_entries}
use Rattle.zvt_report.proofs.laws.places_name_entries.Goals as goal

pub returns : goal.returns
returns c = places_name_entries
