use Rattle.zvt_audit.proofs.ReadOnLemmas.{read_on_is_well_formed}
use Rattle.zvt_audit.proofs.laws.read_on_is_well_formed.Goals as goal

pub returns : goal.returns
returns c = read_on_is_well_formed
