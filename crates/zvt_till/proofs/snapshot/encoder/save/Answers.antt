use Rattle.std.proofs.Common.{rules}
use Rattle.zvt_till.proofs.snapshot.encoder.save.Goals as goal

pub returns-clause-bytes : goal.returns-clause-bytes
returns-clause-bytes c = search rules
