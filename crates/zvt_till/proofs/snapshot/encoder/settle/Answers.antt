use Rattle.std.proofs.Common.{rules}
use Rattle.zvt_till.proofs.snapshot.encoder.settle.Goals as goal

pub returns-in-Some-Reverse-clause-book : goal.returns-in-Some-Reverse-clause-book
returns-in-Some-Reverse-clause-book c = search rules
