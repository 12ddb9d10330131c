use Rattle.std.proofs.Common.{rules}
use Rattle.zvt_field.proofs.reader.scan.Goals as goal

pub returns : goal.returns
returns c = search rules
