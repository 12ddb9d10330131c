use Rattle.std.proofs.Common.{arith}
use Rattle.zvt_field.proofs.ViewLemmas.{amount_parts}
use Rattle.zvt_json.proofs.fields.units.Goals as goal

pub number-requires-clause-digits : goal.number-requires-clause-digits
number-requires-clause-digits c = (amount_parts c.args.content.now c.requires).0

pub number-requires-clause-short : goal.number-requires-clause-short
number-requires-clause-short c = omega (arith, (amount_parts c.args.content.now c.requires).1)
