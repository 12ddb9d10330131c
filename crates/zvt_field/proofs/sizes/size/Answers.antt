use Rattle.zvt_field.proofs.Spellings.{size_once}
use Rattle.zvt_field.proofs.sizes.size.Goals as goal

pub returns-clause-value : goal.returns-clause-value
returns-clause-value c bytes p = size_once c.fields.inside.list.items c.args.fields.now c.fields.inside.size bytes c.fields.invariant c.fields.view_is p
