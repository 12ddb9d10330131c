use Rattle.zvt_field.proofs.BodyLemmas.{tree_small}
use Rattle.zvt_field.proofs.sizes.field_size.Goals as goal

pub returns-in-Tree-clause-small : goal.returns-in-Tree-clause-small
returns-in-Tree-clause-small c =
    tree_small c.args.field.now c.body.result.now c.in-Tree.objects c.tree_size.result c.body.ensures.spelled c.body.ensures.body c.in-Tree.is c.tree_size.ensures.size
