use Rattle.std.proofs.Common.{arith}
use Rattle.zvt_field.proofs.Spellings.{length_few}
use Rattle.zvt_field.proofs.sizes.tree_size.Goals as goal

pub overflow_add-result : goal.overflow_add-result
overflow_add-result c = omega (arith, c.length_size.ensures, c.size-content.ensures.small, length_few c.size-content.result)

pub returns-clause-small : goal.returns-clause-small
returns-clause-small c = omega (arith, c.length_size.ensures, c.size-content.ensures.small, length_few c.size-content.result)
