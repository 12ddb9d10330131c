use Rattle.std.proofs.Common.{ap, ◌∙◌}
use Rattle.std.proofs.lemmas.List.{take_all}
use Rattle.zvt_till.specs.ByReceipt.{count_of}
use Rattle.zvt_till.proofs.statuses.count_of.Goals as goal

pub returns : goal.returns
returns c = c.entries.invariant.count ∙ ap (count_of c.args.amount) (take_all c.entries.entry-index c.args.book.now c.entries-test.false)
