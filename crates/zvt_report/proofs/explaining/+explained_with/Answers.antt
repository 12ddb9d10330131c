use Rattle.std.proofs.Common.{sym}
use Rattle.zvt_report.proofs.ExplainLemmas.{any_item}
use Rattle.zvt_report.proofs.explaining.+explained_with.Goals as goal

pub returns : goal.returns
returns t c =
    rw (c.or.ensures, c.with_order.ensures, c.explained_with-with_item.ensures, c.added_by.ensures.value, c.taken_by.ensures.value, c.explained_with-without.ensures)
    (sym (any_item c.args.most c.args.booked c.args.covered c.args.items.now _ c.in-len1-up.len_at_least c.if-most-eq0.false))
