use Rattle.std.proofs.Common.{subst}
use Rattle.zvt_kept.specs.Reading.{Extends}
use Rattle.zvt_kept.specs.Records.{order_lines, order_record}
use Rattle.zvt_kept.proofs.CheckLemmas.{lines_checked, lines_unchecked}
use Rattle.zvt_kept.proofs.records.put_order.Goals as goal

pub returns-in_err-put_order_lines-clause-written : goal.returns-in_err-put_order_lines-clause-written
returns-in_err-put_order_lines-clause-written c =
    subst (λ note. Extends c.from_residual.result c.args.text.now c.put_order_lines.new.text (order_record c.args.order.now note c.args.sent.now)) c.words.ensures.words
    (lines_unchecked _ c.from_residual.result c.args.text.now c.put_order_lines.new.text (order_lines c.args.order.now c.words.result.now c.args.sent.now) c.from_residual.ensures.1 c.in_err-put_order_lines.ensures)

pub returns-clause-written : goal.returns-clause-written
returns-clause-written c =
    subst (λ note. Extends c.put_check.result c.args.text.now c.put_check.new.text (order_record c.args.order.now note c.args.sent.now)) c.words.ensures.words
    (lines_checked c.put_check.result c.args.text.now c.put_order_lines.new.text c.put_check.new.text (order_lines c.args.order.now c.words.result.now c.args.sent.now) c.size-start.result c.in_ok-put_order_lines.ensures c.size-start.ensures c.put_check.ensures)
