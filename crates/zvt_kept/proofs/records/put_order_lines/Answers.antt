use Rattle.zvt_kept.specs.Records.{order_line, one_or_none, sent_lines}
use Rattle.zvt_kept.proofs.Kept.{cut_short, then_second}
use Rattle.zvt_kept.proofs.records.put_order_lines.Goals as goal

pub returns-in_err-put_order_line : goal.returns-in_err-put_order_line
returns-in_err-put_order_line c =
    cut_short c.from_residual.result c.args.text.now c.put_order_line.new.text (order_line c.args.order.now c.args.note.now) (sent_lines (one_or_none c.args.sent.now)) c.from_residual.ensures.0 c.in_err-put_order_line.ensures

pub returns : goal.returns
returns c =
    then_second c.put_sent.result c.args.text.now c.put_order_line.new.text c.put_sent.new.text (order_line c.args.order.now c.args.note.now) (sent_lines (one_or_none c.args.sent.now)) c.in_ok-put_order_line.ensures c.put_sent.ensures
