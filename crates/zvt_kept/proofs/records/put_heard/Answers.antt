use Rattle.zvt_kept.specs.Records.{heard_lines, one_or_none}
use Rattle.zvt_kept.proofs.CheckLemmas.{lines_unchecked}
use Rattle.zvt_kept.proofs.records.put_heard.Goals as goal

pub returns-in_err-put_heard_lines-clause-written : goal.returns-in_err-put_heard_lines-clause-written
returns-in_err-put_heard_lines-clause-written c = lines_unchecked _ c.from_residual.result c.args.text.now c.put_heard_lines.new.text (heard_lines c.args.message.now (one_or_none c.args.answers.now)) c.from_residual.ensures.1 c.in_err-put_heard_lines.ensures
