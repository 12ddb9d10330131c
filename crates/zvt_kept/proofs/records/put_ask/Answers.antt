use Rattle.std.proofs.Common.{subst}
use Rattle.zvt_kept.specs.Reading.{Extends}
use Rattle.zvt_kept.specs.Records.{ask_lines, ask_record}
use Rattle.zvt_kept.proofs.CheckLemmas.{lines_checked, lines_unchecked}
use Rattle.zvt_kept.proofs.records.put_ask.Goals as goal

pub returns-in_err-put_ask_lines-clause-written : goal.returns-in_err-put_ask_lines-clause-written
returns-in_err-put_ask_lines-clause-written c =
    subst (λ note. Extends c.from_residual.result c.args.text.now c.put_ask_lines.new.text (ask_record note)) c.words.ensures.words
    (lines_unchecked _ c.from_residual.result c.args.text.now c.put_ask_lines.new.text (ask_lines c.words.result.now) c.from_residual.ensures.1 c.in_err-put_ask_lines.ensures)

pub returns-clause-written : goal.returns-clause-written
returns-clause-written c =
    subst (λ note. Extends c.put_check.result c.args.text.now c.put_check.new.text (ask_record note)) c.words.ensures.words
    (lines_checked c.put_check.result c.args.text.now c.put_ask_lines.new.text c.put_check.new.text (ask_lines c.words.result.now) c.size-start.result c.in_ok-put_ask_lines.ensures c.size-start.ensures c.put_check.ensures)
