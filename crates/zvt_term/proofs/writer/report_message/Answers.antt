use Rattle.std.proofs.Common.{sym, ◌∙◌}
use Rattle.zvt_apdu.proofs.BriefLemmas.{brief_read, same_message}
use Rattle.zvt_term.proofs.writer.report_message.Goals as goal

pub unreachable-requires : goal.unreachable-requires
unreachable-requires c = c.in_default.not-Whole _ (brief_read _ c.in_ok-apdu.field-0 _ _ _ c.put_report-size.ensures.written c.in_ok-apdu.ensures)

pub returns : goal.returns
returns c = same_message _ _ _ _ (sym c.in-Whole.is ∙ brief_read _ c.in_ok-apdu.field-0 _ _ _ c.put_report-size.ensures.written c.in_ok-apdu.ensures)
