use Rattle.std.proofs.Common.{sym, ◌∙◌}
use Rattle.zvt_apdu.proofs.BriefLemmas as brief
use Rattle.zvt_apdu.proofs.brief.brief_message.Goals as goal

pub unreachable-requires : goal.unreachable-requires
unreachable-requires c = c.in_default.not-Whole _ (brief.brief_read _ c.in_ok-apdu.field-0 _ _ _ c.put_brief-size.ensures.written c.in_ok-apdu.ensures)

pub returns : goal.returns
returns c = brief.same_message _ _ _ _ (sym c.in-Whole.is ∙ brief.brief_read _ c.in_ok-apdu.field-0 _ _ _ c.put_brief-size.ensures.written c.in_ok-apdu.ensures)
