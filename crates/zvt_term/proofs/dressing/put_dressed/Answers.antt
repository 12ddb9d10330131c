use Rattle.std.proofs.Common.{subst, take}
use Rattle.zvt_grammar.specs.Reading.{shortest}
use Rattle.zvt_apdu.specs.Grammar.{Spells}
use Rattle.zvt_term.specs.declared.messages.Report.{Report}
use Rattle.zvt_term.specs.declared.messages.Report.TheVariants.{Approved, TakenBack}
use Rattle.zvt_term.specs.Reports.{message_of_report}
use Rattle.zvt_term.proofs.DressingLemmas.{status_part, written}
use Rattle.zvt_term.proofs.dressing.put_dressed.Goals as goal

pub put_status-requires-clause-is_status : goal.put_status-requires-clause-is_status
put_status-requires-clause-is_status c = (
  status_part (message_of_report (Approved c.in-Approved.amount c.in-Approved.number c.in-Approved.currency)),
  subst (λ (r : Report). Spells shortest (message_of_report r) (take c.put_report-size.result c.put_report-size.new.buffer)) c.in-Approved.is (written _ _ _ _ c.put_report-size.ensures.written),
)

pub put_status-requires-in-TakenBack-clause-is_status : goal.put_status-requires-in-TakenBack-clause-is_status
put_status-requires-in-TakenBack-clause-is_status c = (
  status_part (message_of_report (TakenBack c.in-TakenBack.amount c.in-TakenBack.number c.in-TakenBack.original c.in-TakenBack.currency)),
  subst (λ (r : Report). Spells shortest (message_of_report r) (take c.put_report-size.result c.put_report-size.new.buffer)) c.in-TakenBack.is (written _ _ _ _ c.put_report-size.ensures.written),
)
