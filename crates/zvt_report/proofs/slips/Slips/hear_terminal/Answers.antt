use Rattle.std.proofs.Common.{refl, sym, ◌∙◌, ap}
use Rattle.zvt_trace.specs.TraceEvent.{on}
use Rattle.zvt_trace.specs.TraceEvent as trace_event
use Rattle.zvt_trace.specs.declared.direction.Direction.TheVariants.{FromTerminal}
use Rattle.zvt_audit.proofs.EndLemmas.{where_ok}
use Rattle.zvt_report.specs.Slips.{role_of}
use Rattle.zvt_report.proofs.SlipLemmas.{acknowledged_prints, block_prints, line_ok, other_prints}
use Rattle.zvt_report.proofs.slips.Slips.hear_terminal.Goals as goal

pub returns-in-Line : goal.returns-in-Line
returns-in-Line c =
    line_ok c.print.result c.args.self.now c.print.new.self (on c.args.line (trace_event.message FromTerminal c.args.apdu.now)) (ap role_of (sym c.kind.ensures) ∙ sym c.role_of.ensures ∙ c.in-Line.is)
    c.print.ensures.form c.print.ensures.ranges c.print.ensures.begun c.print.ensures.text c.print.ensures.going c.print.ensures.texts

pub returns-in-Acknowledgement : goal.returns-in-Acknowledgement
returns-in-Acknowledgement c =
    acknowledged_prints c.args.self.now (on c.args.line (trace_event.message FromTerminal c.args.apdu.now)) (ap role_of (sym c.kind.ensures) ∙ sym c.role_of.ensures ∙ c.in-Acknowledgement.is)

pub returns-in-Block : goal.returns-in-Block
returns-in-Block c =
    where_ok c.block.result
    (λ closes. block_prints c.args.self.now c.block.new.self (on c.args.line (trace_event.message FromTerminal c.args.apdu.now)) (ap role_of (sym c.kind.ensures) ∙ sym c.role_of.ensures ∙ c.in-Block.is) closes)
    c.block.ensures

pub returns-in-Other : goal.returns-in-Other
returns-in-Other c =
    where_ok c.close.result
    (λ closes. other_prints c.args.self.now c.close.new.self (on c.args.line (trace_event.message FromTerminal c.args.apdu.now)) (ap role_of (sym c.kind.ensures) ∙ sym c.role_of.ensures ∙ c.in-Other.is) refl closes)
    c.close.ensures
