use Rattle.std.proofs.Common.{Bool, cond, sym, ◌∙◌, ap}
use Rattle.zvt_trace.specs.TraceEvent.{on}
use Rattle.zvt_trace.specs.TraceEvent as trace_event
use Rattle.zvt_trace.specs.declared.direction.Direction.TheVariants.{FromTill}
use Rattle.zvt_report.specs.Slips.{is_acknowledgement, role_of}
use Rattle.zvt_report.specs.declared.slip_kinds.Role.{Role}
use Rattle.zvt_report.specs.declared.slip_kinds.Role.TheVariants.{Acknowledgement, Other}
use Rattle.zvt_report.proofs.SlipLemmas.{acknowledged_prints, till_ok}
use Rattle.zvt_report.proofs.slips.Slips.hear_till.Goals as goal

pub returns-then-is_acknowledgement : goal.returns-then-is_acknowledgement
returns-then-is_acknowledgement c =
    acknowledged_prints c.args.self.now (on c.args.line (trace_event.message FromTill c.args.apdu.now))
    (ap (λ (b : Bool). cond b Acknowledgement Other)
    (ap (λ (r : Role). is_acknowledgement r) (ap role_of (sym c.kind.ensures) ∙ sym c.role_of.ensures) ∙ sym c.is_acknowledgement.ensures ∙ c.if-is_acknowledgement.true))

pub returns : goal.returns
returns c =
    till_ok c.begin.result c.args.self.now c.close.new.self c.begin.new.self (on c.args.line (trace_event.message FromTill c.args.apdu.now))
    (ap (λ (b : Bool). cond b Acknowledgement Other)
    (ap (λ (r : Role). is_acknowledgement r) (ap role_of (sym c.kind.ensures) ∙ sym c.role_of.ensures) ∙ sym c.is_acknowledgement.ensures ∙ c.if-is_acknowledgement.false))
    c.in_ok-close.ensures c.begin.ensures.form c.begin.ensures.ranges c.begin.ensures.going c.begin.ensures.text c.begin.ensures.begun
