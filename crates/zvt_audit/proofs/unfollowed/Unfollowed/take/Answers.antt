use Rattle.std.proofs.Common.{Bool, Some, refl, sym, ◌∙◌, ap}
use Rattle.zvt_audit.proofs.EndLemmas.{where_ok}
use Rattle.zvt_audit.proofs.UnfollowedLemmas.{finds_approval, finds_nothing}
use Rattle.zvt_audit.proofs.unfollowed.Unfollowed.take.Goals as goal

pub returns-in-Some-approval_by : goal.returns-in-Some-approval_by
returns-in-Some-approval_by c =
    let settle = c.settle-in-Some-approval_by in
    where_ok settle.result (λ settled. finds_approval c.args.self.now settle.new.self c.in-Some.waiting c.args.happening.now c.in-Some.is c.in-Some-approval_by.approval (sym c.is_over.ensures ∙ c.if-is_over.false) (sym c.approval_by.ensures ∙ c.in-Some-approval_by.is) settled) settle.ensures

pub returns-in-None : goal.returns-in-None
returns-in-None c =
    let old = c.args.self.now in
    finds_nothing old (record { settled = old.settled; waiting = Some (record { order = c.in-Some.waiting.order; positive = c.is_accepted.result }) }) c.in-Some.waiting c.args.happening.now c.in-Some.is
    (sym c.is_over.ensures ∙ c.if-is_over.false) (sym c.approval_by.ensures ∙ c.in-None.is) refl (ap (λ (b : Bool). Some (record { order = c.in-Some.waiting.order; positive = b })) c.is_accepted.ensures)
