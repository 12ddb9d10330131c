use Rattle.std.proofs.Common.{List, sym, ap, subst, ◌∙◌}
use Rattle.zvt_till.specs.View.{TillValue}
use Rattle.zvt_journal.specs.Text.{recovered}
use Rattle.zvt_kept.specs.declared.past_orders.PastOrder.{PastOrder}
use Rattle.zvt_kept.specs.KeptTill.{IsKept, both_in}
use Rattle.zvt_kept.specs.PastOrders.{followed}
use Rattle.zvt_service.specs.Service.{HasPast, state_of}
use Rattle.zvt_service.proofs.Living.{heard_on}
use Rattle.zvt_service.proofs.service.ServiceMachine.hear.Goals as goal

pub invariant_of-self-then-is_none : goal.invariant_of-self-then-is_none
invariant_of-self-then-is_none g c = λ whole.
    let V = g.D.Device in
    let old = c.self.inside.kept in
    let new = c.hear.new.self in
    let up = ap (λ (t : TillValue). t.state.line_up) (sym c.till.ensures.till) ∙ sym c.line_up.ensures ∙ c.if-not-line_up.false in
    subst (λ (past : List PastOrder). HasPast (state_of new).settings (recovered (V.seen new.standing.device)) (state_of new).line_up past)
    (sym (c.follow.ensures ∙ ap (λ (t : TillValue). followed c.self.inside.orders t.state) c.till-then-is_none.ensures.till))
    (heard_on V.seen V.may_leave V.moment V.left_since V.faults old new c.args.apdu.now c.in_ok-answers.answers c.self.inside.orders up whole c.in_ok-answers.ensures.heard
    (subst (λ b. IsKept b (V.seen new.standing.device) (V.may_leave new.standing.device) new.standing.gate (both_in new.standing)) whole c.till-then-is_none.ensures.kept) c.self.invariant)
