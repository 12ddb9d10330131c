use Rattle.std.proofs.Common.{◌≡◌, List, Option, false, is_some, sym, ap, subst, ◌∙◌}
use Rattle.zvt_till.specs.declared.happenings.Happening.TheVariants.{Lost}
use Rattle.zvt_till.specs.Till.{TillState}
use Rattle.zvt_till.specs.View.{TillValue}
use Rattle.zvt_till.proofs.BookStepLemmas.{settings-by-running}
use Rattle.zvt_journal.specs.declared.device.DeviceError.{DeviceError}
use Rattle.zvt_journal.specs.Text.{recovered}
use Rattle.zvt_kept.specs.declared.past_orders.PastOrder.{PastOrder}
use Rattle.zvt_kept.specs.KeptTill.{IsKept, both_in, has_failed}
use Rattle.zvt_kept.specs.PastOrders.{followed}
use Rattle.zvt_service.specs.Service.{HasPast, state_of}
use Rattle.zvt_service.proofs.Living.{lost_on}
use Rattle.zvt_service.proofs.service.Service.lose_line.Goals as goal

pub invariant_of-self : goal.invariant_of-self
invariant_of-self g c = λ whole.
    let V = g.D.Device in
    let old = c.self.inside.kept in
    let new = c.lost.new.self in
    let gone = c.lost.ensures in
    let was : has_failed old ≡ false = ap (λ (f : Option DeviceError). is_some f) (sym gone.3) ∙ whole in
    let up = ap (λ (t : TillValue). t.state.line_up) (sym c.till.ensures.till) ∙ sym c.line_up.ensures ∙ c.if-line_up.true in
    subst (λ (past : List PastOrder). HasPast (state_of new).settings (recovered (V.seen new.standing.device)) (state_of new).line_up past)
    (sym (c.follow.ensures ∙ ap (λ (t : TillValue). followed c.self.inside.orders t.state) c.till-then-line_up.ensures.till))
    (lost_on (state_of old) (both_in new.standing) (V.seen old.standing.device) (V.seen new.standing.device) (V.may_leave new.standing.device) new.standing.gate c.self.inside.orders
    (ap (λ (s : TillState). s.settings) gone.0.0 ∙ settings-by-running (state_of old) Lost (state_of old).running) up (ap (λ (s : TillState). s.line_up) gone.0.0)
    (ap (λ d. V.seen d) gone.1) (subst (λ b. IsKept b (V.seen new.standing.device) (V.may_leave new.standing.device) new.standing.gate (both_in new.standing)) whole c.till-then-line_up.ensures.kept) (c.self.invariant was))
