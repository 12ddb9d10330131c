use Rattle.std.proofs.Common.{◌≡◌, List, Option, false, is_some, sym, ap, subst, ◌∙◌}
use Rattle.zvt_till.specs.View.{TillValue}
use Rattle.zvt_journal.specs.declared.device.DeviceError.{DeviceError}
use Rattle.zvt_journal.specs.Text.{recovered}
use Rattle.zvt_kept.specs.declared.past_orders.PastOrder.{PastOrder}
use Rattle.zvt_kept.specs.KeptTill.{IsKept, KeptValue, Standing, both_in, has_failed}
use Rattle.zvt_kept.specs.PastOrders.{followed}
use Rattle.zvt_kept.specs.Records.{asked}
use Rattle.zvt_kept.proofs.Steps.{asked_up}
use Rattle.zvt_service.specs.Service.{HasPast, state_of}
use Rattle.zvt_service.proofs.Living.{recorded_on}
use Rattle.zvt_service.proofs.service.Service.ask.Goals as goal

pub invariant_of-self-2 : goal.invariant_of-self-2
invariant_of-self-2 g c = λ whole.
    let V = g.D.Device in
    let old = c.note_next.new.self in
    let same : old.standing ≡ c.self.inside.kept.standing = ap (λ (k : KeptValue g.row.D.Denot). k.standing) c.note_next.ensures in
    let new = c.ask.new.self in
    let done = c.in_ok-message.ensures.0 in
    let was : has_failed c.self.inside.kept ≡ false = ap (λ (f : Option DeviceError). is_some f) (sym (done.1 ∙ ap (λ (k : KeptValue g.row.D.Denot). k.failure) c.note_next.ensures)) ∙ whole in
    let served = subst (λ (s : Standing g.row.D.Denot). HasPast s.till.state.settings (recovered (V.seen s.device)) s.till.state.line_up c.self.inside.orders) (sym same) (c.self.invariant was) in
    let up = asked_up (state_of old) old.standing.settling.asking done.0.accepts.taken in
    subst (λ (past : List PastOrder). HasPast (state_of new).settings (recovered (V.seen new.standing.device)) (state_of new).line_up past)
    (sym (c.follow.ensures ∙ ap (λ (t : TillValue). followed c.self.inside.orders t.state) c.till.ensures.till))
    (recorded_on (state_of old) (both_in new.standing) (V.seen old.standing.device) (V.seen new.standing.device) (V.may_leave new.standing.device) new.standing.gate (asked old.note) done.2.added c.self.inside.orders
    (ap (λ (t : TillValue). t.state.settings) done.0.accepts.inside) up (ap (λ (t : TillValue). t.state.line_up) done.0.accepts.inside ∙ up)
    done.2.is done.2.adds.durable.0 (subst (λ b. IsKept b (V.seen new.standing.device) (V.may_leave new.standing.device) new.standing.gate (both_in new.standing)) whole c.till.ensures.kept) served)
