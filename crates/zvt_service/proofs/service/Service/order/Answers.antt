use Rattle.std.proofs.Common.{◌≡◌, List, Option, Some, false, is_some, sym, ap, subst, ◌∙◌}
use Rattle.zvt_till.specs.Till.{TillState}
use Rattle.zvt_till.specs.View.{TillValue}
use Rattle.zvt_till.proofs.BookStepLemmas.{settings-accepted}
use Rattle.zvt_journal.specs.declared.device.DeviceError.{DeviceError}
use Rattle.zvt_journal.specs.Text.{recovered}
use Rattle.zvt_kept.specs.declared.past_orders.PastOrder.{PastOrder}
use Rattle.zvt_kept.specs.KeptTill.{IsKept, KeptValue, Standing, both_in, has_failed}
use Rattle.zvt_kept.specs.PastOrders.{followed, held}
use Rattle.zvt_kept.specs.Records.{ordered}
use Rattle.zvt_kept.proofs.RunsOutlived.{accept_up}
use Rattle.zvt_kept.proofs.Steps.{taken_up}
use Rattle.zvt_service.specs.Service.{HasPast, state_of}
use Rattle.zvt_service.proofs.Living.{recorded_on}
use Rattle.zvt_service.proofs.service.Service.order.Goals as goal

pub invariant_of-self-in-Ok : goal.invariant_of-self-in-Ok
invariant_of-self-in-Ok g c = λ whole.
    let V = g.D.Device in
    let order = c.args.order.now in
    let old = c.note_next.new.self in
    let same : old.standing ≡ c.self.inside.kept.standing = ap (λ (k : KeptValue g.row.D.Denot). k.standing) c.note_next.ensures in
    let new = c.order.new.self in
    let done = c.in-Ok.ensures.0 in
    let note : old.note ≡ c.args.note.now = ap (λ (k : KeptValue g.row.D.Denot). k.note) c.note_next.ensures ∙ c.copied.ensures in
    let was : has_failed c.self.inside.kept ≡ false = ap (λ (f : Option DeviceError). is_some f) (sym (done.1 ∙ ap (λ (k : KeptValue g.row.D.Denot). k.failure) c.note_next.ensures)) ∙ whole in
    let served = subst (λ (s : Standing g.row.D.Denot). HasPast s.till.state.settings (recovered (V.seen s.device)) s.till.state.line_up c.self.inside.orders) (sym same) (c.self.invariant was) in
    let up = taken_up (state_of old) order done.0.taken in
    subst (λ (past : List PastOrder). HasPast (state_of new).settings (recovered (V.seen new.standing.device)) (state_of new).line_up past)
    (sym (c.follow.ensures ∙ ap (λ (t : TillValue). followed c.start.new.self t.state) c.till.ensures.till ∙ ap (λ (past : List PastOrder). followed past (state_of new)) (c.in_ok-start.ensures.ok ∙ ap (λ n. held c.self.inside.orders (ordered order n)) (sym note))))
    (recorded_on (state_of old) (both_in new.standing) (V.seen old.standing.device) (V.seen new.standing.device) (V.may_leave new.standing.device) new.standing.gate (ordered order old.note) done.3.added c.self.inside.orders
    (ap (λ (s : TillState). s.settings) done.0.runs ∙ settings-accepted (state_of old) (Some order)) up (ap (λ (s : TillState). s.line_up) done.0.runs ∙ accept_up (state_of old) order up)
    done.3.is done.3.adds.durable.0 (subst (λ b. IsKept b (V.seen new.standing.device) (V.may_leave new.standing.device) new.standing.gate (both_in new.standing)) whole c.till.ensures.kept) served)
