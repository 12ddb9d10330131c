use Rattle.std.proofs.Common.{List, [], sym, ap, subst}
use Rattle.zvt_till.specs.Settings.{settings_of}
use Rattle.zvt_till.specs.Sending.{Settings}
use Rattle.zvt_journal.specs.Text.{recovered}
use Rattle.zvt_kept.specs.declared.past_orders.PastOrder.{PastOrder}
use Rattle.zvt_settle.specs.Settling.{Both}
use Rattle.zvt_service.specs.Service.{HasPast, state_of}
use Rattle.zvt_service.proofs.Living.{none_in_new}
use Rattle.zvt_service.proofs.service.Service.create.Goals as goal

pub invariant_of-result : goal.invariant_of-result
invariant_of-result g c = λ whole.
    let V = g.D.Device in
    let settings = settings_of c.args.settings.now in
    let new = c.in_ok-kept.kept in
    let keeps = c.in_ok-kept.ensures.log in
    subst (λ (past : List PastOrder). HasPast (state_of new).settings (recovered (V.seen new.standing.device)) (state_of new).line_up past) (sym c.new.ensures)
    (subst (λ (s : Settings). HasPast s (recovered (V.seen new.standing.device)) (state_of new).line_up []) (sym (ap (λ (b : Both). b.till.settings) c.in_ok-kept.ensures.till))
    (none_in_new settings (recovered (V.seen new.standing.device)) (state_of new).line_up keeps.recorded))
