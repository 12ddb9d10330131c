use Rattle.std.proofs.Common.{[], ◌∷◌, ◌++◌, sym, ap, subst, ◌∙◌}
use Rattle.zvt_till.specs.declared.happenings.Happening.TheVariants.{Lost}
use Rattle.zvt_till.specs.Settings.{settings_of}
use Rattle.zvt_till.specs.Sending.{Settings}
use Rattle.zvt_journal.specs.Text.{recovered}
use Rattle.zvt_service.specs.Service.{HasPast, state_of}
use Rattle.zvt_service.proofs.Living.{down_after, own_settings, past_opened}
use Rattle.zvt_service.proofs.service.Service.open.Goals as goal

pub invariant_of-result : goal.invariant_of-result
invariant_of-result g c = λ whole.
    let V = g.D.Device in
    let settings = settings_of c.args.settings.now in
    let new = c.in_ok-till.field-0.till in
    let is = c.in_ok-till.ensures.till in
    subst (λ (s : Settings). HasPast s (recovered (V.seen new.standing.device)) (state_of new).line_up c.in_ok-till.field-0.orders) (sym (own_settings settings (is.log ++ Lost ∷ []) (state_of new) is.stands))
    (subst (λ text. HasPast settings text (state_of new).line_up c.in_ok-till.field-0.orders) (sym (ap (λ d. recovered (V.seen d)) c.in_ok-till.ensures.device.0 ∙ c.requires.text))
    (past_opened settings c.args.text.now (state_of new).line_up c.in_ok-till.field-0.orders (down_after settings is.log (state_of new) is.stands) c.in_ok-till.ensures.orders))
