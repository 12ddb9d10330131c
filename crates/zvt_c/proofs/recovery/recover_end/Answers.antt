use Rattle.std.proofs.Common.{Ok, Err, refl, subst, ap, ◌∙◌}
use Rattle.zvt_till.specs.Sending.{Settings}
use Rattle.zvt_till.specs.View.{TillValue}
use Rattle.zvt_settle.specs.Inside.{both_of}
use Rattle.zvt_kept.specs.Recovery.{HasSettled, Recovers}
use Rattle.zvt_c.specs.Recovering.{recovered, refused}
use Rattle.zvt_c.proofs.recovery.recover_end.Goals as goal

pub returns-in-Err : goal.returns-in-Err
returns-in-Err c =
    let same = c.settings.ensures ∙ ap (λ (till : TillValue). till.state.settings) c.till.ensures in
    refused c.in-Err.why (subst (λ (settings : Settings). Recovers settings c.args.text.now (Err c.in-Err.why)) same c.in-Err.ensures.till) refl c.unrecovered.ensures

pub returns-in-Ok : goal.returns-in-Ok
returns-in-Ok c =
    let same = c.settings.ensures ∙ ap (λ (till : TillValue). till.state.settings) c.till.ensures in
    recovered (subst (λ (settings : Settings). Recovers settings c.args.text.now (Ok c.in-Ok.recovered.till.till)) same c.in-Ok.ensures.till)
    (subst (λ (settings : Settings). HasSettled settings c.args.text.now (both_of c.in-Ok.recovered.till)) same c.in-Ok.ensures.settling)
    c.new.ensures c.none-end.ensures c.bare.ensures
