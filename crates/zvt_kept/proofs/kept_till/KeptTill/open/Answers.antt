use Rattle.std.proofs.Common.{rules, length}
use Rattle.zvt_till.specs.Settings.{settings_of}
use Rattle.zvt_settle.specs.Inside.{both_of}
use Rattle.zvt_kept.proofs.Logged.{keeps_some}
use Rattle.zvt_kept.proofs.Recovering.{opened_keeps}
use Rattle.zvt_kept.proofs.kept_till.KeptTill.open.Goals as goal

pub invariant_of-till : goal.invariant_of-till
invariant_of-till g c =
    let V = g.D.Device in
    let settings = settings_of c.args.settings.now in
    let r = c.in_ok-till.ensures.till in
    keeps_some settings r.log (V.seen c.args.device) (V.may_leave c.args.device) (length c.args.text.now) (both_of c.in_ok-till.field-0.till)
    (opened_keeps settings (V.seen c.args.device) c.args.text.now (V.may_leave c.args.device) (length c.args.text.now) (both_of c.in_ok-till.field-0.till) c.requires.settled c.requires.text r c.in_ok-till.ensures.settling r.log r.recorded)

pub returns-clause-log : goal.returns-clause-log
returns-clause-log g c =
    let V = g.D.Device in
    opened_keeps (settings_of c.args.settings.now) (V.seen c.args.device) c.args.text.now (V.may_leave c.args.device) (length c.args.text.now) (both_of c.in_ok-till.field-0.till) c.requires.settled c.requires.text c.in_ok-till.ensures.till c.in_ok-till.ensures.settling

pub returns-clause-device : goal.returns-clause-device
returns-clause-device c = search rules
