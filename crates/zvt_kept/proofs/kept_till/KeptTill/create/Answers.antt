use Rattle.std.proofs.Common.{◌++◌, ℕ, List, ap, subst, ◌∙◌}
use Rattle.zvt_journal.specs.Device.{LeavesOnly}
use Rattle.zvt_journal.specs.Text.{IsWithOrWithout}
use Rattle.zvt_till.specs.Settings.{settings_of}
use Rattle.zvt_till.specs.Till.{TillState}
use Rattle.zvt_settle.specs.Inside.{both_of}
use Rattle.zvt_settle.specs.Settling.{new_settling}
use Rattle.zvt_kept.specs.KeptTill.{HasCause}
use Rattle.zvt_kept.specs.Logs.{opening_of}
use Rattle.zvt_kept.proofs.Logged.{keeps_some}
use Rattle.zvt_kept.proofs.Begun.{begun, empty_text}
use Rattle.zvt_kept.proofs.kept_till.KeptTill.create.Goals as goal

pub returns-in-Err-clause-any_moment : goal.returns-in-Err-clause-any_moment
returns-in-Err-clause-any_moment g c =
    let V = g.D.Device in
    let adds = c.in-Err.ensures.adds in
    let none = empty_text (V.seen c.args.device) c.requires.at_gate in
    record {
      leaves = subst (λ (l : List ℕ). LeavesOnly V.moment V.left_since c.args.device c.keep_opening.new.journal.device (IsWithOrWithout l (opening_of (settings_of c.args.settings.now)))) none adds.leaves;
      repairable = adds.repairable;
    }

pub returns-in-Err-clause-cause : goal.returns-in-Err-clause-cause
returns-in-Err-clause-cause g c =
    let V = g.D.Device in
    subst (λ (n : ℕ). HasCause c.in-Err.why (V.faults c.args.device) (V.faults c.keep_opening.new.journal.device) n) c.in-Err.ensures.adds.stays c.in-Err.ensures.adds.cause

pub returns-clause-any_moment : goal.returns-clause-any_moment
returns-clause-any_moment g c =
    let V = g.D.Device in
    let adds = c.in_default.ensures.adds in
    let none = empty_text (V.seen c.args.device) c.requires.at_gate in
    record {
      leaves = subst (λ (l : List ℕ). LeavesOnly V.moment V.left_since c.args.device c.keep_opening.new.journal.device (IsWithOrWithout l (opening_of (settings_of c.args.settings.now)))) none adds.leaves;
      repairable = adds.repairable;
    }

pub invariant_of-result : goal.invariant_of-result
invariant_of-result g c =
    let V = g.D.Device in
    let new = c.keep_opening.new.journal in
    let durable = c.in_default.ensures.adds.durable in
    let text = durable.0 ∙ ap (λ (l : List ℕ). l ++ opening_of (settings_of c.args.settings.now)) (empty_text (V.seen c.args.device) c.requires.at_gate) in
    keeps_some (settings_of c.args.settings.now) _ (V.seen new.device) (V.may_leave new.device) new.gate (both_of c.new-till.result)
    (begun (settings_of c.args.settings.now) (V.seen new.device) (V.may_leave new.device) new.gate (both_of c.new-till.result) durable.1 text c.in_default.ensures.kept (c.new-till.ensures.both ∙ ap (λ (s : TillState). record { till = s; settling = new_settling }) c.with_settings.ensures.state))

pub returns-clause-log : goal.returns-clause-log
returns-clause-log g c =
    let V = g.D.Device in
    let new = c.keep_opening.new.journal in
    let durable = c.in_default.ensures.adds.durable in
    let text = durable.0 ∙ ap (λ (l : List ℕ). l ++ opening_of (settings_of c.args.settings.now)) (empty_text (V.seen c.args.device) c.requires.at_gate) in
    begun (settings_of c.args.settings.now) (V.seen new.device) (V.may_leave new.device) new.gate (both_of c.new-till.result) durable.1 text c.in_default.ensures.kept (c.new-till.ensures.both ∙ ap (λ (s : TillState). record { till = s; settling = new_settling }) c.with_settings.ensures.state)
