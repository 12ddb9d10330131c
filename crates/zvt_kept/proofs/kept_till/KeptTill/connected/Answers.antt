use Rattle.std.specs.Prelude.{Err}
use Rattle.std.proofs.Common.{◌≡◌, Some, is_some, false, inr, refl, sym, ap, ◌∙◌, subst}
use Rattle.zvt_till.specs.View.{TillValue}
use Rattle.zvt_settle.specs.Inside.{settling_of}
use Rattle.zvt_settle.specs.Settling.{Both}
use Rattle.zvt_kept.specs.Records.{lost}
use Rattle.zvt_kept.specs.KeptTill.{FailsOnlyBy, KeptValue, NewLine, Outlives, Standing, Writes, has_failed, line_changed, standing_of}
use Rattle.zvt_journal.specs.Text.{recovered}
use Rattle.zvt_kept.proofs.Logged.{lost_can, outlives}
use Rattle.zvt_kept.proofs.Made.{records_are_kept}
use Rattle.zvt_kept.proofs.Steps.{kept_on, logs_line}
use Rattle.zvt_kept.proofs.kept_till.KeptTill.connected.Goals as goal

pub returns-in-Err : goal.returns-in-Err
returns-in-Err g c =
    let V = g.D.Device in
    let k = c.self.inside in
    let old : Standing g.row.D.Denot = standing_of k.till k.journal.device k.journal.gate in
    let new : Standing g.row.D.Denot = standing_of k.till c.keep_lost.new.journal.device c.keep_lost.new.journal.gate in
    let kept = c.keep_lost.ensures in
    inr
    (subst (λ (v : KeptValue g.row.D.Denot). (has_failed v ≡ false) × (Some c.in-Err.why ≡ Some c.in-Err.why) × (k.till.till ≡ v.standing.till) × (settling_of k.till ≡ v.standing.settling) × FailsOnlyBy V.seen V.may_leave V.moment V.left_since V.faults c.in-Err.why v.standing new × (new.gate ≡ v.standing.gate) × Outlives V.seen V.may_leave V.moment V.left_since V.faults (line_changed V.seen V.may_leave V.moment V.left_since V.faults) v.standing new × Writes V.seen V.may_leave V.moment V.left_since V.faults lost v.standing new (Err c.in-Err.why)) c.self.view_is
    (sym c.is_some.ensures ∙ c.if-is_some.false, refl, refl, refl, c.in-Err.ensures.adds.cause, c.in-Err.ensures.adds.stays, outlives records_are_kept V.seen V.may_leave V.moment V.left_since V.faults old new lost kept.added (line_changed V.seen V.may_leave V.moment V.left_since V.faults) kept.is (λ settings. refl) (λ settings log has. lost_can settings (recovered (V.seen old.device)) log has.recorded) kept.adds.leaves, c.in-Err.ensures))

pub invariant_of-self-2 : goal.invariant_of-self-2
invariant_of-self-2 g c =
    let V = g.D.Device in
    let k = c.self.inside in
    let old : Standing g.row.D.Denot = standing_of k.till k.journal.device k.journal.gate in
    let new : Standing g.row.D.Denot = standing_of c.connected.new.self c.keep_lost.new.journal.device c.keep_lost.new.journal.gate in
    let kept = c.in_default.ensures in
    let down = sym (ap (λ (t : TillValue). t.state.line_up) c.till.ensures) ∙ sym c.line_up.ensures ∙ c.if-line_up.false in
    kept_on V.seen V.may_leave V.moment V.left_since V.faults (is_some k.failure) (line_changed V.seen V.may_leave V.moment V.left_since V.faults) old new (sym c.is_some.ensures ∙ c.if-is_some.false)
    (logs_line V.seen V.may_leave V.moment V.left_since V.faults old new kept.added down c.connected.ensures.both kept.is kept.adds.durable.0 kept.adds.durable.1) c.self.invariant

pub returns : goal.returns
returns g c =
    let V = g.D.Device in
    let k = c.self.inside in
    let old : Standing g.row.D.Denot = standing_of k.till k.journal.device k.journal.gate in
    let new : Standing g.row.D.Denot = standing_of c.connected.new.self c.keep_lost.new.journal.device c.keep_lost.new.journal.gate in
    let kept = c.in_default.ensures in
    let down = sym (ap (λ (t : TillValue). t.state.line_up) c.till.ensures) ∙ sym c.line_up.ensures ∙ c.if-line_up.false in
    let made : NewLine V.seen V.may_leave V.moment V.left_since V.faults old new = record {
      state = c.connected.ensures.inside.0;
      settling = ap (λ (b : Both). b.settling) c.connected.ensures.both;
      numbers = c.connected.ensures.inside.2;
      heard = c.connected.ensures.inside.3;
      logs = logs_line V.seen V.may_leave V.moment V.left_since V.faults old new kept.added down c.connected.ensures.both kept.is kept.adds.durable.0 kept.adds.durable.1;
      outlives = outlives records_are_kept V.seen V.may_leave V.moment V.left_since V.faults old new lost kept.added (line_changed V.seen V.may_leave V.moment V.left_since V.faults) kept.is (λ settings. refl) (λ settings log has. lost_can settings (recovered (V.seen old.device)) log has.recorded) kept.adds.leaves;
      later = kept.adds.later;
      recorded = kept;
    } in
    inr
    (subst (λ (v : KeptValue g.row.D.Denot). (has_failed v ≡ false) × (is_some k.failure ≡ false) × NewLine V.seen V.may_leave V.moment V.left_since V.faults v.standing new) c.self.view_is
    (sym c.is_some.ensures ∙ c.if-is_some.false, sym c.is_some.ensures ∙ c.if-is_some.false, made))
