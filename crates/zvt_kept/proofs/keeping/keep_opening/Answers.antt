use Rattle.std.proofs.Common.{ℕ, ◌^◌, ◌≤◌, List, length, subst, sym, ◌∙◌}
use Rattle.zvt_journal.specs.Text.{IsRecord}
use Rattle.zvt_till.specs.Settings.{settings_of}
use Rattle.zvt_kept.specs.Logs.{opening_of}
use Rattle.zvt_kept.specs.KeptTill.{Adds}
use Rattle.zvt_kept.proofs.Kept.{text_added, text_is, unadded}
use Rattle.zvt_kept.proofs.Reserved.{added_after, nothing_added}
use Rattle.zvt_kept.proofs.keeping.keep_opening.Goals as goal

pub returns-in_err-put_opening-clause-adds : goal.returns-in_err-put_opening-clause-adds
returns-in_err-put_opening-clause-adds g c =
    let journal = c.args.journal.now in
    unadded g.D.Device.seen g.D.Device.may_leave g.D.Device.moment g.D.Device.left_since g.D.Device.faults journal.device journal.gate (opening_of (settings_of c.args.settings.now)) c.from_residual.result c.from_residual.ensures.1 (g.met.D.Device.only_now journal.device) c.requires

-- no space was there
pub returns-in_err-reserve-clause-adds : goal.returns-in_err-reserve-clause-adds
returns-in_err-reserve-clause-adds g c =
    let V = g.D.Device in
    let old = c.args.journal.now in
    let new = c.reserve.new.self in
    nothing_added V.seen V.may_leave V.moment V.left_since V.faults old.device new.device (opening_of (settings_of c.args.settings.now)) old.gate new.gate c.from_residual-in_err-reserve.result c.from_residual-in_err-reserve.ensures.1
    c.requires c.reserve.ensures.gate c.in_err-reserve.ensures.cause c.reserve.ensures.any_moment

pub append-requires-clause-entry : goal.append-requires-clause-entry
append-requires-clause-entry g c =
    subst IsRecord (sym (text_is c.bytes.result.now c.new-text.result _ (c.bytes.ensures ∙ c.in_ok-put_opening.ensures.written) c.new-text.ensures)) c.put_opening.ensures.taken

pub returns-clause-adds : goal.returns-clause-adds
returns-clause-adds g c =
    let V = g.D.Device in
    let first = c.args.journal.now in
    let old = c.reserve.new.self in
    let new = c.append.new.self in
    let text = text_is c.bytes.result.now c.new-text.result _ (c.bytes.ensures ∙ c.in_ok-put_opening.ensures.written) c.new-text.ensures in
    added_after V.seen V.may_leave V.moment V.left_since V.faults first.device old.device new.device (opening_of (settings_of c.args.settings.now)) first.gate old.gate new.gate c.append.result
    c.requires c.reserve.ensures.seen c.reserve.ensures.gate c.reserve.ensures.faults c.reserve.ensures.any_moment
    (subst (λ (t : List ℕ). Adds g.D.Device.seen g.D.Device.may_leave g.D.Device.moment g.D.Device.left_since g.D.Device.faults t old.device new.device old.gate new.gate c.append.result) text
    (text_added g.D.Device.seen g.D.Device.may_leave g.D.Device.moment g.D.Device.left_since g.D.Device.faults old.device new.device old.gate new.gate c.bytes.result.now c.append.result (subst (λ (t : List ℕ). length t ≤ 2 ^ 18) (sym text) c.put_opening.ensures.short)
    c.append.ensures.settled c.append.ensures.acknowledged c.append.ensures.any_moment c.append.ensures.repairable c.append.ensures.faults c.append.ensures.failed c.append.ensures.full c.append.ensures.gate))
