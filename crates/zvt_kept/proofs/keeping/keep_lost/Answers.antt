use Rattle.std.proofs.Common.{refl, subst, sym, ◌∙◌}
use Rattle.zvt_journal.specs.Text.{IsRecord}
use Rattle.zvt_kept.specs.Records.{lost, lost_record}
use Rattle.zvt_kept.proofs.Kept.{appended, text_is, unrecorded}
use Rattle.zvt_kept.proofs.Made.{records_are_taken}
use Rattle.zvt_kept.proofs.Short.{lost_short}
use Rattle.zvt_kept.proofs.keeping.keep_lost.Goals as goal

pub returns-in_err-put_lost : goal.returns-in_err-put_lost
returns-in_err-put_lost g c =
    let journal = c.args.journal.now in
    unrecorded g.D.Device.seen g.D.Device.may_leave g.D.Device.moment g.D.Device.left_since g.D.Device.faults journal.device journal.gate lost lost_record c.from_residual.result c.from_residual.ensures.1
    refl (g.met.D.Device.only_now journal.device) c.requires

pub append-requires-clause-entry : goal.append-requires-clause-entry
append-requires-clause-entry g c =
    subst IsRecord (sym (text_is c.bytes.result.now c.new-text.result _ (c.bytes.ensures ∙ c.in_ok-put_lost.ensures) c.new-text.ensures)) (records_are_taken lost lost_record refl)

pub returns : goal.returns
returns g c =
    let old = c.args.journal.now in
    let new = c.append.new.self in
    appended g.D.Device.seen g.D.Device.may_leave g.D.Device.moment g.D.Device.left_since g.D.Device.faults old.device new.device old.gate new.gate lost lost_record c.bytes.result.now c.append.result
    (text_is c.bytes.result.now c.new-text.result _ (c.bytes.ensures ∙ c.in_ok-put_lost.ensures) c.new-text.ensures) refl lost_short
    c.append.ensures.settled c.append.ensures.acknowledged c.append.ensures.any_moment c.append.ensures.repairable c.append.ensures.faults c.append.ensures.failed c.append.ensures.full c.append.ensures.gate
