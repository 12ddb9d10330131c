use Rattle.std.proofs.Common.{subst, sym, ◌∙◌}
use Rattle.zvt_journal.specs.Text.{IsRecord}
use Rattle.zvt_kept.specs.Records.{asked}
use Rattle.zvt_kept.proofs.Kept.{appended, ask_noted, text_is, unrecorded}
use Rattle.zvt_kept.proofs.Made.{records_are_taken}
use Rattle.zvt_kept.proofs.Short.{ask_short}
use Rattle.zvt_kept.proofs.keeping.keep_ask.Goals as goal

pub returns-in_err-put_ask-clause-recorded : goal.returns-in_err-put_ask-clause-recorded
returns-in_err-put_ask-clause-recorded g c =
    let journal = c.args.journal.now in
    unrecorded g.D.Device.seen g.D.Device.may_leave g.D.Device.moment g.D.Device.left_since g.D.Device.faults journal.device journal.gate (asked c.args.note.now) _ c.from_residual.result c.from_residual.ensures.1
    c.put_ask.ensures.kept (g.met.D.Device.only_now journal.device) c.requires.settled

pub append-requires-clause-entry : goal.append-requires-clause-entry
append-requires-clause-entry g c =
    subst IsRecord (sym (text_is c.bytes.result.now c.new-text.result _ (c.bytes.ensures ∙ c.in_ok-put_ask.ensures.written) c.new-text.ensures)) (records_are_taken (asked c.args.note.now) _ c.put_ask.ensures.kept)

pub returns-clause-recorded : goal.returns-clause-recorded
returns-clause-recorded g c =
    let old = c.args.journal.now in
    let new = c.append.new.self in
    appended g.D.Device.seen g.D.Device.may_leave g.D.Device.moment g.D.Device.left_since g.D.Device.faults old.device new.device old.gate new.gate (asked c.args.note.now) _ c.bytes.result.now c.append.result
    (text_is c.bytes.result.now c.new-text.result _ (c.bytes.ensures ∙ c.in_ok-put_ask.ensures.written) c.new-text.ensures) c.put_ask.ensures.kept
    (ask_short c.args.note.now c.put_ask.ensures.few)
    c.append.ensures.settled c.append.ensures.acknowledged c.append.ensures.any_moment c.append.ensures.repairable c.append.ensures.faults c.append.ensures.failed c.append.ensures.full c.append.ensures.gate

pub returns-clause-noted : goal.returns-clause-noted
returns-clause-noted g c =
    ask_noted g.D.Device.seen c.args.journal.now.device c.append.new.self.device c.args.note.now c.bytes.result.now c.append.result
    (text_is c.bytes.result.now c.new-text.result _ (c.bytes.ensures ∙ c.in_ok-put_ask.ensures.written) c.new-text.ensures) c.append.ensures.acknowledged
