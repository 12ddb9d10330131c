use Rattle.std.proofs.Common.{◌≡◌, ℕ, List, take, refl, subst, ap, ◌∙◌}
use Rattle.zvt_apdu.proofs.ViewLemmas.{message_loosened, spelled_bytes}
use Rattle.zvt_till.specs.declared.messages.Heard.{Heard}
use Rattle.zvt_till.specs.Hearing.{heard_as}
use Rattle.zvt_till.specs.Line.{Answers as IsAnswer}
use Rattle.zvt_till.specs.Sending.{reply_to}
use Rattle.zvt_c.proofs.Handed.{anew}
use Rattle.zvt_kept.specs.Records.{IsRecordOf, heard, heard_record}
use Rattle.zvt_c.specs.Records.{heard_whole, not_whole}
use Rattle.zvt_c.specs.Saving.{Written}
use Rattle.zvt_c.proofs.First.{has_bytes, whole_first}
use Rattle.zvt_c.proofs.records.zvt_record_heard.Goals as goal

pub returns-then-answer-ne-OK : goal.returns-then-answer-ne-OK
returns-then-answer-ne-OK c = not_whole c.zvt_scan.ensures c.if-answer-ne-OK.true refl refl

pub view-requires : goal.view-requires
view-requires c =
    let first = whole_first c.args.bytes.now c.zvt_scan.new.answer c.zvt_scan.ensures c.if-answer-ne-OK.false in
    spelled_bytes first.0 _ first.1.spelled

pub returns-in-Ok : goal.returns-in-Ok
returns-in-Ok c =
    let (message, found, says) = whole_first c.args.bytes.now c.zvt_scan.new.answer c.zvt_scan.ensures c.if-answer-ne-OK.false in
    let bytes = take c.zvt_scan.new.answer.size c.args.bytes.now in
    let shown : c.view.result ≡ message = c.view.ensures message (message_loosened message bytes found.spelled) in
    let meant : c.heard_view.result ≡ heard_as message = c.heard_view.ensures ∙ ap heard_as shown in
    let answered = c.answers_to-answers.result in
    let text : c.bytes-in-Ok.result.now ≡ heard_record bytes c.bytes.result.now = c.bytes-in-Ok.ensures ∙ anew c.put_heard.new.text c.new-text.result _ c.in-Ok.ensures.written c.new-text.ensures in
    heard_whole message c.zvt_scan.new.answer.size answered found says
    (subst (λ (h : Heard). IsAnswer (reply_to h) answered) meant c.answers_to-answers.ensures.answers)
    (subst (λ (answers : List ℕ). IsRecordOf (heard bytes) (heard_record bytes answers)) c.bytes.ensures (c.put_heard.ensures.kept (has_bytes c.args.bytes.now message c.zvt_scan.new.answer.size found)))
    (subst (λ (record_text : List ℕ). Written record_text c.put.result c.args.buffer.now c.put.new.buffer) (text ∙ ap (heard_record bytes) c.bytes.ensures) c.put.ensures)
