use Rattle.std.proofs.Common.{◌≡◌, List, [], ℕ, sym, subst, ap, ◌∙◌}
use Rattle.zvt_kept.specs.Reading.{Extends}
use Rattle.zvt_kept.specs.Records.{IsRecordOf, ordered, order_record}
use Rattle.zvt_c.specs.Records.{masked_bytes, recorded}
use Rattle.zvt_c.proofs.Handed.{handed}
use Rattle.zvt_c.proofs.Masked.{masks}
use Rattle.zvt_c.proofs.records.zvt_record_order.Goals as goal

pub returns-in_default-clause-masked : goal.returns-in_default-clause-masked
returns-in_default-clause-masked c = masks c.args.sent.now

pub returns-in_default-note_of-clause-masked : goal.returns-in_default-note_of-clause-masked
returns-in_default-note_of-clause-masked c = masks c.args.sent.now

pub returns-then-sent-gt-MAX_BRIEF_LEN-clause-masked :
    goal.returns-then-sent-gt-MAX_BRIEF_LEN-clause-masked
returns-then-sent-gt-MAX_BRIEF_LEN-clause-masked c = masks c.args.sent.now

pub returns-clause-masked : goal.returns-clause-masked
returns-clause-masked c = masks c.args.sent.now

pub returns-clause-record : goal.returns-clause-record
returns-clause-record c =
    let written = c.put_order-written in
    let order = c.in-Some.order in
    let note = c.in-Some-note_of.note in
    let same : c.mask.new.message ≡ masked_bytes c.args.sent.now = c.mask.ensures ∙ ap masked_bytes c.copy_from_slice.ensures.after in
    let kept = written.ensures.kept c.in-Some.ensures.spelled in
    let begun = subst (λ (old : List ℕ). Extends written.result old written.new.text (order_record order note c.mask.new.message)) c.new-text.ensures written.ensures.written in
    recorded order note (sym c.in-Some.ensures.order) (sym c.in-Some-note_of.ensures) c.if-sent-gt-MAX_BRIEF_LEN.false
    (subst (λ (bytes : List ℕ). IsRecordOf (ordered order note) (order_record order note bytes)) same kept)
    (handed written.result _ _ _ _ _ (subst (λ (bytes : List ℕ). Extends written.result [] written.new.text (order_record order note bytes)) same begun) c.hand_out.ensures)
