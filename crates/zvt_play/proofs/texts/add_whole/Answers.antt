use Rattle.std.proofs.Common.{length, rules, subst, take}
use Rattle.zvt_grammar.specs.Lengths.{reading_of}
use Rattle.zvt_text.specs.MessageTexts.{said}
use Rattle.zvt_text.specs.TextOptions.{safe_text}
use Rattle.zvt_text.specs.Writing.{Adds}
use Rattle.zvt_text.specs.declared.text_options.TextOptions.{TextOptions}
use Rattle.zvt_play.specs.DifferenceTexts.{unread_text}
use Rattle.zvt_play.proofs.TextLemmas.{added, lent_whole, never_more, on_ok, refused_whole}
use Rattle.zvt_play.proofs.texts.add_whole.Goals as goal

pub returns-in-Some : goal.returns-in-Some
returns-in-Some c =
    let fed = rw c.in-Ok-Message.field-0-is at c.in-Ok-Message.ensures.fed in
    added c.message.result _ _ _ (subst (λ (o : TextOptions). Adds c.message.result c.args.text.now c.message.new.text (said o c.in-Some.apdu)) c.safe.ensures c.message.ensures)
    (λ end. (said safe_text c.in-Some.apdu, lent_whole c.args.form.passes (reading_of c.args.form.lengths) c.of-stream.result c.feed_view.new.self c.args.bytes.now _ c.in-Some.apdu c.of-stream.ensures c.requires fed (search rules), end))

pub unreachable-requires-in-Ok-More : goal.unreachable-requires-in-Ok-More
unreachable-requires-in-Ok-More c =
    let fed = rw c.in-Ok-More.field-0-is at c.in-Ok-More.ensures.fed in
    never_more c.args.form.passes (reading_of c.args.form.lengths) c.of-stream.result c.feed_view.new.self c.args.bytes.now c.of-stream.ensures c.requires fed

pub returns-in-Ok-Refused : goal.returns-in-Ok-Refused
returns-in-Ok-Refused c =
    let fed = rw c.in-Ok-Refused.field-0-is at c.in-Ok-Refused.ensures.fed in
    on_ok c.add_unread.result _ _ c.add_unread.ensures
    (λ end. (unread_text (take 2 c.args.bytes.now) (length c.args.bytes.now) c.in-Ok-Refused.place c.in-Ok-Refused.why, refused_whole c.args.form.passes (reading_of c.args.form.lengths) c.of-stream.result c.feed_view.new.self c.args.bytes.now c.in-Ok-Refused.place c.in-Ok-Refused.why c.of-stream.ensures c.requires fed, end))
