use Rattle.std.proofs.Common.{inr}
use Rattle.zvt_stream.specs.LineReading.{reading_as}
use Rattle.zvt_play.specs.DifferenceTexts.{beginning_text}
use Rattle.zvt_play.proofs.TextLemmas.{more_begins, on_ok}
use Rattle.zvt_play.proofs.texts.add_bytes.Goals as goal

pub returns-in-Ok-More : goal.returns-in-Ok-More
returns-in-Ok-More c =
    let fed = rw c.in-Ok-More.field-0-is at c.in-Ok-More.ensures.fed in
    on_ok c.add_beginning.result _ _ c.add_beginning.ensures (λ end. (beginning_text c.args.bytes.now, inr (more_begins (reading_as c.args.form) c.reading-stream.result c.feed_view.new.self c.args.bytes.now c.reading-stream.ensures fed), end))
