use Rattle.std.proofs.Common.{sym}
use Rattle.zvt_text.proofs.TextBlockLemmas.{printed_first, printed_so_far}
use Rattle.zvt_text.proofs.text_blocks.add_printed.Goals as goal

pub loop-object-preserved-then-is_texts_tag : goal.loop-object-preserved-then-is_texts_tag
loop-object-preserved-then-is_texts_tag c =
    printed_so_far _ _ _ _ _ _ c.loop-object.invariant c.in_ok-add_texts-in-Some-children.ensures
    (printed_first c.loop-object.object-iterator c.next.new.self c.in-Some-children.texts c.in-Some.object c.in-Some.ensures.steps c.in-Some-children.ensures (sym c.if-is_texts_tag.ensures))
