use Rattle.std.proofs.Common.{ap, sym, slice_get, ◌∙◌}
use Rattle.zvt_tlv.specs.Grammar.{Objects}
use Rattle.zvt_text.specs.TextBlocks.{printed_lines, text_lines}
use Rattle.zvt_text.proofs.TextBlockLemmas.{line_first, line_rest, printed_first}
use Rattle.zvt_text.proofs.text_blocks.printed_at.Goals as goal

pub returns-then-is_some-clause-found : goal.returns-then-is_some-clause-found
returns-then-is_some-clause-found c =
    line_first c.text_at-found.result (printed_lines c.into_iter-object-iterator.result) (printed_lines c.loop-object.object-iterator) (text_lines c.in-Some-children.texts) (printed_lines c.next.new.self) c.args.skip.now c.loop-object.skip
    c.if-is_some.ensures c.text_at-found.ensures.found
    (printed_first c.loop-object.object-iterator c.next.new.self c.in-Some-children.texts c.in-Some.object c.in-Some.ensures.steps c.in-Some-children.ensures (sym c.if-is_texts_tag.ensures)) c.loop-object.invariant.found
    ∙ ap (λ (o : Objects). slice_get (printed_lines o) c.args.skip.now) c.into_iter-object-iterator.ensures.into_iter_gives

pub loop-object-preserved-then-is_texts_tag : goal.loop-object-preserved-then-is_texts_tag
loop-object-preserved-then-is_texts_tag c =
    let rest =
    line_rest c.text_at-found.result (printed_lines c.into_iter-object-iterator.result) (printed_lines c.loop-object.object-iterator) (text_lines c.in-Some-children.texts) (printed_lines c.next.new.self) c.args.skip.now c.loop-object.skip c.text_at-found.new.skip
    c.if-is_some.ensures c.text_at-found.ensures.found c.text_at-found.ensures.left
    (printed_first c.loop-object.object-iterator c.next.new.self c.in-Some-children.texts c.in-Some.object c.in-Some.ensures.steps c.in-Some-children.ensures (sym c.if-is_texts_tag.ensures)) c.loop-object.invariant.found c.loop-object.invariant.left in
    record { found = rest.0; left = rest.1 }
