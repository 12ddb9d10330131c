use Rattle.std.proofs.Common.{◌≡◌, ◌-◌, length, slice_get}
use Rattle.zvt_text.specs.TextBlocks.{printed_lines}
use Rattle.zvt_text.proofs.text_blocks.printed_at.Given as goal

abbrev pub invariant-loop-object : goal.invariant-loop-object
invariant-loop-object l = record {
  found : slice_get (printed_lines l.object-iterator) l.skip ≡ slice_get (printed_lines l.initial.object-iterator) l.initial.skip;
  left : l.skip - length (printed_lines l.object-iterator) ≡ l.initial.skip - length (printed_lines l.initial.object-iterator);
}
