use Rattle.std.proofs.Common.{◌≡◌, ◌-◌, length, slice_get}
use Rattle.zvt_text.specs.TextBlocks.{text_lines}
use Rattle.zvt_text.proofs.text_blocks.text_at.Given as goal

abbrev pub invariant-loop-text : goal.invariant-loop-text
invariant-loop-text l = record {
  found : slice_get (text_lines l.text-iterator) l.skip ≡ slice_get (text_lines l.initial.text-iterator) l.initial.skip;
  left : l.skip - length (text_lines l.text-iterator) ≡ l.initial.skip - length (text_lines l.initial.text-iterator);
}
