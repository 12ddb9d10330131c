use Rattle.std.proofs.Common.{◌≡◌, slice_get}
use Rattle.zvt_text.specs.TextBlocks.{block_lines}
use Rattle.zvt_text.proofs.text_blocks.block_line.Given as goal

abbrev pub invariant-loop-field : goal.invariant-loop-field
invariant-loop-field l = slice_get (block_lines l.field-iterator) l.skip ≡ slice_get (block_lines l.initial.field-iterator) l.initial.skip
