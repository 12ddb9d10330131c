use Rattle.std.proofs.Common.{◌≡◌}
use Rattle.zvt_text.specs.TextBlocks.{block_type}
use Rattle.zvt_text.proofs.text_blocks.block_type.Given as goal

abbrev pub invariant-loop-field : goal.invariant-loop-field
invariant-loop-field l = block_type l.field-iterator ≡ block_type l.initial.field-iterator
