use Rattle.std.proofs.Common.{◌≡◌, ◌++◌, map}
use Rattle.zvt_text.specs.TextBlocks.{block_lines}
use Rattle.zvt_text.proofs.text_blocks.text_block.Given as goal

abbrev pub invariant-loop-field : goal.invariant-loop-field
invariant-loop-field l = map (λ line. line.now) l.lines.items ++ block_lines l.field-iterator ≡ map (λ line. line.now) l.initial.lines.items ++ block_lines l.initial.field-iterator
