use Rattle.std.proofs.Common.{◌≡◌, ◌++◌, map}
use Rattle.zvt_text.specs.TextBlocks.{text_lines}
use Rattle.zvt_text.proofs.text_blocks.add_texts.Given as goal

abbrev pub invariant-loop-text : goal.invariant-loop-text
invariant-loop-text l = map (λ line. line.now) l.lines.items ++ text_lines l.text-iterator ≡ map (λ line. line.now) l.initial.lines.items ++ text_lines l.initial.text-iterator
