use Rattle.std.proofs.Common.{◌≡◌, ◌++◌, map}
use Rattle.zvt_text.specs.TextBlocks.{printed_lines}
use Rattle.zvt_text.proofs.text_blocks.add_printed.Given as goal

abbrev pub invariant-loop-object : goal.invariant-loop-object
invariant-loop-object l = map (λ line. line.now) l.lines.items ++ printed_lines l.object-iterator ≡ map (λ line. line.now) l.initial.lines.items ++ printed_lines l.initial.object-iterator
