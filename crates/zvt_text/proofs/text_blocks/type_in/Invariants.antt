use Rattle.std.proofs.Common.{◌≡◌}
use Rattle.zvt_text.specs.TextBlocks.{type_in}
use Rattle.zvt_text.proofs.text_blocks.type_in.Given as goal

abbrev pub invariant-loop-object : goal.invariant-loop-object
invariant-loop-object l = type_in l.object-iterator ≡ type_in l.initial.object-iterator
