use Rattle.std.proofs.Common.{arith, rules}
use Rattle.zvt_trace.proofs.SpelledLemmas.{no_text_left, odd_spells, pairs_spell}
use Rattle.zvt_trace.proofs.spelled.is_spelled.Goals as goal

pub returns-then-are_digits-clause-yes : goal.returns-then-are_digits-clause-yes
returns-then-are_digits-clause-yes c = λ even. pairs_spell c.args.text.now (c.are_digits.ensures c.if-are_digits.true) (grind (arith, even))

pub returns-then-are_digits-clause-no : goal.returns-then-are_digits-clause-no
returns-then-are_digits-clause-no c = λ odd. odd_spells c.args.text.now (c.are_digits.ensures c.if-are_digits.true) (grind (arith, odd))

pub returns-clause-yes : goal.returns-clause-yes
returns-clause-yes c = λ is. c.text.invariant.yes (no_text_left c.text.rest.now (search rules))
