use Rattle.std.proofs.Common.{codes, [], ◌∷◌}
use Rattle.zvt_text.specs.MessageTexts.{four_digits}
use Rattle.zvt_runs.proofs.Parts.{three_parts}
use Rattle.zvt_runs.proofs.book_objects.say_currency.Goals as goal

pub returns : goal.returns
returns c =
    three_parts c.push.result c.args.text.now c.word.new.self c.currency_digits.new.text c.push.new.self (codes "\"currency\":\"") (four_digits c.args.currency) (34 ∷ []) c.in_ok-word.ensures
    c.in_ok-currency_digits.ensures c.push.ensures
