use Rattle.std.proofs.Common.{codes, List, ℕ, ◌∷◌, [], ◌++◌}
use Rattle.std.specs.Fmt.{decimal}
use Rattle.zvt_runs.specs.BookObjects.{currency_part}
use Rattle.zvt_runs.proofs.Parts.{one_more, two_parts}
use Rattle.zvt_runs.proofs.book_objects.say_number.Goals as goal

pub returns : goal.returns
returns c =
    let old = c.args.text.now in
    let currency = currency_part c.args.currency in
    let one = one_more old c.push.new.self c.say_currency.new.text (44 ∷ []) currency c.in_ok-push.ensures c.in_ok-say_currency.ensures in
    let two = one_more old c.say_currency.new.text c.word.new.self (44 ∷ currency) (codes ",\"number\":") one c.in_ok-word.ensures in
    two_parts c.number.result old c.word.new.self c.number.new.self _ (decimal c.args.number) two c.number.ensures
