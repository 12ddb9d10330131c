use Rattle.std.proofs.Common.{codes, List, ℕ, ◌≡◌, ◌++◌, ◌∙◌, ap}
use Rattle.zvt_till.specs.Names.{cause_name}
use Rattle.zvt_runs.specs.BookObjects.{currency_part}
use Rattle.zvt_runs.proofs.Parts.{one_more, then_part}
use Rattle.zvt_runs.proofs.book_objects.say_cause.Goals as goal

pub returns : goal.returns
returns c =
    let old = c.args.text.now in
    let cause : c.word-2.new.self ≡ c.word.new.self ++ cause_name c.args.cause = c.in_ok-word-2.ensures ∙ ap (λ (l : List ℕ). c.word.new.self ++ l) (c.as_bytes.ensures.value ∙ c.name.ensures) in
    let one = one_more old c.word.new.self c.word-2.new.self (codes ",\"cause\":\"") (cause_name c.args.cause) c.in_ok-word.ensures cause in
    let two = one_more old c.word-2.new.self c.word-3.new.self _ (codes "\",") one c.in_ok-word-3.ensures in
    then_part c.say_currency.result old c.word-3.new.self c.say_currency.new.text _ (currency_part c.args.currency) two c.say_currency.ensures
