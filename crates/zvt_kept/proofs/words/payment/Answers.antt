use Rattle.std.proofs.Common.{None, ap, option_map, ◌∙◌}
use Rattle.zvt_till.specs.declared.orders.Order.TheVariants.{Pay}
use Rattle.zvt_kept.specs.Reading.{kept_of}
use Rattle.zvt_kept.proofs.WordLemmas.{by_number}
use Rattle.zvt_kept.proofs.words.payment.Goals as goal

pub returns-in_err-amount : goal.returns-in_err-amount
returns-in_err-amount c =
    ap (option_map kept_of) c.from_residual-in_err-amount.ensures
    ∙ by_number Pay c.args.tail.now c.in_ok-digits.digits.now c.in_ok-digits.note c.in_ok-digits.ensures None c.in_err-amount.ensures
