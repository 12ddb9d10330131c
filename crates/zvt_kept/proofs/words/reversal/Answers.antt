use Rattle.std.proofs.Common.{ℕ, ◌-◌, None, ap, option_map, ◌∙◌}
use Rattle.zvt_till.specs.declared.orders.Order.TheVariants.{Reverse}
use Rattle.zvt_kept.specs.Reading.{kept_of}
use Rattle.zvt_kept.proofs.WordLemmas.{by_number}
use Rattle.zvt_kept.proofs.words.reversal.Goals as goal

pub returns-in_err-number : goal.returns-in_err-number
returns-in_err-number c =
    ap (option_map kept_of) c.from_residual-in_err-number.ensures
    ∙ by_number (λ (n : ℕ). Reverse (n - 1)) c.args.tail.now c.in_ok-digits.digits.now c.in_ok-digits.note c.in_ok-digits.ensures None c.in_err-number.ensures.number
