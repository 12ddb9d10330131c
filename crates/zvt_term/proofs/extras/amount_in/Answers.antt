use Rattle.std.proofs.Common.{◌∙◌, ap}
use Rattle.zvt_field.specs.Named.{positive}
use Rattle.zvt_field.proofs.NamedLemmas.{amount_small, made_positive}
use Rattle.zvt_term.proofs.AmountLemmas.{digits_amount}
use Rattle.zvt_term.proofs.extras.amount_in.Goals as goal

pub returns-then-is_digits : goal.returns-then-is_digits
returns-then-is_digits c =
    let small = amount_small c.args.digits.now c.number.result c.number.ensures.bound c.requires in
    made_positive c.new.result c.number.result (λ le. c.new.ensures.given.1 (le, small)) (λ some. (c.new.ensures.given.0 some).0) c.new.ensures.value
    ∙ (ap positive c.number.ensures.value ∙ digits_amount c.args.digits.now (c.is_digits.ensures.0 c.if-is_digits.true))
