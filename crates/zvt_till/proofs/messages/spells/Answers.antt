use Rattle.std.proofs.Common.{◌∙◌}
use Rattle.zvt_till.proofs.Digits.{spells-tested}
use Rattle.zvt_till.proofs.messages.spells.Goals as goal

pub returns-then-is_digits : goal.returns-then-is_digits
returns-then-is_digits c =
    spells-tested c.args.digits c.as_slice.result.now c.as_slice-then-is_digits.result.now c.args.trace c.from.result c.number.result c.is_digits.result
    c.as_slice.ensures c.is_digits.ensures c.if-is_digits.true c.as_slice-then-is_digits.ensures c.number.ensures.value (c.from.ensures ∙ c.get.ensures.value)
