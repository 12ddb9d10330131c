use Rattle.std.proofs.Common.{arith, ap, sym, ◌∙◌}
use Rattle.std.specs.Option.{option_copied}
use Rattle.zvt_field.proofs.NamedLemmas.{currency_small, is_currency}
use Rattle.zvt_field.proofs.ViewLemmas.{currency_parts, plain_in}
use Rattle.zvt_field.proofs.contents.currency.Goals as goal

pub number-requires-clause-digits : goal.number-requires-clause-digits
number-requires-clause-digits c = (currency_parts c.in-Some.bytes.now (plain_in 0x49 _ _ c.in-Some.is c.requires)).0

pub number-requires-clause-short : goal.number-requires-clause-short
number-requires-clause-short c = omega (arith, (currency_parts c.in-Some.bytes.now (plain_in 0x49 _ _ c.in-Some.is c.requires)).1)

pub overflow_cast-number : goal.overflow_cast-number
overflow_cast-number c = omega (arith, currency_small c.in-Some.bytes.now c.number.result c.number.ensures.bound (currency_parts c.in-Some.bytes.now (plain_in 0x49 _ _ c.in-Some.is c.requires)).1)

pub returns-in-Some : goal.returns-in-Some
returns-in-Some c = λ fields says.
    is_currency fields c.in-Some.bytes.now c.number.result c.new.result (sym (ap option_copied c.in-Some.is) ∙ says) c.number.ensures.value
    (currency_small c.in-Some.bytes.now c.number.result c.number.ensures.bound (currency_parts c.in-Some.bytes.now (plain_in 0x49 _ _ c.in-Some.is c.requires)).1) c.new.ensures.given c.new.ensures.value
