use Rattle.std.proofs.Common.{arith, ap, ◌∙◌, ℕ, Some}
use Rattle.zvt_field.proofs.NamedLemmas.{made}
use Rattle.zvt_apdu.proofs.PartLemmas.{currency_digits, currency_shown, no_currency}
use Rattle.zvt_apdu.proofs.views.ApduView.currency.Goals as goal

pub number-requires-clause-digits : goal.number-requires-clause-digits
number-requires-clause-digits c = currency_digits c.args.self.now c.data.result.now c.data.ensures c.in-Registration.ensures c.in-len6-up.len_at_least

pub returns-in_default-data : goal.returns-in_default-data
returns-in_default-data c = no_currency c.args.self.now c.data.result.now c.data.ensures c.in-Registration.ensures c.in_default-data.len_below

pub returns-in-len6-up : goal.returns-in-len6-up
returns-in-len6-up c =
    made c.new.result c.number.result (c.new.ensures.given.1 (omega (arith, c.number.ensures.bound))) c.new.ensures.value ∙ ap (λ (n : ℕ). Some n) c.number.ensures.value
    ∙ currency_shown c.args.self.now c.data.result.now c.data.ensures c.in-Registration.ensures c.in-len6-up.len_at_least
