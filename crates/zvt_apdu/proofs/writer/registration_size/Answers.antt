use Rattle.std.proofs.Common.{ℕ, Option, List, ◌+◌, arith, sym, subst, refl}
use Rattle.zvt_field.specs.Grammar.{Field}
use Rattle.zvt_apdu.specs.Message.{registration}
use Rattle.zvt_apdu.specs.Messages.{HasData}
use Rattle.zvt_apdu.proofs.SizeLemmas as sizes
use Rattle.zvt_apdu.proofs.writer.registration_size.Goals as goal

pub returns-in-None : goal.returns-in-None
returns-in-None c =
    subst (λ (r : Option (ℕ × List Field)). HasData (registration c.args.password.now c.args.config r) (c.password_size-first.result + 1)) (sym c.in-None.is)
    (sizes.registered_alone c.args.password.now c.args.config c.password_size-first.result c.password_size-first.ensures.value c.password_size-first.ensures.three c.password_size-first.ensures.bytes (omega (arith, c.ranges.config)))

pub returns-in-Some : goal.returns-in-Some
returns-in-Some c =
    subst (λ (r : Option (ℕ × List Field)). HasData (registration c.args.password.now c.args.config r) (((c.password_size-first.result + 1) + 2) + c.fields_size.result)) (sym c.in-Some.is)
    (sizes.registered_after c.args.password.now c.currency_digits.result c.args.config c.in-Some.rest.0 c.password_size-first.result 2 c.fields_size.result c.in-Some.rest.1 c.password_size-first.ensures.value c.password_size-first.ensures.three c.password_size-first.ensures.bytes (omega (arith, c.ranges.config))
    c.currency_digits.ensures.two c.currency_digits.ensures.digits c.currency_digits.ensures.number refl c.fields_size.ensures)
