use Rattle.zvt_apdu.proofs.Writing as writing
use Rattle.zvt_apdu.proofs.writer.write_registration.Goals as goal

pub put_listed-requires : goal.put_listed-requires
put_listed-requires c = writing.rest_fits c.args.password.now c.args.config c.args.rest.now c.in-Some.rest _ c.in-Some.is c.requires

pub returns-in-Some : goal.returns-in-Some
returns-in-Some c =
    writing.rest_written c.args.password.now c.currency_digits.result c.args.out.now c.put_listed.new.out c.args.config c.put_listed.result c.args.rest.now c.in-Some.rest c.in-Some.is c.told-password
    c.currency_digits.ensures.two c.currency_digits.ensures.digits c.currency_digits.ensures.number c.put_listed.ensures
