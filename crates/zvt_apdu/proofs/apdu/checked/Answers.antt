use Rattle.std.proofs.Common.{arith, refl}
use Rattle.zvt_apdu.proofs.Writing as writing
use Rattle.zvt_apdu.proofs.apdu.checked.Goals as goal

pub returns-then-data_size-gt65535-clause-err : goal.returns-then-data_size-gt65535-clause-err
returns-then-data_size-gt65535-clause-err c =
    (refl, (c.data_size.result, c.data_size.ensures, omega (arith, c.if-data_size-gt65535.true)), writing.too_large _ c.data_size.result c.data_size.ensures c.if-data_size-gt65535.true)

pub returns-in_default-clause-err : goal.returns-in_default-clause-err
returns-in_default-clause-err c =
    (refl, (c.in_default.ensures, (c.data_size.result, c.data_size.ensures, omega (arith, c.if-data_size-gt65535.false))), writing.taken _ c.in_default.ensures)

pub invariant_of-result : goal.invariant_of-result
invariant_of-result c = writing.spellable _ c.data_size.result c.in-Some.field-0 c.data_size.ensures (omega (arith, c.if-data_size-gt65535.false)) c.in-Some.ensures

pub returns-clause-ok : goal.returns-clause-ok
returns-clause-ok c = (refl, writing.spellable _ c.data_size.result c.in-Some.field-0 c.data_size.ensures (omega (arith, c.if-data_size-gt65535.false)) c.in-Some.ensures)
