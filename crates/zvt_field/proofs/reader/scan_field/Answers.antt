use Rattle.std.proofs.Common.{arith, refl}
use Rattle.zvt_grammar.specs.Lengths.{reading_of}
use Rattle.zvt_field.specs.declared.shapes.Shape.TheVariants.{Fixed, Digits, Ll, Lll}
use Rattle.zvt_field.proofs.NameMoves.{starts, none_yet, name_refused, in_name, in_head, in_container}
use Rattle.zvt_field.proofs.reader.scan_field.Goals as goal

pub returns-in_default : goal.returns-in_default
returns-in_default c = none_yet (reading_of c.args.lengths) c.args.room c.args.bytes.now c.requires.some c.requires.filled c.in_default.ensures.item.3

pub returns-in-Err : goal.returns-in-Err
returns-in-Err c =
    name_refused (reading_of c.args.lengths) c.args.room c.args.bytes.now c.in-Some.first.now c.in-Err.why c.requires.some c.requires.filled
    (starts c.args.bytes.now c.in-Some.first.now c.in-Some.ensures.value (λ i. omega (arith, c.type_inv.bytes i))) c.in-Err.ensures

pub scan_content-requires-clause-begun : goal.scan_content-requires-clause-begun
scan_content-requires-clause-begun c =
    rw c.fixed.ensures (in_head (reading_of c.args.lengths) c.args.room c.in-Ok-Fixed.size _ c.args.bytes.now c.in-Some.first.now _ (Fixed c.in-Ok-Fixed.size) c.requires.some c.requires.filled
    (starts c.args.bytes.now c.in-Some.first.now c.in-Some.ensures.value (λ i. omega (arith, c.type_inv.bytes i))) c.in-Ok-Fixed.ensures c.in-Ok-Fixed.field-0-is (refl, refl, refl))

pub scan_content-requires-in-Ok-Digits-clause-begun : goal.scan_content-requires-in-Ok-Digits-clause-begun
scan_content-requires-in-Ok-Digits-clause-begun c =
    rw c.fixed-in-Ok-Digits.ensures (in_head (reading_of c.args.lengths) c.args.room c.in-Ok-Digits.size _ c.args.bytes.now c.in-Some.first.now _ (Digits c.in-Ok-Digits.size) c.requires.some c.requires.filled
    (starts c.args.bytes.now c.in-Some.first.now c.in-Some.ensures.value (λ i. omega (arith, c.type_inv.bytes i))) c.in-Ok-Digits.ensures c.in-Ok-Digits.field-0-is (refl, refl, refl))

pub scan_counted-requires-clause-begun : goal.scan_counted-requires-clause-begun
scan_counted-requires-clause-begun c =
    in_name (reading_of c.args.lengths) c.args.room 2 c.args.bytes.now c.in-Some.first.now _ Ll c.requires.some c.requires.filled
    (starts c.args.bytes.now c.in-Some.first.now c.in-Some.ensures.value (λ i. omega (arith, c.type_inv.bytes i))) c.in-Ok-Ll.ensures c.in-Ok-Ll.field-0-is refl

pub scan_counted-requires-in-Ok-Lll-clause-begun : goal.scan_counted-requires-in-Ok-Lll-clause-begun
scan_counted-requires-in-Ok-Lll-clause-begun c =
    in_name (reading_of c.args.lengths) c.args.room 3 c.args.bytes.now c.in-Some.first.now _ Lll c.requires.some c.requires.filled
    (starts c.args.bytes.now c.in-Some.first.now c.in-Some.ensures.value (λ i. omega (arith, c.type_inv.bytes i))) c.in-Ok-Lll.ensures c.in-Ok-Lll.field-0-is refl

pub scan_container-requires-clause-begun : goal.scan_container-requires-clause-begun
scan_container-requires-clause-begun c =
    in_container (reading_of c.args.lengths) c.args.room c.args.bytes.now c.in-Some.first.now _ c.requires.some c.requires.filled
    (starts c.args.bytes.now c.in-Some.first.now c.in-Some.ensures.value (λ i. omega (arith, c.type_inv.bytes i))) c.in-Ok-Tree.ensures c.in-Ok-Tree.field-0-is
