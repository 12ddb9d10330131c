use Rattle.std.proofs.Common.{arith, ap, subst}
use Rattle.zvt_tlv.specs.Grammar.{Objects}
use Rattle.zvt_tlv.specs.Sizes.{size_of, spelling, Puts}
use Rattle.zvt_tlv.proofs.Writing.{spelled_size}
use Rattle.zvt_tlv.proofs.Writing.{writes_spelling}
use Rattle.zvt_tlv.proofs.writer.write_into.Goals as goal

pub write_objects-requires-clause-small : goal.write_objects-requires-clause-small
write_objects-requires-clause-small c =
    let h = c.objects.ensures.spelled in
    omega (arith, ap size_of c.objects.ensures.list, spelled_size 1 c.args.forest.now h.bytes h.spelled, h.small)

pub write_objects-requires-clause-room : goal.write_objects-requires-clause-room
write_objects-requires-clause-room c = omega (arith, ap size_of c.objects.ensures.list, c.requires)

pub returns : goal.returns
returns c =
    writes_spelling c.args.forest.now c.args.out.now c.write_objects.new.out c.write_objects.result c.objects.ensures.spelled
    (subst (λ (f : Objects). Puts (spelling f) c.args.out.now c.write_objects.new.out c.write_objects.result) c.objects.ensures.list c.write_objects.ensures)
