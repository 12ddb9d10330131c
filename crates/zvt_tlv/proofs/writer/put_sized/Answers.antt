use Rattle.std.proofs.Common.{arith, ap, sym}
use Rattle.zvt_tlv.specs.Sizes.{size_of}
use Rattle.zvt_tlv.specs.Trees.{objects_of}
use Rattle.zvt_tlv.proofs.Writing.{room_sized, writes_sized}
use Rattle.zvt_tlv.proofs.writer.put_sized.Goals as goal

pub write_objects-requires-clause-small : goal.write_objects-requires-clause-small
write_objects-requires-clause-small c = omega (arith, ap size_of c.objects.ensures.list, c.size.ensures.value, c.size.ensures.small)

pub write_objects-requires-clause-room : goal.write_objects-requires-clause-room
write_objects-requires-clause-room c =
    room_sized c.args.forest.now (objects_of c.objects.result.now) c.size.result c.args.out.now c.put_length-at.new.out c.put_length-at.result c.objects.ensures.list c.size.ensures.value c.put_length-at.ensures c.requires

pub returns : goal.returns
returns c =
    writes_sized c.args.forest.now (objects_of c.objects.result.now) c.size.result c.args.out.now c.put_length-at.new.out c.write_objects.new.out c.put_length-at.result c.write_objects.result
    c.objects.ensures.spelled (sym c.objects.ensures.list) (c.size.ensures.value) c.put_length-at.ensures c.write_objects.ensures
