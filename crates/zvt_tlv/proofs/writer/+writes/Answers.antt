use Rattle.std.proofs.Common.{arith, ap, subst, ◌≡◌, ◌<◌, ◌≤◌, ◌+◌, ◌++◌, ℕ, length, take}
use Rattle.zvt_tlv.specs.Sizes.{Puts, length_bytes, size_of, spelling}
use Rattle.zvt_tlv.specs.Trees.{before, objects_of}
use Rattle.zvt_tlv.specs.Grammar.{none}
use Rattle.zvt_tlv.proofs.Writing.{puts_prim, puts_cons, puts_next, size_before, room_before}
use Rattle.zvt_tlv.specs.declared.trees.Body.TheFolds.{the_lemmas}
use Rattle.std.proofs.lemmas.Grind.{common_steps}
use Rattle.zvt_tlv.proofs.writer.+writes.Goals as goal

pub write_object-returns-in-Prim : goal.write_object-returns-in-Prim
write_object-returns-in-Prim t c =
    let sized : c.len.result ≡ length c.in-Prim.bytes.items = omega (arith, c.len.ensures, c.deref.ensures.len, ap length c.deref.ensures.value) in
    puts_prim c.args.object.now c.in-Prim.bytes c.deref.result.now c.args.out.now c.put_head-at.new.out c.put.new.out c.put_head-at.result c.put.result c.in-Prim.is c.deref.ensures.value
    (subst (λ (n : ℕ). Puts (c.args.object.now.tag ++ length_bytes n) c.args.out.now c.put_head-at.new.out c.put_head-at.result) sized c.put_head-at.ensures) c.put.ensures

pub write_object-returns-in-Cons : goal.write_object-returns-in-Cons
write_object-returns-in-Cons t c =
    puts_cons c.args.object.now c.in-Cons.objects c.deref-in-Cons.result.now c.deref-in-Cons-2.result.now c.objects_size.result c.args.out.now c.put_head-at-in-Cons.new.out c.write_objects.new.out c.put_head-at-in-Cons.result c.write_objects.result
    c.in-Cons.is c.deref-in-Cons.ensures.value c.deref-in-Cons-2.ensures.value c.objects_size.ensures c.put_head-at-in-Cons.ensures c.write_objects.ensures

pub write_objects-write_object-at-requires : goal.write_objects-write_object-at-requires
write_objects-write_object-at-requires t c =
    let s : length (spelling (objects_of (take c.loop-object.object-index c.args.objects.now))) + size_of (before c.object-item.result none) ≤ size_of (objects_of c.args.objects.now) = size_before c.args.objects.now c.loop-object.object-index c.object-item.result (omega arith) c.object-item.is in
    let small : size_of (before c.object-item.result none) < 65536 = omega (arith, s, c.requires.small) in
    let room = room_before c.args.objects.now c.loop-object.object-index c.object-item.result c.args.out.now c.loop-object.out c.loop-object.at (omega arith) c.object-item.is c.requires.room c.loop-object.invariant in
    (grind (the_lemmas, arith, common_steps), (small, room))

pub write_objects-loop-object-preserved : goal.write_objects-loop-object-preserved
write_objects-loop-object-preserved t c =
    puts_next c.args.objects.now c.loop-object.object-index c.object-item.result c.args.out.now c.loop-object.out c.write_object-at.new.out c.loop-object.at c.write_object-at.result (omega arith) c.object-item.is c.loop-object.invariant c.write_object-at.ensures
