use Rattle.std.proofs.Common.{◌≡◌, rules, length}
use Rattle.zvt_field.proofs.BodyLemmas.{content_held}
use Rattle.zvt_field.proofs.Writing.{puts_plain, room_tree, puts_tree}
use Rattle.zvt_field.proofs.writer.write_field.Goals as goal

pub put_head-at-requires-clause-small : goal.put_head-at-requires-clause-small
put_head-at-requires-clause-small c =
    let size : c.len.result ≡ length c.in-Bytes.content.items = search rules in
    let holds = content_held c.args.field.now c.body.result.now c.in-Bytes.content c.bmp.result c.len.result c.body.ensures.spelled c.body.ensures.body c.in-Bytes.is c.bmp.ensures size in
    search (rules, holds)

pub put_sized-requires : goal.put_sized-requires
put_sized-requires c =
    room_tree c.args.field.now c.body.result.now c.in-Tree.objects _ c.put-at.result c.args.out.now c.put-at.new.out c.body.ensures.body c.in-Tree.is c.requires c.put-at.ensures c.put-at.auto.out

pub returns-in-Bytes : goal.returns-in-Bytes
returns-in-Bytes c =
    puts_plain c.args.field.now c.body.result.now c.in-Bytes.content c.bmp.result c.len.result c.put_head-at.result c.put.result _ c.args.out.now c.put_head-at.new.out c.put.new.out c.body.ensures.body c.in-Bytes.is c.bmp.ensures (search rules) c.deref.ensures.value
    c.put_head-at.ensures c.put.ensures

pub returns-in-Tree : goal.returns-in-Tree
returns-in-Tree c =
    puts_tree c.args.field.now c.body.result.now c.in-Tree.objects _ c.put-at.result c.put_sized.result c.args.out.now c.put-at.new.out c.put_sized.new.out c.body.ensures.body c.in-Tree.is c.bmp-in-Tree.ensures
    c.put-at.ensures c.put_sized.ensures
