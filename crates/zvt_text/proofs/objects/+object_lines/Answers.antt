use Rattle.std.proofs.Common.{arith, refl, rules}
use Rattle.zvt_text.proofs.RoomLemmas.{prefix_full}
use Rattle.zvt_text.proofs.ObjectLines.{constructed_lines, constructed_written, children_shallow, others_shallow}
use Rattle.zvt_text.proofs.objects.+object_lines.Goals as goal

pub object_lines-requires : goal.object_lines-requires
object_lines-requires t c =
    let inner = children_shallow c.args.depth c.loop-object.object-iterator c.next.new.self c.in-Some-children.inner c.in-Some.object c.in-Some.ensures.steps c.in-Some-children.ensures c.loop-object.invariant.shallow in
    (omega (arith, inner.0), (inner.1, (omega (arith, inner.0), c.in_ok-at-in-Some-children.ensures.0)))

pub returns-in_err-end-in-Some-children : goal.returns-in_err-end-in-Some-children
returns-in_err-end-in-Some-children t c =
    let full = prefix_full _ _ _ _ (constructed_written _ _ _ _ _ _ _ _ _ _
    c.loop-object.invariant.lines c.in_ok-at.ensures.1 c.in_ok-at-in-Some-children.ensures.1 refl
    (constructed_lines c.args.options c.args.depth c.loop-object.object-iterator c.next.new.self c.in-Some-children.inner c.in-Some.object c.in-Some.ensures.steps c.in-Some-children.ensures)) c.in_err-end-in-Some-children.ensures in
    search (rules, full)

pub loop-object-preserved : goal.loop-object-preserved
loop-object-preserved t c = record {
  inside = c.in_ok-end-in-Some-children.ensures.0;
  shallow = others_shallow c.args.depth c.loop-object.object-iterator c.next.new.self c.in-Some.object c.in-Some.ensures.steps c.loop-object.invariant.shallow;
  lines =
      constructed_written _ _ _ _ _ _ _ _ _ _
      c.loop-object.invariant.lines c.in_ok-at.ensures.1 c.in_ok-at-in-Some-children.ensures.1 c.in_ok-end-in-Some-children.ensures.1
      (constructed_lines c.args.options c.args.depth c.loop-object.object-iterator c.next.new.self c.in-Some-children.inner c.in-Some.object c.in-Some.ensures.steps c.in-Some-children.ensures);
}
