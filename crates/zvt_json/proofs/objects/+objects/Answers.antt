use Rattle.std.proofs.Common.{◌++◌, arith, codes, false, refl, rules, true}
use Rattle.serde_json.specs.Written.{comma_if, items_text}
use Rattle.zvt_text.proofs.RoomLemmas.{prefix_full}
use Rattle.zvt_text.proofs.ObjectLines.{children_shallow, others_shallow}
use Rattle.zvt_json.specs.Fields.{object_values}
use Rattle.zvt_json.specs.Texts.{primitive_text, tag_text}
use Rattle.zvt_json.proofs.ObjectLemmas.{constructed_items, four_written, primitive_items, three_written, two_written}
use Rattle.zvt_json.proofs.objects.+objects.Goals as goal

pub returns-in_err-end-in-None-children : goal.returns-in_err-end-in-None-children
returns-in_err-end-in-None-children t c =
    let items = primitive_items c.loop-object.later c.loop-object.object-iterator c.next.new.self c.in-Some.object c.in-Some.ensures.steps c.in-None-children.ensures in
    let full = prefix_full _ _ _ _ (two_written _ _ _ _ _ (comma_if c.loop-object.later) (primitive_text c.in-Some.object.tag.now c.in-Some.object.content.now) (items_text true (object_values c.next.new.self)) c.loop-object.invariant.written items c.in_ok-at.ensures.1 refl) c.in_err-end-in-None-children.ensures in
    search (rules, full)

pub loop-object-preserved-in_ok-end-in-None-children : goal.loop-object-preserved-in_ok-end-in-None-children
loop-object-preserved-in_ok-end-in-None-children t c =
    let items = primitive_items c.loop-object.later c.loop-object.object-iterator c.next.new.self c.in-Some.object c.in-Some.ensures.steps c.in-None-children.ensures in record {
      inside = c.in_ok-end-in-None-children.ensures.0;
      shallow = others_shallow c.args.depth c.loop-object.object-iterator c.next.new.self c.in-Some.object c.in-Some.ensures.steps c.loop-object.invariant.shallow;
      written = two_written _ _ _ _ _ (comma_if c.loop-object.later) (primitive_text c.in-Some.object.tag.now c.in-Some.object.content.now) (items_text true (object_values c.next.new.self)) c.loop-object.invariant.written items c.in_ok-at.ensures.1 c.in_ok-end-in-None-children.ensures.1;
    }

pub objects-requires : goal.objects-requires
objects-requires t c =
    let inner = children_shallow c.args.depth c.loop-object.object-iterator c.next.new.self c.in-Some-children.inner c.in-Some.object c.in-Some.ensures.steps c.in-Some-children.ensures c.loop-object.invariant.shallow in
    (omega (arith, inner.0), (inner.1, (omega (arith, inner.0), c.in_ok-at-in-Some-children.ensures.0)))

pub returns-in_err-at-in-Some-children : goal.returns-in_err-at-in-Some-children
returns-in_err-at-in-Some-children t c =
    let items = constructed_items c.loop-object.later c.loop-object.object-iterator c.next.new.self c.in-Some-children.inner c.in-Some.object c.in-Some.ensures.steps c.in-Some-children.ensures in
    let full = prefix_full _ _ _ _ (two_written _ _ _ _ _ (comma_if c.loop-object.later) (codes "{\"objects\":[") (items_text false (object_values c.in-Some-children.inner) ++ (tag_text c.in-Some.object.tag.now ++ items_text true (object_values c.next.new.self))) c.loop-object.invariant.written items c.in_ok-at.ensures.1 refl) c.in_err-at-in-Some-children.ensures in
    search (rules, full)

pub returns-in_err-at-in-Some-children-2 : goal.returns-in_err-at-in-Some-children-2
returns-in_err-at-in-Some-children-2 t c =
    let items = constructed_items c.loop-object.later c.loop-object.object-iterator c.next.new.self c.in-Some-children.inner c.in-Some.object c.in-Some.ensures.steps c.in-Some-children.ensures in
    let full = prefix_full _ _ _ _ (three_written _ _ _ _ _ _ (comma_if c.loop-object.later) (codes "{\"objects\":[") (items_text false (object_values c.in-Some-children.inner)) (tag_text c.in-Some.object.tag.now ++ items_text true (object_values c.next.new.self)) c.loop-object.invariant.written items c.in_ok-at.ensures.1 c.in_ok-at-in-Some-children.ensures.1 refl) c.in_err-at-in-Some-children-2.ensures in
    search (rules, full)

pub returns-in_err-end-in-Some-children : goal.returns-in_err-end-in-Some-children
returns-in_err-end-in-Some-children t c =
    let items = constructed_items c.loop-object.later c.loop-object.object-iterator c.next.new.self c.in-Some-children.inner c.in-Some.object c.in-Some.ensures.steps c.in-Some-children.ensures in
    let full = prefix_full _ _ _ _ (four_written _ _ _ _ _ _ _ (comma_if c.loop-object.later) (codes "{\"objects\":[") (items_text false (object_values c.in-Some-children.inner)) (tag_text c.in-Some.object.tag.now) (items_text true (object_values c.next.new.self)) c.loop-object.invariant.written items c.in_ok-at.ensures.1 c.in_ok-at-in-Some-children.ensures.1 c.in_ok-at-in-Some-children-2.ensures.1 refl) c.in_err-end-in-Some-children.ensures in
    search (rules, full)

pub loop-object-preserved : goal.loop-object-preserved
loop-object-preserved t c =
    let items = constructed_items c.loop-object.later c.loop-object.object-iterator c.next.new.self c.in-Some-children.inner c.in-Some.object c.in-Some.ensures.steps c.in-Some-children.ensures in record {
      inside = c.in_ok-end-in-Some-children.ensures.0;
      shallow = others_shallow c.args.depth c.loop-object.object-iterator c.next.new.self c.in-Some.object c.in-Some.ensures.steps c.loop-object.invariant.shallow;
      written = four_written _ _ _ _ _ _ _ (comma_if c.loop-object.later) (codes "{\"objects\":[") (items_text false (object_values c.in-Some-children.inner)) (tag_text c.in-Some.object.tag.now) (items_text true (object_values c.next.new.self)) c.loop-object.invariant.written items c.in_ok-at.ensures.1 c.in_ok-at-in-Some-children.ensures.1 c.in_ok-at-in-Some-children-2.ensures.1 c.in_ok-end-in-Some-children.ensures.1;
    }
