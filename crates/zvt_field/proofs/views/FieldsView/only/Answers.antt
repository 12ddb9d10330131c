use Rattle.std.proofs.Common.{ap, sym, ◌∙◌, filter}
use Rattle.zvt_field.specs.Named.{is_named}
use Rattle.zvt_field.proofs.ViewLemmas.{found_first, found_other, found_twice, found_all}
use Rattle.zvt_field.proofs.views.FieldsView.only.Goals as goal

pub loop-field-init : goal.loop-field-init
loop-field-init c = ap (filter (is_named c.args.bmp)) (sym (c.into_iter-field-iterator.ensures.into_iter_gives ∙ c.again-field-items.ensures))

pub returns-then-is_some : goal.returns-then-is_some
returns-then-is_some c =
    found_twice c.args.bmp c.args.self.now c.loop-field.field-iterator c.next.new.self c.loop-field.found c.in-Some.field c.loop-field.invariant c.if-is_some.ensures c.in-Some.ensures.steps c.if-field-bmp.true

pub loop-field-preserved-then-field-bmp : goal.loop-field-preserved-then-field-bmp
loop-field-preserved-then-field-bmp c =
    found_first c.args.bmp c.args.self.now c.loop-field.field-iterator c.next.new.self c.loop-field.found c.in-Some.field c.loop-field.invariant c.if-is_some.ensures c.in-Some.ensures.steps c.if-field-bmp.true

pub loop-field-preserved : goal.loop-field-preserved
loop-field-preserved c =
    found_other c.args.bmp c.args.self.now c.loop-field.field-iterator c.next.new.self c.loop-field.found c.in-Some.field c.loop-field.invariant c.in-Some.ensures.steps c.if-field-bmp.false

pub returns : goal.returns
returns c = found_all c.args.bmp c.args.self.now c.loop-field.field-iterator c.loop-field.found c.loop-field.invariant c.in-None.ensures.steps.0
