use Rattle.std.proofs.Common.{arith, ap, ◌∙◌, subst, List}
use Rattle.zvt_grammar.specs.Reading.{padded}
use Rattle.zvt_field.specs.Grammar.{Field, FieldList}
use Rattle.zvt_field.specs.Named.{count_of}
use Rattle.zvt_field.proofs.ViewLemmas.{counts_one, counts_other, counts_fit}
use Rattle.zvt_field.proofs.views.FieldsView.count.Goals as goal

pub loop-field-init : goal.loop-field-init
loop-field-init c = omega (arith, ap (count_of c.args.bmp) (c.into_iter-field-iterator.ensures.into_iter_gives ∙ c.again-field-items.ensures))

pub overflow_add-count : goal.overflow_add-count
overflow_add-count c =
    let one = counts_one c.args.bmp c.loop-field.count c.args.self.now c.loop-field.field-iterator c.next.new.self c.in-Some.field c.loop-field.invariant c.in-Some.ensures.steps c.if-field-bmp.true in
    let most = counts_fit c.args.bmp c.args.self.now c.self.inside.bytes.now (subst (λ (f : List Field). ∥ FieldList padded f c.self.inside.bytes.now ∥₁) c.self.view_is c.self.inside.spelled.1) in
    omega (arith, one, most, c.note_size.ensures)

pub loop-field-preserved-then-field-bmp : goal.loop-field-preserved-then-field-bmp
loop-field-preserved-then-field-bmp c =
    counts_one c.args.bmp c.loop-field.count c.args.self.now c.loop-field.field-iterator c.next.new.self c.in-Some.field c.loop-field.invariant c.in-Some.ensures.steps c.if-field-bmp.true

pub loop-field-preserved : goal.loop-field-preserved
loop-field-preserved c =
    counts_other c.args.bmp c.loop-field.count c.args.self.now c.loop-field.field-iterator c.next.new.self c.in-Some.field c.loop-field.invariant c.in-Some.ensures.steps c.if-field-bmp.false

pub returns : goal.returns
returns c = omega (arith, c.loop-field.invariant, ap (count_of c.args.bmp) c.in-None.ensures.steps.0)
