use Rattle.std.proofs.Common.{List, length, arith, ap, sym, ◌∙◌, subst}
use Rattle.std.proofs.Math.Logic.{∥∥₁_map}
use Rattle.zvt_grammar.specs.Reading.{padded}
use Rattle.zvt_tlv.proofs.ViewLemmas.{nothing, something}
use Rattle.zvt_field.specs.Grammar.{Field, FieldList}
use Rattle.zvt_field.proofs.ViewLemmas.{none_left, content_first, others, head_of, others_spelled, head_held, first_shown}
use Rattle.zvt_field.proofs.views.FieldsViewIterator.next.Goals as goal

pub returns-then-is_empty-clause-steps : goal.returns-then-is_empty-clause-steps
returns-then-is_empty-clause-steps c =
    let e = sym c.self.view_is ∙ none_left c.self.inside.bytes.now c.self.inside.spelled (nothing _ c.if-is_empty.ensures) in (e, e)

pub first_content-requires : goal.first_content-requires
first_content-requires c =
    ∥∥₁_map c.self.inside.spelled.1 (λ p. content_first c.self.inside.spelled.0 _ _ p (something _ c.if-is_empty.ensures) c.shape.ensures)

pub invariant_of-self-inside : goal.invariant_of-self-inside
invariant_of-self-inside c = (
  (
    others c.self.inside.spelled.0,
    ∥∥₁_map c.self.inside.spelled.1 (λ p. others_spelled c.self.inside.spelled.0 _ _ _ _ p (something _ c.if-is_empty.ensures) c.shape.ensures c.first_content.ensures),
  ),
  tt,
)

pub invariant_of-result : goal.invariant_of-result
invariant_of-result c = record {
  field = (
    head_of c.self.inside.spelled.0,
    ∥∥₁_map c.self.inside.spelled.1 (λ p. head_held c.self.inside.spelled.0 _ _ _ _ p (something _ c.if-is_empty.ensures) c.shape.ensures c.first_content.ensures),
  );
}

pub returns-clause-steps : goal.returns-clause-steps
returns-clause-steps c =
    let p = subst (λ (f : List Field). ∥ FieldList padded f c.self.inside.bytes.now ∥₁) c.self.view_is c.self.inside.spelled.1 in
    first_shown c.args.self.now c.self.inside.bytes.now _ _ _ p (something _ c.if-is_empty.ensures) c.shape.ensures c.first_content.ensures c.result-1.given.0 c.after-2-1.given.0

pub returns-clause-goes : goal.returns-clause-goes
returns-clause-goes c = record {
  on = λ _. (tt, tt, omega (arith, ap length (returns-clause-steps c)));
  keeps = tt;
  rests = λ _. tt;
}
