use Rattle.std.proofs.Common.{◌<◌, length, sym, ◌∙◌, subst}
use Rattle.std.proofs.Math.Logic.{∥∥₁_map}
use Rattle.zvt_grammar.specs.Reading.{padded}
use Rattle.zvt_tlv.specs.Grammar.{Objects, Spells}
use Rattle.zvt_tlv.proofs.ViewLemmas.{nothing, something, none_left, object_first, rest_of, inner_of, rest_spelled, inner_spelled, first_shown, fewer}
use Rattle.zvt_tlv.proofs.views.ForestViewIterator.next.Goals as goal

pub returns-then-is_empty-clause-steps : goal.returns-then-is_empty-clause-steps
returns-then-is_empty-clause-steps c =
    let e = sym c.self.view_is ∙ none_left c.self.inside.bytes.now c.self.inside.spelled (nothing _ c.if-is_empty.ensures) in (e, e)

pub first_object-requires : goal.first_object-requires
first_object-requires c = ∥∥₁_map c.self.inside.spelled.1 (λ p. object_first c.self.inside.spelled.0 _ p (something _ c.if-is_empty.ensures))

pub invariant_of-self-inside : goal.invariant_of-self-inside
invariant_of-self-inside c =
    let some : 0 < length c.self.inside.bytes.now = something _ c.if-is_empty.ensures in
    ((rest_of c.self.inside.spelled.0, ∥∥₁_map c.self.inside.spelled.1 (λ p. rest_spelled c.self.inside.spelled.0 _ _ _ _ p some c.first_object.ensures)), tt)

pub invariant_of-result : goal.invariant_of-result
invariant_of-result c =
    let some : 0 < length c.self.inside.bytes.now = something _ c.if-is_empty.ensures in
    record { inside = λ kind. (inner_of c.self.inside.spelled.0, ∥∥₁_map c.self.inside.spelled.1 (λ p. inner_spelled c.self.inside.spelled.0 _ _ _ _ p some c.first_object.ensures kind)) }

pub returns-clause-steps : goal.returns-clause-steps
returns-clause-steps c =
    let some : 0 < length c.self.inside.bytes.now = something _ c.if-is_empty.ensures in
    let p = subst (λ (f : Objects). ∥ Spells padded 1 f c.self.inside.bytes.now ∥₁) c.self.view_is c.self.inside.spelled.1 in
    first_shown c.args.self.now c.self.inside.bytes.now _ (record { tag = c.first_object.result.0; content = c.first_object.result.1; inside = c.result-1.given.0 })
    p some c.first_object.ensures c.after-2-1.given.0

pub returns-clause-goes : goal.returns-clause-goes
returns-clause-goes c =
    record {
      on = λ _. (tt, tt, fewer (record { tag = c.first_object.result.0; content = c.first_object.result.1; inside = c.result-1.given.0 }) _ _ (returns-clause-steps c));
      keeps = tt;
      rests = λ _. tt;
    }
