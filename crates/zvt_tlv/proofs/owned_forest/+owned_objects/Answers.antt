use Rattle.std.proofs.Common.{◌∙◌, sym, ap, subst, arith, List}
use Rattle.std.proofs.Math.Logic.{∥∥₁_elim, ∥∥₁_map}
use Rattle.zvt_tlv.specs.Grammar.{Objects}
use Rattle.zvt_tlv.specs.declared.trees.Tlv.{Tlv}
use Rattle.zvt_tlv.specs.Checks.{AllParts}
use Rattle.zvt_tlv.specs.Trees.{objects_of}
use Rattle.zvt_tlv.specs.Sizes.{size_of}
use Rattle.zvt_tlv.proofs.Spelling.{joined}
use Rattle.zvt_tlv.proofs.OwnedLemmas.{first_tag, parts_left, parts_inside, size_left, size_inside, one_primitive, one_constructed, all_made}
use Rattle.zvt_tlv.proofs.owned_forest.+owned_objects.Goals as goal
use Rattle.zvt_tlv.proofs.owned_forest.+owned_objects.Goals.{in-None-children+in_ok-from_slice-in-None-children, in-Some-children+in_ok-owned_objects-in-Some-children}

pub loop-object-init : goal.loop-object-init
loop-object-init t c = record {
  whole = ap (λ (made : List Tlv). joined (objects_of made) c.into_iter-object-iterator.result) c.new-made.ensures.items;
  parts = subst (λ (f : Objects). ∥ AllParts f ∥₁) (sym c.into_iter-object-iterator.ensures.into_iter_gives) c.requires;
  size = omega arith;
}

pub unreachable-requires : goal.unreachable-requires
unreachable-requires t c =
    ∥∥₁_elim c.loop-object.invariant.parts (λ u. absurd u) (λ p. c.in_default.ensures.none (first_tag _ _ c.in-Some.object c.in-Some.ensures.steps p))

pub owned_objects-requires : goal.owned_objects-requires
owned_objects-requires t c = (
  omega (arith, size_inside _ _ c.in-Some-children.inner c.in-Some.object c.in-Some.ensures.steps c.in-Some-children.ensures, c.loop-object.invariant.size, ap size_of c.into_iter-object-iterator.ensures.into_iter_gives),
  ∥∥₁_map c.loop-object.invariant.parts (λ p. parts_inside _ _ c.in-Some-children.inner c.in-Some.object c.in-Some.ensures.steps c.in-Some-children.ensures p),
)

pub loop-object-preserved : goal.loop-object-preserved
loop-object-preserved t c = record {
  whole =
      ap (λ (made : List Tlv). joined (objects_of made) c.next.new.self) c.in_ok-push.ensures.items
      ∙ (elim c.match-children.branch [
        | in-None-children+in_ok-from_slice-in-None-children w ↦ one_primitive _ _ _ _ c.in-Some.object _ _ c.loop-object.invariant.whole c.in-Some.ensures.steps w.in-None-children.ensures c.in-Some-checked.ensures.some.0 w.body-is w.in_ok-from_slice-in-None-children.ensures.items
        | in-Some-children+in_ok-owned_objects-in-Some-children w ↦ one_constructed _ _ _ _ _ c.in-Some.object _ _ c.loop-object.invariant.whole c.in-Some.ensures.steps w.in-Some-children.ensures c.in-Some-checked.ensures.some.0 w.body-is w.in_ok-owned_objects-in-Some-children.ensures
      ]);
  parts = ∥∥₁_map c.loop-object.invariant.parts (λ p. parts_left _ _ c.in-Some.object c.in-Some.ensures.steps p);
  size = omega (arith, size_left _ _ c.in-Some.object c.in-Some.ensures.steps, c.loop-object.invariant.size);
}

pub returns : goal.returns
returns t c = all_made c.loop-object.made.items c.loop-object.object-iterator _ c.loop-object.invariant.whole c.in-None.ensures.steps.0 ∙ c.into_iter-object-iterator.ensures.into_iter_gives
