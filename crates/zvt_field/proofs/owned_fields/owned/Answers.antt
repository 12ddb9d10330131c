use Rattle.std.proofs.Common.{◌∙◌, ◌++◌, ◌∷◌, [], sym, ap, subst, List}
use Rattle.std.proofs.Math.Logic.{∥∥₁_elim, ∥∥₁_map}
use Rattle.zvt_field.specs.Grammar.{Field}
use Rattle.zvt_field.specs.Bodies.{HaveSpelling}
use Rattle.zvt_field.specs.Lists.{Refuses}
use Rattle.zvt_field.specs.Lent.{shown}
use Rattle.zvt_field.proofs.OwnedLemmas.{more_made, more_spelled, one_spelled, all_made}
use Rattle.zvt_field.proofs.owned_fields.owned.Goals as goal

pub loop-field-init : goal.loop-field-init
loop-field-init c = ap (λ (made : List Field). made ++ c.into_iter-field-iterator.result) c.new-made.ensures

pub owned_field-requires : goal.owned_field-requires
owned_field-requires c =
    ∥∥₁_map c.requires (λ h.
    one_spelled c.loop-field.made c.loop-field.field-iterator c.next.new.self c.args.fields (shown c.in-Some.field) (c.loop-field.invariant ∙ c.into_iter-field-iterator.ensures.into_iter_gives) c.in-Some.ensures.steps h)

pub loop-field-preserved : goal.loop-field-preserved
loop-field-preserved c =
    ap (λ (made : List Field). made ++ c.next.new.self) (c.in-Ok.ensures.ok ∙ ap (λ (f : Field). c.loop-field.made ++ f ∷ []) c.in_ok-field.ensures)
    ∙ more_made c.loop-field.made c.loop-field.field-iterator c.next.new.self _ (shown c.in-Some.field) c.loop-field.invariant c.in-Some.ensures.steps

pub unreachable-requires : goal.unreachable-requires
unreachable-requires c =
    let told = subst (Refuses c.loop-field.made c.in_ok-field.field) c.in-Err-TooLarge.field-0-is c.in-Err-TooLarge.ensures.refused in
    ∥∥₁_elim c.requires (λ u. absurd u) (λ h.
    told.1
    (subst (λ (f : Field). HaveSpelling (c.loop-field.made ++ f ∷ [])) (sym c.in_ok-field.ensures)
    (more_spelled c.loop-field.made c.loop-field.field-iterator c.next.new.self c.args.fields (shown c.in-Some.field) (c.loop-field.invariant ∙ c.into_iter-field-iterator.ensures.into_iter_gives) c.in-Some.ensures.steps h)))

pub returns : goal.returns
returns c = all_made c.loop-field.made c.loop-field.field-iterator c.args.fields (c.loop-field.invariant ∙ c.into_iter-field-iterator.ensures.into_iter_gives) c.in-None.ensures.steps.0
