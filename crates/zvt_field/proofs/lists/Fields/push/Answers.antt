use Rattle.std.proofs.Common.{refl, subst, sym, ap, arith, List, ◌++◌, ◌∷◌, [], ◌+◌, ◌∙◌}
use Rattle.zvt_field.specs.Grammar.{Field}
use Rattle.zvt_field.specs.Lists.{HaveSize}
use Rattle.zvt_field.proofs.ListSizes.{more_sized, more_spelled, too_large}
use Rattle.zvt_field.proofs.lists.Fields.push.Goals as goal

pub returns-then-size-gt-LARGEST-clause-refused : goal.returns-then-size-gt-LARGEST-clause-refused
returns-then-size-gt-LARGEST-clause-refused c =
    (refl, too_large c.self.inside.list.items c.args.self.now c.args.field c.self.inside.size c.field_size.result c.self.invariant c.self.view_is c.field_size.ensures.size c.if-size-gt-LARGEST.true)

pub returns-then-is_err-clause-refused : goal.returns-then-is_err-clause-refused
returns-then-is_err-clause-refused c =
    (refl, more_spelled c.self.inside.list.items c.args.self.now c.args.field c.self.inside.size c.field_size.result c.self.invariant c.self.view_is c.field_size.ensures.spelled c.field_size.ensures.size (omega arith))

pub invariant_of-self-2 : goal.invariant_of-self-2
invariant_of-self-2 c =
    subst (λ (fs : List Field). HaveSize fs (c.self.inside.size + c.field_size.result))
    (sym (c.push_reserved.ensures.items ∙ ap (λ (fs : List Field). fs ++ c.args.field ∷ []) (c.reserve.ensures.items ∙ c.self.view_is)))
    (more_sized c.self.inside.list.items c.args.self.now c.args.field c.self.inside.size c.field_size.result c.self.invariant c.self.view_is c.field_size.ensures.spelled c.field_size.ensures.size (omega arith))

pub returns-clause-spelled : goal.returns-clause-spelled
returns-clause-spelled c =
    more_spelled c.self.inside.list.items c.args.self.now c.args.field c.self.inside.size c.field_size.result c.self.invariant c.self.view_is c.field_size.ensures.spelled c.field_size.ensures.size (omega arith)
