use Rattle.std.proofs.Common.{rules, Some, ap, sym, ◌∙◌}
use Rattle.zvt_field.proofs.ViewLemmas.{inside, is_tree, no_tree}
use Rattle.zvt_field.proofs.views.FieldView.tree.Goals as goal
use Rattle.zvt_field.proofs.views.FieldView.tree.Goals.{in_default-via-in-Some+in_default, in_default-via-in_default}

pub of-requires : goal.of-requires
of-requires c = inside _ _ c.args.self.now.field (sym c.shape.ensures ∙ c.in-Some-Tree.is ∙ ap Some c.in-Some-Tree.field-0-is)

pub returns-in-Some-Tree : goal.returns-in-Some-Tree
returns-in-Some-Tree c =
    is_tree _ _ c.args.self.now.field (sym c.shape.ensures ∙ c.in-Some-Tree.is ∙ ap Some c.in-Some-Tree.field-0-is) c.of.result c.of.ensures

pub returns-in_default : goal.returns-in_default
returns-in_default c = no_tree _ _ c.args.self.now.field (λ e. elim c.in_default.branch [ in_default-via-in-Some+in_default w ↦ search rules | in_default-via-in_default w ↦ cc (w.in_default.is, c.shape.ensures, e) ])
