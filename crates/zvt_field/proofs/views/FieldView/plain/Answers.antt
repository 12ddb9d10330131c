use Rattle.std.proofs.Common.{sym, ◌∙◌}
use Rattle.zvt_field.proofs.ViewLemmas.{plain_of}
use Rattle.zvt_field.proofs.views.FieldView.plain.Goals as goal

pub returns-in-None-clause-content : goal.returns-in-None-clause-content
returns-in-None-clause-content c = sym (plain_of _ _ c.args.self.now.field (sym c.in-None.is ∙ c.tree.ensures)).1

pub returns-in-None-clause-spelled : goal.returns-in-None-clause-spelled
returns-in-None-clause-spelled c = (plain_of _ _ c.args.self.now.field (sym c.in-None.is ∙ c.tree.ensures)).0
