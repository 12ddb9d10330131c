use Rattle.std.proofs.Common.{◌∙◌}
use Rattle.zvt_field.proofs.ViewLemmas.{same_fields}
use Rattle.zvt_field.proofs.views.FieldsView.again.Goals as goal

pub returns : goal.returns
returns c = same_fields c.self.inside.spelled.0 c.self.inside.bytes.now c.self.inside.spelled.1 c.result-2-1.given.0 ∙ c.self.view_is
