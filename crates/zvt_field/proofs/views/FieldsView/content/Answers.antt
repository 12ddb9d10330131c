use Rattle.zvt_field.proofs.ViewLemmas.{only_named, plain_named}
use Rattle.zvt_field.proofs.views.FieldsView.content.Goals as goal

pub returns-clause-spelled : goal.returns-clause-spelled
returns-clause-spelled c =
    plain_named _ c.args.bmp c.plain.result (only_named c.args.bmp c.args.self.now c.in_ok-only.field-0 c.in_ok-only.ensures) c.plain.ensures.spelled
