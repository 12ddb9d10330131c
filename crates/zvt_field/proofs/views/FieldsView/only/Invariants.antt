use Rattle.zvt_field.proofs.ViewLemmas.{FoundSo}
use Rattle.zvt_field.proofs.views.FieldsView.only.Given as goal

abbrev pub invariant-loop-field : goal.invariant-loop-field
invariant-loop-field l = FoundSo l.bmp l.self l.found l.field-iterator
