use Rattle.zvt_field.proofs.NamedLemmas.{FoundTo}
use Rattle.zvt_field.proofs.named.only.Given as goal

abbrev pub invariant-loop-field : goal.invariant-loop-field
invariant-loop-field l = FoundTo l.bmp l.field-items l.field-index l.found
