use Rattle.std.proofs.Common.{ℕ, subst}
use Rattle.zvt_field.specs.Views.{PlainBytes}
use Rattle.zvt_text.proofs.values.value.Goals as goal

pub units-units-requires : goal.units-units-requires
units-units-requires c = subst (λ (bmp : ℕ). PlainBytes bmp c.args.content.now) (c.format.ensures.amount c.in-Amount.is) c.requires.plain
