use Rattle.std.proofs.Common.{◌∙◌, sym}
use Rattle.zvt_field.proofs.HeadMoves.{small_size}
use Rattle.zvt_field.proofs.judge.judge_bmp.Goals as goal

pub fits-enough-requires : goal.fits-enough-requires
fits-enough-requires c = small_size c.args.byte c.in-Fixed.size c.in-Some.shape (sym c.shape.ensures ∙ c.in-Some.is) c.in-Fixed.is
