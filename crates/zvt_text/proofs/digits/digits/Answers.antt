use Rattle.std.proofs.Common.{refl, arith}
use Rattle.zvt_text.specs.declared.digits.TheConstants.{DIGITS}
use Rattle.zvt_text.proofs.HexText.{two_digits}
use Rattle.zvt_text.proofs.digits.digits.Goals as goal

pub returns : goal.returns
returns c = two_digits DIGITS c.args.byte (omega arith) refl
