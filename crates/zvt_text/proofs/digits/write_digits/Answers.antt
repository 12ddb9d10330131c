use Rattle.std.proofs.Common.{arith}
use Rattle.hex.specs.Hex.{upper_digits}
use Rattle.hex.proofs.Pairs.{encode_done, encode_step}
use Rattle.zvt_text.proofs.HexText.{high_digit, low_digit}
use Rattle.zvt_text.proofs.digits.write_digits.Goals as goal

pub bytes-preserved : goal.bytes-preserved
bytes-preserved c =
    encode_step upper_digits c.args.bytes.now c.bytes.buffer c.bytes.at _ _ (omega arith) (omega arith) (high_digit _ _ c.digits.ensures) (low_digit _ _ c.digits.ensures) c.bytes.invariant

pub returns : goal.returns
returns c = encode_done upper_digits _ _ c.bytes.at (omega arith) (omega arith) c.bytes.invariant
