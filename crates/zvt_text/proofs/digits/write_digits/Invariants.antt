use Rattle.std.proofs.Common.{◌≡◌, ◌*◌, ◌++◌, take, drop}
use Rattle.hex.specs.Hex.{encode_upper}
use Rattle.zvt_text.proofs.digits.write_digits.Given as goal

abbrev pub invariant-bytes : goal.invariant-bytes
invariant-bytes l = take (2 * l.at) l.buffer ++ encode_upper (drop l.at l.bytes) ≡ encode_upper l.bytes
