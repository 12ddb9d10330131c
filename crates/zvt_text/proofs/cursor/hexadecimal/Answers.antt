use Rattle.std.proofs.Common.{arith, take, length-append}
use Rattle.std.proofs.lemmas.List.{length-take-le}
use Rattle.hex.specs.Hex.{encode_upper, upper_digits}
use Rattle.hex.proofs.HexLemmas.{length-encode_with}
use Rattle.zvt_text.proofs.cursor.hexadecimal.Goals as goal

pub returns-then-buffer-at : goal.returns-then-buffer-at
returns-then-buffer-at c =
    omega (
      arith,
      length-append (take c.args.at c.args.buffer.now) (encode_upper c.args.bytes.now),
      length-take-le c.args.at c.args.buffer.now c.requires,
      length-encode_with upper_digits c.args.bytes.now,
    )
