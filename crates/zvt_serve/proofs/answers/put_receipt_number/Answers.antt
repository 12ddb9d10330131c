use Rattle.std.proofs.Common.{codes, [], ◌∷◌}
use Rattle.hex.specs.Hex.{encode_upper}
use Rattle.zvt_serve.proofs.Parts.{three_parts}
use Rattle.zvt_serve.proofs.answers.put_receipt_number.Goals as goal

pub returns : goal.returns
returns c =
    three_parts c.word-2.result c.args.text.now c.word.new.self c.hexadecimal.new.text c.word-2.new.self (codes ",\"receipt\":\"") (encode_upper c.args.number.now) (34 ∷ []) c.in_ok-word.ensures
    c.in_ok-hexadecimal.ensures c.word-2.ensures
