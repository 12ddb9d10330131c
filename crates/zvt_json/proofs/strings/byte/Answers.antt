use Rattle.std.proofs.Common.{arith}
use Rattle.std.proofs.lemmas.Grind.{common_steps}
use Rattle.zvt_json.proofs.EscapeLemmas.{escape_byte_hex}
use Rattle.zvt_json.proofs.strings.byte.Goals as goal

pub returns-in_err-at : goal.returns-in_err-at
returns-in_err-at c = let same = escape_byte_hex c.args.byte (omega arith) in rw same (grind (arith, common_steps))

pub returns : goal.returns
returns c = let same = escape_byte_hex c.args.byte (omega arith) in rw same (grind (arith, common_steps))
