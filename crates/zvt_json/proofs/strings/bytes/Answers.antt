use Rattle.std.proofs.Common.{arith}
use Rattle.std.proofs.lemmas.Grind.{common_steps}
use Rattle.zvt_json.proofs.EscapeLemmas.{escape_hex}
use Rattle.zvt_json.proofs.strings.bytes.Goals as goal

pub returns-in_err-at : goal.returns-in_err-at
returns-in_err-at c = let same = escape_hex c.args.bytes.now (λ i. omega (arith, c.type_inv.bytes i)) in rw same (grind (arith, common_steps))

pub returns : goal.returns
returns c = let same = escape_hex c.args.bytes.now (λ i. omega (arith, c.type_inv.bytes i)) in rw same (grind (arith, common_steps))
