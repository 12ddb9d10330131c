use Rattle.std.proofs.Common.{arith}
use Rattle.zvt_apdu.proofs.DataMoves.{are_bytes}
use Rattle.zvt_apdu.proofs.put.put_after.Goals as goal

pub returns-clause-are_bytes : goal.returns-clause-are_bytes
returns-clause-are_bytes c = are_bytes c.args.bytes.now (λ i. omega (arith, c.type_inv.bytes i))
