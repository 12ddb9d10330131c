use Rattle.std.proofs.Common.{arith}
use Rattle.zvt_apdu.proofs.DataMoves.{are_bytes}
use Rattle.zvt_apdu.proofs.writer.bytes_size.Goals as goal

pub returns-clause-bytes : goal.returns-clause-bytes
returns-clause-bytes c = are_bytes c.args.bytes.now (λ i. omega (arith, c.type_inv.bytes i))
