use Rattle.std.proofs.Common.{arith}
use Rattle.zvt_tlv.proofs.Levels.{are_bytes}
use Rattle.zvt_stream.proofs.unread.note_bytes.Goals as goal

pub returns : goal.returns
returns c = are_bytes c.args.bytes.now (λ i. omega (arith, c.type_inv.bytes i))
