use Rattle.std.proofs.Common.{arith}
use Rattle.zvt_field.proofs.ViewLemmas.{receipt_length, plain_in}
use Rattle.zvt_field.proofs.contents.receipt.Goals as goal

pub returns-in_default : goal.returns-in_default
returns-in_default c = absurd (omega (arith, receipt_length _ (plain_in 0x87 _ _ c.in-Some.is c.requires)))

pub returns-in_default-2 : goal.returns-in_default-2
returns-in_default-2 c = absurd (omega (arith, receipt_length _ (plain_in 0x87 _ _ c.in-Some.is c.requires)))
