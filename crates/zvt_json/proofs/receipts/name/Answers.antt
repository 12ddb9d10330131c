use Rattle.std.proofs.Common.{arith}
use Rattle.std.proofs.lemmas.Grind.{common_steps}
use Rattle.zvt_json.proofs.ReceiptLemmas.{type_plain}
use Rattle.zvt_json.proofs.receipts.name.Goals as goal

pub returns-in_err-at : goal.returns-in_err-at
returns-in_err-at c = let same = type_plain c.args.receipt_type c.note_type.ensures in rw same (grind (arith, common_steps))

pub returns : goal.returns
returns c = let same = type_plain c.args.receipt_type c.note_type.ensures in rw same (grind (arith, common_steps))
