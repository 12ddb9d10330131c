use Rattle.std.proofs.Common.{Bor, List, ℕ, ◌∙◌, ap, map}
use Rattle.zvt_json.specs.Receipts.{receipt_lines}
use Rattle.zvt_json.proofs.EventLemmas.{adds_same}
use Rattle.zvt_json.proofs.ReceiptLemmas.{receipt_said}
use Rattle.zvt_json.proofs.receipts.receipt.Goals as goal

pub returns : goal.returns
returns c =
    let lines = λ (texts : List (Bor (List ℕ))). receipt_lines c.args.block.now.receipt_type c.args.line (map (λ (text : Bor (List ℕ)). text.now) texts) in
    adds_same c.add.result c.args.text.now _ _ _ (receipt_said c.args.block.now.receipt_type c.args.line (map (λ text. text.now) c.as_slice.result.now) ∙ ap lines c.as_slice.ensures.value) c.add.ensures
