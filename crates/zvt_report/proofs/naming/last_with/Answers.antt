use Rattle.std.proofs.Common.{◌≡◌, ◌+◌, ◌<◌, ◌++◌, ◌∷◌, [], suc, length, take, cond, Some, sym, ap, ◌∙◌, arith}
use Rattle.std.proofs.Math.Seq.{take-suc}
use Rattle.std.proofs.lemmas.Grind.{common_steps}
use Rattle.std.proofs.lemmas.List.{length-take-le}
use Rattle.zvt_report.specs.Naming.{has_receipt, last_with}
use Rattle.zvt_report.proofs.NamingLemmas.{last_with-snoc}
use Rattle.zvt_report.proofs.naming.last_with.Goals.{then-has_receipt, else-has_receipt}
use Rattle.zvt_report.proofs.naming.last_with.Goals as goal

pub entries-preserved : goal.entries-preserved
entries-preserved c =
    let book = c.args.book.now in
    let place = c.entries.place in
    let row = c.index-book-place.result in
    let receipt = c.args.receipt in
    let within : place < length book = grind (arith, common_steps) in
    let next : place + 1 ≡ suc place = omega arith in
    let size : length (take place book) ≡ place = length-take-le place book (omega (arith, within)) in
    let grown : take (place + 1) book ≡ take place book ++ row ∷ [] =
    ap (λ n. take n book) next ∙ take-suc book place row within ∙ ap (λ x. take place book ++ x ∷ []) (sym c.index-book-place.is) in
    let step : last_with receipt 0 (take (place + 1) book) ≡ cond (has_receipt receipt row) (Some (0 + length (take place book))) (last_with receipt 0 (take place book)) =
    ap (last_with receipt 0) grown ∙ last_with-snoc receipt 0 (take place book) row in
    let at : 0 + length (take place book) ≡ place = omega (arith, size) in
    elim c.if-has_receipt.branch [
      | then-has_receipt w ↦ w.found-is ∙ ap Some (sym at) ∙ ap (λ b. cond b (Some (0 + length (take place book))) (last_with receipt 0 (take place book))) (sym (sym c.has_receipt.ensures ∙ w.if-has_receipt.true)) ∙ sym step
      | else-has_receipt w ↦ w.found-is ∙ c.entries.invariant ∙ ap (λ b. cond b (Some (0 + length (take place book))) (last_with receipt 0 (take place book))) (sym (sym c.has_receipt.ensures ∙ w.if-has_receipt.false)) ∙ sym step
    ]
