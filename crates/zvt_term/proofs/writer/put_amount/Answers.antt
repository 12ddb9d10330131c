use Rattle.std.proofs.Common.{◌≡◌, ◌≤◌, length, ap, ◌∙◌, arith}
use Rattle.std.specs.Fmt.{decimal}
use Rattle.std.proofs.lemmas.Fmt.{length-decimal-le}
use Rattle.zvt_term.proofs.writer.put_amount.Goals as goal

pub put_text-requires-clause-short : goal.put_text-requires-clause-short
put_text-requires-clause-short c =
    let same : length c.as_bytes.result.now ≡ length (decimal c.get.result) = ap length (c.as_bytes.ensures.value ∙ c.format.ensures.text) in
    let short : length (decimal c.get.result) ≤ 12 = length-decimal-le 12 c.get.result (omega arith) (omega (arith, c.get.ensures.most)) (omega (arith, c.get.ensures.most)) in
    omega (arith, c.requires)
