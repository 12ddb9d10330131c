use Rattle.std.proofs.Common.{◌≡◌, ◌-◌, List, ℕ, ap, ◌∙◌, arith, drop, length, take}
use Rattle.std.proofs.lemmas.List.{length-drop, take_all}
use Rattle.sha2.specs.Sha256.{sha256}
use Rattle.zvt_kept.proofs.CheckLemmas.{check_added}
use Rattle.zvt_kept.proofs.check.put_check.Goals as goal

pub returns : goal.returns
returns c =
    let text = c.bytes.result.now in
    let start = c.args.start in
    let size = length-drop start text in
    let rest : take (length text - start) (drop start text) ≡ drop start text = take_all (length text - start) (drop start text) (omega (arith, size)) in
    check_added c.line.result c.args.text.now c.line.new.text (drop start c.args.text.now) c.digest-digest.result
    (c.digest-digest.ensures ∙ ap (λ (t : List ℕ). sha256 t) rest ∙ ap (λ (t : List ℕ). sha256 (drop start t)) c.bytes.ensures) c.line.ensures
