use Rattle.std.proofs.Common.{◌≡◌, ◌∙◌, ◌++◌, ◌∷◌, [], ℕ, ap, codes}
use Rattle.std.specs.Fmt.{decimal}
use Rattle.zvt_json.proofs.EventLemmas.{where_added}
use Rattle.zvt_audit.proofs.JsonLemmas.{more}
use Rattle.zvt_audit.proofs.objects.approved_amount.Goals as goal

pub returns : goal.returns
returns c =
    let first = codes "\"approved\":" in
    let amount = decimal c.in-Some.approval.amount in
    let e1 : c.word.new.self ≡ c.args.text.now ++ first = c.in_ok-word.ensures in
    let e2 : c.number.new.self ≡ c.args.text.now ++ (first ++ amount) = more c.args.text.now c.word.new.self first amount c.number.new.self e1 (c.in_ok-number.ensures ∙ ap (λ (n : ℕ). c.word.new.self ++ decimal n) c.get.ensures.value) in
    rw c.in-Some.is
    (where_added c.push.result c.number.new.self c.push.new.self (44 ∷ []) (λ e. more c.args.text.now c.number.new.self (first ++ amount) (44 ∷ []) c.push.new.self e2 e) c.push.ensures)
