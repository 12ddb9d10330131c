use Rattle.std.proofs.Common.{◌≡◌, ◌++◌, ◌∷◌, [], codes}
use Rattle.zvt_text.specs.MessageTexts.{four_digits}
use Rattle.zvt_json.proofs.EventLemmas.{where_added}
use Rattle.zvt_audit.proofs.JsonLemmas.{more}
use Rattle.zvt_audit.proofs.objects.currency_member.Goals as goal

pub returns : goal.returns
returns c =
    let first = codes ",\"currency\":\"" in
    let digits = four_digits c.in-Some.currency in
    let e1 : c.word.new.self ≡ c.args.text.now ++ first = c.in_ok-word.ensures in
    let e2 : c.currency_digits.new.text ≡ c.args.text.now ++ (first ++ digits) = more c.args.text.now c.word.new.self first digits c.currency_digits.new.text e1 c.in_ok-currency_digits.ensures in
    rw c.in-Some.is
    (where_added c.push.result c.currency_digits.new.text c.push.new.self (34 ∷ []) (λ e. more c.args.text.now c.currency_digits.new.text (first ++ digits) (34 ∷ []) c.push.new.self e2 e) c.push.ensures)
