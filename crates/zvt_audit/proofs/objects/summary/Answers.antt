use Rattle.std.proofs.Common.{◌≡◌, ◌++◌, ◌∷◌, [], codes}
use Rattle.std.specs.Fmt.{decimal}
use Rattle.zvt_json.proofs.EventLemmas.{where_added}
use Rattle.zvt_audit.specs.Json.{currency_part}
use Rattle.zvt_audit.proofs.JsonLemmas.{more}
use Rattle.zvt_audit.proofs.objects.summary.Goals as goal

pub returns : goal.returns
returns c =
    let bad = codes "{\"bad\":" ++ decimal c.args.tally.bad ++ currency_part c.args.currency in
    let counted = bad ++ codes ",\"messages\":" ++ decimal c.args.tally.messages in
    let e1 : c.word.new.self ≡ c.args.text.now ++ (codes "{\"bad\":") = c.in_ok-word.ensures in
    let e2 : c.number.new.self ≡ c.args.text.now ++ (codes "{\"bad\":" ++ decimal c.args.tally.bad) = more c.args.text.now c.word.new.self (codes "{\"bad\":") (decimal c.args.tally.bad) c.number.new.self e1 c.in_ok-number.ensures in
    let e3 : c.currency_member.new.text ≡ c.args.text.now ++ bad = more c.args.text.now c.number.new.self (codes "{\"bad\":" ++ decimal c.args.tally.bad) (currency_part c.args.currency) c.currency_member.new.text e2 c.in_ok-currency_member.ensures in
    let e4 : c.word-2.new.self ≡ c.args.text.now ++ (bad ++ codes ",\"messages\":") = more c.args.text.now c.currency_member.new.text bad (codes ",\"messages\":") c.word-2.new.self e3 c.in_ok-word-2.ensures in
    let e5 : c.number-2.new.self ≡ c.args.text.now ++ counted = more c.args.text.now c.word-2.new.self (bad ++ codes ",\"messages\":") (decimal c.args.tally.messages) c.number-2.new.self e4 c.in_ok-number-2.ensures in
    let e6 : c.word-3.new.self ≡ c.args.text.now ++ (counted ++ codes ",\"total\":") = more c.args.text.now c.number-2.new.self counted (codes ",\"total\":") c.word-3.new.self e5 c.in_ok-word-3.ensures in
    let e7 : c.number-3.new.self ≡ c.args.text.now ++ (counted ++ codes ",\"total\":" ++ decimal c.args.total) = more c.args.text.now c.word-3.new.self (counted ++ codes ",\"total\":") (decimal c.args.total) c.number-3.new.self e6 c.in_ok-number-3.ensures in
    where_added c.word-4.result c.number-3.new.self c.word-4.new.self (codes "}" ++ 10 ∷ []) (λ e. more c.args.text.now c.number-3.new.self (counted ++ codes ",\"total\":" ++ decimal c.args.total) (codes "}" ++ 10 ∷ []) c.word-4.new.self e7 e) c.word-4.ensures
