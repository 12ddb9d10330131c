use Rattle.std.proofs.Common.{◌≡◌, ◌∙◌, ℕ, ap, ◌++◌, ◌∷◌, [], codes}
use Rattle.std.specs.Fmt.{decimal}
use Rattle.zvt_audit.specs.Json.{booked_text, line_part, receipt_part}
use Rattle.zvt_json.proofs.EventLemmas.{where_added}
use Rattle.zvt_audit.proofs.JsonLemmas.{more}
use Rattle.zvt_audit.proofs.objects.booked_row.Goals as goal

pub returns : goal.returns
unfolding booked_text
returns c =
    let first = codes "{\"booked\":{\"amount\":" ++ decimal c.args.row.now.amount in
    let lined = first ++ line_part c.args.line in
    let numbered = lined ++ receipt_part c.args.row.now.receipt in
    let e1 : c.word.new.self ≡ c.args.text.now ++ (codes "{\"booked\":{\"amount\":") = c.in_ok-word.ensures in
    let e2 : c.number.new.self ≡ c.args.text.now ++ first = more c.args.text.now c.word.new.self (codes "{\"booked\":{\"amount\":") (decimal c.args.row.now.amount) c.number.new.self e1 (c.in_ok-number.ensures ∙ ap (λ (n : ℕ). c.word.new.self ++ decimal n) c.get.ensures.value) in
    let e3 : c.ended_at.new.text ≡ c.args.text.now ++ lined = more c.args.text.now c.number.new.self first (line_part c.args.line) c.ended_at.new.text e2 c.in_ok-ended_at.ensures in
    let e4 : c.receipt.new.text ≡ c.args.text.now ++ numbered = more c.args.text.now c.ended_at.new.text lined (receipt_part c.args.row.now.receipt) c.receipt.new.text e3 c.in_ok-receipt.ensures in
    let e5 : c.word-2.new.self ≡ c.args.text.now ++ (numbered ++ codes ",\"trace\":") = more c.args.text.now c.receipt.new.text numbered (codes ",\"trace\":") c.word-2.new.self e4 c.in_ok-word-2.ensures in
    let e6 : c.number-2.new.self ≡ c.args.text.now ++ (numbered ++ codes ",\"trace\":" ++ decimal c.args.row.now.trace) = more c.args.text.now c.word-2.new.self (numbered ++ codes ",\"trace\":") (decimal c.args.row.now.trace) c.number-2.new.self e5 (c.in_ok-number-2.ensures ∙ ap (λ (n : ℕ). c.word-2.new.self ++ decimal n) c.get-2.ensures.value) in
    where_added c.word-3.result c.number-2.new.self c.word-3.new.self (codes "}}" ++ 10 ∷ []) (λ e. more c.args.text.now c.number-2.new.self (numbered ++ codes ",\"trace\":" ++ decimal c.args.row.now.trace) (codes "}}" ++ 10 ∷ []) c.word-3.new.self e6 e) c.word-3.ensures
