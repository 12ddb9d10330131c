use Rattle.std.proofs.Common.{◌≡◌, ◌∙◌, ℕ, ap, List, ◌++◌, ◌∷◌, [], codes}
use Rattle.std.specs.Fmt.{decimal}
use Rattle.zvt_till.specs.Names.{cause_name}
use Rattle.zvt_audit.specs.Json.{line_part, unclear_text}
use Rattle.zvt_json.proofs.EventLemmas.{where_added}
use Rattle.zvt_audit.proofs.JsonLemmas.{more}
use Rattle.zvt_audit.proofs.objects.unclear_row.Goals as goal

pub returns : goal.returns
unfolding unclear_text
returns c =
    let first = codes "{\"unclear\":{\"amount\":" ++ decimal c.args.row.now.0 in
    let caused = first ++ codes ",\"cause\":\"" ++ cause_name c.args.row.now.1 ++ (34 ∷ []) in
    let e1 : c.word.new.self ≡ c.args.text.now ++ (codes "{\"unclear\":{\"amount\":") = c.in_ok-word.ensures in
    let e2 : c.number.new.self ≡ c.args.text.now ++ first = more c.args.text.now c.word.new.self (codes "{\"unclear\":{\"amount\":") (decimal c.args.row.now.0) c.number.new.self e1 (c.in_ok-number.ensures ∙ ap (λ (n : ℕ). c.word.new.self ++ decimal n) c.get.ensures.value) in
    let e3 : c.word-2.new.self ≡ c.args.text.now ++ (first ++ codes ",\"cause\":\"") = more c.args.text.now c.number.new.self first (codes ",\"cause\":\"") c.word-2.new.self e2 c.in_ok-word-2.ensures in
    let e4 : c.word-3.new.self ≡ c.args.text.now ++ (first ++ codes ",\"cause\":\"" ++ cause_name c.args.row.now.1) = more c.args.text.now c.word-2.new.self (first ++ codes ",\"cause\":\"") (cause_name c.args.row.now.1) c.word-3.new.self e3 (c.in_ok-word-3.ensures ∙ ap (λ (l : List ℕ). c.word-2.new.self ++ l) (c.as_bytes.ensures.value ∙ c.name.ensures)) in
    let e5 : c.push.new.self ≡ c.args.text.now ++ caused = more c.args.text.now c.word-3.new.self (first ++ codes ",\"cause\":\"" ++ cause_name c.args.row.now.1) (34 ∷ []) c.push.new.self e4 c.in_ok-push.ensures in
    let e6 : c.ended_at.new.text ≡ c.args.text.now ++ (caused ++ line_part c.args.line) = more c.args.text.now c.push.new.self caused (line_part c.args.line) c.ended_at.new.text e5 c.in_ok-ended_at.ensures in
    where_added c.word-4.result c.ended_at.new.text c.word-4.new.self (codes "}}" ++ 10 ∷ []) (λ e. more c.args.text.now c.ended_at.new.text (caused ++ line_part c.args.line) (codes "}}" ++ 10 ∷ []) c.word-4.new.self e6 e) c.word-4.ensures
