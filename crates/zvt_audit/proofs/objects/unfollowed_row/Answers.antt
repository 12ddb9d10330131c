use Rattle.std.proofs.Common.{◌≡◌, ◌++◌, ◌∷◌, [], codes}
use Rattle.std.specs.Fmt.{decimal}
use Rattle.hex.specs.Hex.{encode_upper}
use Rattle.json.specs.Print.{escape}
use Rattle.zvt_text.specs.Meanings.{command_name}
use Rattle.zvt_audit.specs.Json.{amount_part, name_part, trace_of, trace_part, unfollowed_text}
use Rattle.zvt_json.proofs.EventLemmas.{where_added}
use Rattle.zvt_audit.proofs.JsonLemmas.{more}
use Rattle.zvt_audit.proofs.objects.unfollowed_row.Goals as goal

pub returns : goal.returns
unfolding unfollowed_text
returns c =
    let order = c.args.order.now in
    let control = escape (encode_upper (order.high ∷ order.low ∷ [])) in
    let opened = codes "{\"unfollowed\":{" ++ amount_part order.approved in
    let first = opened ++ codes "\"control\":\"" ++ control in
    let lined = first ++ codes "\",\"line\":" ++ decimal order.line in
    let named = lined ++ name_part (command_name order.high order.low) in
    let traced = named ++ trace_part (trace_of order.approved) in
    let e1 : c.word.new.self ≡ c.args.text.now ++ (codes "{\"unfollowed\":{") = c.in_ok-word.ensures in
    let e2 : c.approved_amount.new.text ≡ c.args.text.now ++ opened = more c.args.text.now c.word.new.self (codes "{\"unfollowed\":{") (amount_part order.approved) c.approved_amount.new.text e1 c.in_ok-approved_amount.ensures in
    let e3 : c.word-2.new.self ≡ c.args.text.now ++ (opened ++ codes "\"control\":\"") = more c.args.text.now c.approved_amount.new.text opened (codes "\"control\":\"") c.word-2.new.self e2 c.in_ok-word-2.ensures in
    let e4 : c.digits.new.text ≡ c.args.text.now ++ first = more c.args.text.now c.word-2.new.self (opened ++ codes "\"control\":\"") control c.digits.new.text e3 c.in_ok-digits.ensures in
    let e5 : c.word-3.new.self ≡ c.args.text.now ++ (first ++ codes "\",\"line\":") = more c.args.text.now c.digits.new.text first (codes "\",\"line\":") c.word-3.new.self e4 c.in_ok-word-3.ensures in
    let e6 : c.number.new.self ≡ c.args.text.now ++ lined = more c.args.text.now c.word-3.new.self (first ++ codes "\",\"line\":") (decimal order.line) c.number.new.self e5 c.in_ok-number.ensures in
    let e7 : c.name.new.text ≡ c.args.text.now ++ named = more c.args.text.now c.number.new.self lined (name_part (command_name order.high order.low)) c.name.new.text e6 c.in_ok-name.ensures in
    let e8 : c.approved_trace.new.text ≡ c.args.text.now ++ traced = more c.args.text.now c.name.new.text named (trace_part (trace_of order.approved)) c.approved_trace.new.text e7 c.in_ok-approved_trace.ensures in
    where_added c.word-4.result c.approved_trace.new.text c.word-4.new.self (codes "}}" ++ 10 ∷ []) (λ e. more c.args.text.now c.approved_trace.new.text traced (codes "}}" ++ 10 ∷ []) c.word-4.new.self e8 e) c.word-4.ensures
