use Rattle.std.proofs.Common.{◌≡◌, ◌∙◌, ◌++◌, ◌∷◌, [], List, ℕ, ap, codes}
use Rattle.json.specs.Print.{escape}
use Rattle.hex.specs.Hex.{encode_upper}
use Rattle.zvt_json.proofs.EventLemmas.{where_added}
use Rattle.zvt_audit.proofs.JsonLemmas.{more}
use Rattle.zvt_audit.proofs.objects.receipt.Goals as goal

pub returns : goal.returns
returns c =
    let first = codes ",\"receipt\":\"" in
    let digits = escape (encode_upper c.in-Some.number) in
    let e1 : c.word.new.self ≡ c.args.text.now ++ first = c.in_ok-word.ensures in
    let e2 : c.digits.new.text ≡ c.args.text.now ++ (first ++ digits) =
    more c.args.text.now c.word.new.self first digits c.digits.new.text e1 (c.in_ok-digits.ensures ∙ ap (λ (l : List ℕ). c.word.new.self ++ escape (encode_upper l)) c.as_slice.ensures) in
    rw c.in-Some.is
    (where_added c.push.result c.digits.new.text c.push.new.self (34 ∷ []) (λ e. more c.args.text.now c.digits.new.text (first ++ digits) (34 ∷ []) c.push.new.self e2 e) c.push.ensures)
