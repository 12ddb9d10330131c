use Rattle.std.proofs.Common.{codes, List, ℕ, ◌≡◌, ◌++◌, ◌∷◌, [], ◌∙◌, ap}
use Rattle.hex.specs.Hex.{encode_upper}
use Rattle.json.specs.Print.{escape}
use Rattle.zvt_runs.proofs.Parts.{three_parts}
use Rattle.zvt_runs.proofs.book_objects.say_receipt.Goals as goal

pub returns : goal.returns
returns c =
    let digits = escape (encode_upper c.in-Some.number) in
    let said : c.say_digits.new.text ≡ c.word.new.self ++ digits = c.in_ok-say_digits.ensures ∙ ap (λ (l : List ℕ). c.word.new.self ++ escape (encode_upper l)) c.as_slice.ensures in
    rw c.in-Some.is
    (three_parts c.push.result c.args.text.now c.word.new.self c.say_digits.new.text c.push.new.self (codes ",\"receipt\":\"") digits (34 ∷ []) c.in_ok-word.ensures said c.push.ensures)
