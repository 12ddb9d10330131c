use Rattle.std.proofs.Common.{codes, List, ℕ, ◌≡◌, ◌++◌, ◌∷◌, [], ◌∙◌, ap}
use Rattle.zvt_till.specs.Names.{cause_name}
use Rattle.zvt_runs.proofs.Parts.{three_parts}
use Rattle.zvt_runs.proofs.book_objects.say_unclear_reversal.Goals as goal

pub returns : goal.returns
returns c =
    let said : c.word-2.new.self ≡ c.word.new.self ++ cause_name c.in-Unclear.cause = c.in_ok-word-2.ensures ∙ ap (λ (l : List ℕ). c.word.new.self ++ l) (c.as_bytes.ensures.value ∙ c.name.ensures) in
    rw c.in-Unclear.is
    (three_parts c.push.result c.args.text.now c.word.new.self c.word-2.new.self c.push.new.self (codes ",\"reversal_unclear\":\"") (cause_name c.in-Unclear.cause) (34 ∷ []) c.in_ok-word.ensures said c.push.ensures)
