use Rattle.std.proofs.Common.{codes, List, ℕ, OnOk, ◌≡◌, ◌++◌, ◌∙◌, subst}
use Rattle.zvt_till.specs.Names.{cause_name}
use Rattle.zvt_runs.proofs.Parts.{two_parts}
use Rattle.zvt_runs.proofs.books.say_unclear_reversal.Goals as goal

pub returns : goal.returns
returns c =
    let cause : c.as_bytes.result.now ≡ cause_name c.args.cause = c.as_bytes.ensures.value ∙ c.name.ensures in
    subst (λ (t : List ℕ). OnOk c.word-2.result (c.word-2.new.self ≡ c.args.text.now ++ (codes " reversal unclear " ++ t))) cause
    (two_parts c.word-2.result c.args.text.now c.word.new.self c.word-2.new.self (codes " reversal unclear ") c.as_bytes.result.now c.in_ok-word.ensures c.word-2.ensures)
