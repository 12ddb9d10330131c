use Rattle.std.proofs.Common.{◌≡◌, ◌∙◌, ◌++◌, ℕ, List, ap, codes}
use Rattle.zvt_runs.proofs.Parts.{three_parts}
use Rattle.zvt_runs.proofs.notes.say_no_space.Goals as goal

pub returns : goal.returns
returns c =
    let named : c.word-2.new.self ≡ c.word.new.self ++ c.args.word.now = c.in_ok-word-2.ensures ∙ ap (λ (l : List ℕ). c.word.new.self ++ l) c.as_bytes.ensures.value in
    three_parts c.word-3.result c.args.text.now c.word.new.self c.word-2.new.self c.word-3.new.self (codes "zvt: ") c.args.word.now
    (codes " was not sent (NoSpace): the disk of the book has no room for the records of a payment: free some space, then run the step again\n")
    c.in_ok-word.ensures named c.word-3.ensures
