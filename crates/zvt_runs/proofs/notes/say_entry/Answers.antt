use Rattle.std.proofs.Common.{◌∙◌, ap, ◌++◌, ℕ}
use Rattle.std.specs.Fmt.{decimal}
use Rattle.zvt_runs.proofs.Parts.{then_three}
use Rattle.zvt_runs.proofs.notes.say_entry.Goals as goal

pub returns : goal.returns
returns c =
    then_three c.say_numbers.result c.args.text.now c.word.new.self c.number.new.self c.say_numbers.new.text _ (decimal c.args.entry.now.amount) _
    c.in_ok-word.ensures (c.in_ok-number.ensures ∙ ap (λ (n : ℕ). c.word.new.self ++ decimal n) c.get.ensures.value) c.say_numbers.ensures
