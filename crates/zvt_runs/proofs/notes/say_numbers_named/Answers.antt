use Rattle.zvt_runs.proofs.Parts.{then_part}
use Rattle.zvt_runs.proofs.notes.say_numbers_named.Goals as goal

pub returns : goal.returns
returns c = then_part c.say_named.result c.args.text.now c.word.new.self c.say_named.new.text _ _ c.in_ok-word.ensures c.say_named.ensures
