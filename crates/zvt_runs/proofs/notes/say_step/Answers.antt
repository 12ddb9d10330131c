use Rattle.zvt_runs.proofs.Parts.{two_parts}
use Rattle.zvt_runs.proofs.notes.say_step.Goals as goal

pub returns : goal.returns
returns c = two_parts c.number.result c.args.text.now c.word.new.self c.number.new.self _ _ c.in_ok-word.ensures c.number.ensures
