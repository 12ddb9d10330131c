use Rattle.zvt_runs.specs.Settlements.{paid_json}
use Rattle.zvt_runs.proofs.Parts.{one_more, then_part}
use Rattle.zvt_runs.proofs.settlements.write_paid.Goals as goal

pub returns : goal.returns
unfolding paid_json
returns c =
    let old = c.args.text.now in
    let one = one_more old c.word.new.self c.say_receipt.new.text _ _ c.in_ok-word.ensures c.in_ok-say_receipt.ensures in
    let two = one_more old c.say_receipt.new.text c.say_trace.new.text _ _ one c.in_ok-say_trace.ensures in
    then_part c.say_counted.result old c.say_trace.new.text c.say_counted.new.text _ _ two c.say_counted.ensures
