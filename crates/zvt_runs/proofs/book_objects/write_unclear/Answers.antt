use Rattle.std.proofs.Common.{codes}
use Rattle.zvt_runs.specs.BookObjects.{unclear_json}
use Rattle.zvt_runs.proofs.Parts.{one_more, two_parts}
use Rattle.zvt_runs.proofs.book_objects.write_unclear.Goals as goal

pub returns : goal.returns
unfolding unclear_json
returns c =
    let old = c.args.text.now in
    let one = one_more old c.say_amount.new.text c.say_time.new.text _ _ c.in_ok-say_amount.ensures c.in_ok-say_time.ensures in
    let two = one_more old c.say_time.new.text c.say_cause.new.text _ _ one c.in_ok-say_cause.ensures in
    let three = one_more old c.say_cause.new.text c.say_heard.new.text _ _ two c.in_ok-say_heard.ensures in
    two_parts c.word.result old c.say_heard.new.text c.word.new.self _ (codes "}}\n") three c.word.ensures
