use Rattle.std.proofs.Common.{[], ◌∷◌}
use Rattle.zvt_runs.proofs.Parts.{one_more, two_parts}
use Rattle.zvt_runs.proofs.books.say_entry.Goals as goal

pub returns : goal.returns
returns c =
    let old = c.args.text.now in
    let one = one_more old c.say_booked.new.text c.say_reversed.new.text _ _ c.in_ok-say_booked.ensures c.in_ok-say_reversed.ensures in
    let two = one_more old c.say_reversed.new.text c.say_doubt.new.text _ _ one c.in_ok-say_doubt.ensures in
    let three = one_more old c.say_doubt.new.text c.say_note.new.text _ _ two c.in_ok-say_note.ensures in
    two_parts c.push.result old c.say_note.new.text c.push.new.self _ (10 ∷ []) three c.push.ensures
