use Rattle.zvt_runs.proofs.Gone.{says_broke}
use Rattle.zvt_runs.proofs.tcp.reports.say_gone.Goals as goal

pub returns-in_ok-format-in-Some : goal.returns-in_ok-format-in-Some
returns-in_ok-format-in-Some c =
    rw c.in-Some.is
    (says_broke c.word-in-Some-3.result c.args.till c.in-Some.fault c.args.text.now c.word-in-Some.new.self c.number-in-Some.new.self c.word-in-Some-2.new.self c.word-in-Some-3.new.self _ c.in_ok-word-in-Some.ensures c.in_ok-number-in-Some.ensures c.in_ok-word-in-Some-2.ensures c.word-in-Some-3.ensures)
