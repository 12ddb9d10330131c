use Rattle.std.proofs.Common.{◌+◌, ◌-◌, length, drop, sym, arith, length-drop, ◌≤◌}
use Rattle.std.proofs.lemmas.List.{take_all}
use Rattle.zvt_trace.proofs.LineLemmas.{lines-first, lines-last}
use Rattle.zvt_trace.proofs.lines.next_line.Goals as goal

pub returns-in-Some-clause-lines : goal.returns-in-Some-clause-lines
returns-in-Some-clause-lines c =
    let rest = c.args.rest.now in
    let all : length (drop (c.in-Some.end + 1) rest) ≤ length rest - (c.in-Some.end + 1) = rw (length-drop (c.in-Some.end + 1) rest) (omega arith) in
    rw (take_all _ _ all, c.without_return.ensures.value) (lines-first rest c.in-Some.end (sym c.in-Some.ensures.place))

pub returns-in-None-clause-lines : goal.returns-in-None-clause-lines
returns-in-None-clause-lines c = lines-last c.args.rest.now c.requires (sym c.in-None.ensures.place)
