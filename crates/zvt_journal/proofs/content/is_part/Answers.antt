use Rattle.std.proofs.Common.{◌≤◌, ◌<◌, ◌∙◌, length, rules, sym}
use Rattle.zvt_journal.proofs.Begun.{past_end}
use Rattle.zvt_journal.proofs.content.is_part.Goals as goal

pub returns-then-at-wanted : goal.returns-then-at-wanted
returns-then-at-wanted c =
    let lt : c.loop-at.at < length c.args.part.now = search rules in
    let le : length c.args.wanted.now ≤ c.loop-at.at = search rules in
    sym (past_end c.args.part.now c.args.wanted.now c.loop-at.at lt le) ∙ c.loop-at.invariant.so_far
