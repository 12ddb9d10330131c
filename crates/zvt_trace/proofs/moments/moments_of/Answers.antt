use Rattle.std.proofs.Common.{rules, arith}
use Rattle.zvt_trace.proofs.MomentLemmas.{all_bad, all_times, one_bad, one_time}
use Rattle.zvt_trace.proofs.moments.moments_of.Goals as goal

pub lines-preserved : goal.lines-preserved
lines-preserved c =
    let inv = c.lines.invariant in (
      rw c.mark_after-mark.ensures (one_time c.lines.number c.lines.mark c.lines.rest.now c.next_line.result.0.now c.next_line.result.1.now _ c.lines.times.items c.add_time.new.times.items c.next_line.ensures.lines inv.0 c.in_ok-add_time.ensures),
      one_bad c.lines.number c.lines.rest.now c.next_line.result.0.now c.next_line.result.1.now _ c.lines.bad.items c.add_bad.new.bad.items c.next_line.ensures.lines inv.1 c.in_ok-add_bad.ensures,
      omega (arith, inv.2, c.next_line.ensures.some),
    )

pub returns-clause-times : goal.returns-clause-times
returns-clause-times c = all_times c.lines.number c.lines.mark c.lines.rest.now _ c.lines.times.items (search rules) c.lines.invariant.0

pub returns-clause-bad : goal.returns-clause-bad
returns-clause-bad c = all_bad c.lines.number c.lines.rest.now _ c.lines.bad.items (search rules) c.lines.invariant.1
