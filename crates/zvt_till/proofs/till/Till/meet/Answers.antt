use Rattle.std.proofs.Common.{rules, subst}
use Rattle.zvt_till.specs.UsedTraces.{AreTracesOf}
use Rattle.zvt_till.specs.View.{TillValue}
use Rattle.zvt_till.proofs.DistinctLemmas.{outcome-new}
use Rattle.zvt_till.proofs.till.Till.meet.Goals as goal

pub finish-requires-clause-books : goal.finish-requires-clause-books
finish-requires-clause-books c =
    let traces : AreTracesOf c.self.inside.used c.args.self.now.state.book =
    subst (λ (t : TillValue). AreTracesOf c.self.inside.used t.state.book) c.self.view_is c.self.invariant.0 in
    rw (c.outcome_by-outcome.ensures c.args.self.now.state.book traces)
    (outcome-new c.args.self.now.state.book c.in_ok-running.running.order c.in_ok-running.running.statuses c.args.happening.now)

pub returns-then-ends-clause-state : goal.returns-then-ends-clause-state
returns-then-ends-clause-state c = search rules

pub returns-then-ends-clause-outcome : goal.returns-then-ends-clause-outcome
returns-then-ends-clause-outcome c = search rules

pub returns-then-ends-clause-numbers : goal.returns-then-ends-clause-numbers
returns-then-ends-clause-numbers c = search rules
