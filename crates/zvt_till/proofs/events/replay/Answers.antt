use Rattle.std.proofs.Common.{[], ◌∷◌, ◌++◌, take, ap, sym, ◌∙◌, add-one, arith}
use Rattle.std.proofs.lemmas.Grind.{common_steps}
use Rattle.std.proofs.Math.Seq.{take-suc}
use Rattle.zvt_till.specs.declared.events.Event.{Event}
use Rattle.zvt_till.specs.Doubts.{unclear_reversals}
use Rattle.zvt_till.proofs.Runs.{tied-facts}
use Rattle.zvt_till.proofs.Lines.{leads-snoc}
use Rattle.zvt_till.proofs.events.replay.Goals as goal

pub loop-event-preserved : goal.loop-event-preserved
loop-event-preserved c =
    let events = c.args.events.now in
    let event = c.event-item.result in
    let line = c.loop-event.invariant.line in
    let next = c.in_ok-event.ensures.follows line.0 line.2 in
    let item = ap (λ (e : Event). take c.loop-event.event-index events ++ e ∷ []) (sym c.event-item.is) in
    let longer = ap (λ k. take k events) (add-one c.loop-event.event-index) ∙ take-suc events c.loop-event.event-index event c.loop-event-test.true ∙ item in
    record {
      tied = c.in_ok-event.ensures.tied;
      line = (next.0, rw longer (leads-snoc [] [] (take c.loop-event.event-index events) event c.loop-event.run.log.items c.event.new.self.log.items line.0 next.0 line.1 next.1), next.2);
    }

pub returns-clause-facts : goal.returns-clause-facts
returns-clause-facts c = tied-facts _ _ _ c.loop-event.invariant.tied

pub returns-clause-book : goal.returns-clause-book
returns-clause-book c = ap (λ f. f.book) (tied-facts _ _ _ c.loop-event.invariant.tied)

pub returns-clause-unclear : goal.returns-clause-unclear
returns-clause-unclear c = ap (λ f. f.unclear) (tied-facts _ _ _ c.loop-event.invariant.tied)

pub returns-clause-reversals : goal.returns-clause-reversals
returns-clause-reversals c = ap (λ f. unclear_reversals f.book) (tied-facts _ _ _ c.loop-event.invariant.tied)

pub returns-clause-log : goal.returns-clause-log
returns-clause-log c = grind (arith, common_steps)
