use Rattle.std.proofs.Common.{◌∙◌, arith, refl}
use Rattle.std.proofs.lemmas.Result.{err_from_is_err_and}
use Rattle.zvt_tap.specs.Watching.{Loses, Records}
use Rattle.zvt_tap.proofs.RelayLemmas.{both_ended, not_begun, turn_ended, turn_failed, turn_passed}
use Rattle.zvt_tap.proofs.relay.run_relay.Goals as goal

pub loop-turn-init : goal.loop-turn-init
loop-turn-init g c = record {
  so_far = not_begun (Records g.K.Observer.observes g.K.Observer.misses g.V.Observer.observes g.V.Observer.misses) c.args.log.now _;
  reads = refl;
  writes = refl;
  waits = omega arith;
  line = refl;
}

pub returns-in_err-turn-clause-relayed : goal.returns-in_err-turn-clause-relayed
returns-in_err-turn-clause-relayed g c =
    let p = err_from_is_err_and c.from_residual.result c.from_residual.ensures.1 in
    rw (p.1, p.2) (turn_failed (Records g.K.Observer.observes g.K.Observer.misses g.V.Observer.observes g.V.Observer.misses) (Loses g.K.Observer.observes g.K.Observer.misses g.V.Observer.observes g.V.Observer.misses) c.in-Some.from c.args.log.now c.loop-turn.log c.turn.new.log _ _ _ c.loop-turn.ended c.in_err-turn.field-0.0 c.loop-turn.invariant.so_far c.in_err-turn.ensures.passed)

pub loop-turn-preserved-then-branch : goal.loop-turn-preserved-then-branch
loop-turn-preserved-then-branch g c = record {
  so_far = turn_passed (Records g.K.Observer.observes g.K.Observer.misses g.V.Observer.observes g.V.Observer.misses) (Loses g.K.Observer.observes g.K.Observer.misses g.V.Observer.observes g.V.Observer.misses) c.in-Some.from c.args.log.now c.loop-turn.log c.turn.new.log _ _ _ c.loop-turn.ended c.in_ok-turn.field-0 c.if-branch.true c.loop-turn.invariant.so_far c.in_ok-turn.ensures.passed;
  reads = c.in_ok-turn.ensures.faults.0 ∙ c.loop-turn.invariant.reads;
  writes = c.in_ok-turn.ensures.faults.1 ∙ c.loop-turn.invariant.writes;
  waits = omega (arith, c.in-Some.ensures.counted, c.loop-turn.invariant.waits);
  line = c.in-Some.ensures.failures ∙ c.loop-turn.invariant.line;
}

pub returns-then-ended-2-clause-relayed : goal.returns-then-ended-2-clause-relayed
returns-then-ended-2-clause-relayed g c =
    both_ended (Records g.K.Observer.observes g.K.Observer.misses g.V.Observer.observes g.V.Observer.misses) (Loses g.K.Observer.observes g.K.Observer.misses g.V.Observer.observes g.V.Observer.misses) c.args.log.now c.turn.new.log _ _ c.after-ended.result c.if-ended.true c.if-ended-2.true
    (turn_ended (Records g.K.Observer.observes g.K.Observer.misses g.V.Observer.observes g.V.Observer.misses) (Loses g.K.Observer.observes g.K.Observer.misses g.V.Observer.observes g.V.Observer.misses) c.in-Some.from c.args.log.now c.loop-turn.log c.turn.new.log _ _ _ c.loop-turn.ended c.after-ended.result c.in_ok-turn.field-0 c.if-branch.false c.after-ended.ensures c.loop-turn.invariant.so_far c.in_ok-turn.ensures.passed)

pub loop-turn-preserved : goal.loop-turn-preserved
loop-turn-preserved g c = record {
  so_far = turn_ended (Records g.K.Observer.observes g.K.Observer.misses g.V.Observer.observes g.V.Observer.misses) (Loses g.K.Observer.observes g.K.Observer.misses g.V.Observer.observes g.V.Observer.misses) c.in-Some.from c.args.log.now c.loop-turn.log c.turn.new.log _ _ _ c.loop-turn.ended c.after-ended.result c.in_ok-turn.field-0 c.if-branch.false c.after-ended.ensures c.loop-turn.invariant.so_far c.in_ok-turn.ensures.passed;
  reads = c.in_ok-turn.ensures.faults.0 ∙ c.loop-turn.invariant.reads;
  writes = c.in_ok-turn.ensures.faults.1 ∙ c.loop-turn.invariant.writes;
  waits = omega (arith, c.end.ensures.counted, c.in-Some.ensures.counted, c.loop-turn.invariant.waits);
  line = c.end.ensures.failures ∙ c.in-Some.ensures.failures ∙ c.loop-turn.invariant.line;
}
