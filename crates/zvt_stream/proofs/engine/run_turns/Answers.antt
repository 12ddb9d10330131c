use Rattle.std.proofs.Common.{◌≡◌, true, false, ◌||◌, arith}
use Rattle.std.proofs.lemmas.Result.{err_from_is_err_and}
use Rattle.zvt_stream.specs.LineRun.{reached}
use Rattle.zvt_stream.proofs.PumpLemmas.{falls_short, gets_there, goes_on, runs_out, starts}
use Rattle.zvt_stream.proofs.TurnLemmas.{said}
use Rattle.zvt_stream.proofs.engine.run_turns.Goals as goal

pub turns-init : goal.turns-init
turns-init g c = record { under_way = starts _ _ _ _ _ _ c.held.ensures.unfinished; room = omega arith }

pub turns-preserved : goal.turns-preserved
turns-preserved g c =
    let told = c.in_ok-sent.ensures in
    let so_far = c.turns.invariant in
    let sent = c.turns.sent || c.in_ok-sent.field-0 in
    let not_there : reached c.args.until (g.M.Machine.is_resting c.turn.new.machine) sent ≡ false = said c.args.until c.resting.result (g.M.Machine.is_resting c.turn.new.machine) sent c.is_reached.result false c.resting.ensures c.is_reached.ensures c.if-is_reached.false in
    record {
      under_way = goes_on _ _ _ _ c.turns.made c.turns.sent c.in_ok-sent.field-0 _ _ _ _ _ _ so_far.under_way told.made not_there;
      room = omega (arith, told.room, so_far.room);
    }

pub returns-then-is_reached-clause-made : goal.returns-then-is_reached-clause-made
returns-then-is_reached-clause-made g c =
    let sent = c.turns.sent || c.in_ok-sent.field-0 in
    let there : reached c.args.until (g.M.Machine.is_resting c.turn.new.machine) sent ≡ true = said c.args.until c.resting.result (g.M.Machine.is_resting c.turn.new.machine) sent c.is_reached.result true c.resting.ensures c.is_reached.ensures c.if-is_reached.true in
    gets_there _ _ _ _ c.turns.made c.turns.sent c.in_ok-sent.field-0 _ _ _ _ _ _ c.turns-test.true c.turns.invariant.under_way c.in_ok-sent.ensures.made there

pub returns-in_err-sent-clause-made : goal.returns-in_err-sent-clause-made
returns-in_err-sent-clause-made g c =
    let p = err_from_is_err_and c.from_residual.result c.from_residual.ensures.1 in
    rw (p.1, p.2) (falls_short _ _ _ _ c.turns.made c.turns.sent _ _ _ _ _ _ _ c.turns-test.true c.turns.invariant.under_way c.in_err-sent.ensures.made)

pub returns-clause-made : goal.returns-clause-made
returns-clause-made g c = runs_out _ _ _ _ c.turns.made c.turns.sent _ _ _ _ (omega (arith, c.turns-test.false, c.turns.auto.made-end)) c.turns.invariant.under_way
