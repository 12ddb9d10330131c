use Rattle.std.proofs.Common.{◌+◌, Bool, Err, List, ℕ, Option, Result, ap, arith, inl, inr, refl, sym, ◌∙◌}
use Rattle.zvt_apdu.specs.Message.{Message}
use Rattle.zvt_stream.specs.Answered.{Answered}
use Rattle.zvt_stream.specs.EndState.{EndState}
use Rattle.zvt_stream.specs.LineRun.{failed_writes}
use Rattle.zvt_stream.specs.Pumping.{Comes as ComesOnLine}
use Rattle.zvt_stream.specs.declared.line.Until.TheVariants.{Rest}
use Rattle.zvt_stream.proofs.PumpLemmas.{comes_first, comes_read, comes_there, comes_whole, turns_read}
use Rattle.zvt_till.specs.Line.{Comes, Sends}
use Rattle.zvt_till.specs.View.{TillValue}
use Rattle.zvt_till.specs.declared.keeper.Untaken.{Untaken}
use Rattle.zvt_till.specs.declared.orders.Order.{Order}
use Rattle.zvt_till.specs.declared.orders.Outgoing.{Outgoing}
use Rattle.zvt_till.proofs.Accepted.{rests-known}
use Rattle.zvt_till.proofs.Keepers.{heard-before, hearings-keep, hearings-known, hearings-stay, reported-ended, reported-keeps, taken-keeps, taken-known, taken-stays, unsent-keeps, unsent-over}
use Rattle.zvt_till.proofs.Room.{keeps-twice}
use Rattle.zvt_till.proofs.line.run_order.Goals as goal

-- an order that was sent, on a line that then came to where the till rests
came : {K : Type 0} (orders : K → Order → Result Outgoing Untaken → K → Type 0) (hears : K → Message → Answered → K → Type 0) (is_resting failed : K → Bool) (order : Order) (old sent new : K) (first : Option (List ℕ)) (before after : EndState) (turns : ℕ)
    → Sends orders order old sent first before.written → ComesOnLine hears is_resting Rest turns before sent after new
    → Comes orders hears is_resting failed order before.stream after.stream old new before.coming after.coming first after.written turns before.reads after.reads
came orders hears is_resting failed order old sent new first before after turns sends comes =
    let there = comes_there hears is_resting Rest turns before after sent new comes in
    record { sent_till = sent; between = before.written; answered = there.0; sends = sends; pumped = there.1; ends = comes_first hears is_resting Rest turns before after sent new comes; rests = there.2 }

-- ---- the order was not sent

pub returns-in-Err-clause-room : goal.returns-in-Err-clause-room
returns-in-Err-clause-room g c = unsent-keeps g.met.K.Keeper.follows c.in-Err.fault c.args.order c.args.till.now c.send_order.new.till _ _ c.in-Err.ensures.err

pub returns-in-Err-clause-over : goal.returns-in-Err-clause-over
returns-in-Err-clause-over g c = unsent-over g.met.K.Keeper.follows c.in-Err.fault c.args.order c.args.till.now c.send_order.new.till _ _ c.in-Err.ensures.err

-- ---- the line broke

pub returns-in-Err-pump-clause-err : goal.returns-in-Err-pump-clause-err
returns-in-Err-pump-clause-err g c =
    let gave_up = c.in-Err-pump.ensures.pumps in
    inr (inl (
      c.in-Err-pump.fault,
      refl,
      record {
        sent_till = c.send_order.new.till;
        between = g.W.Sink.written c.send_order.new.writer;
        middle = gave_up.middle;
        sends = c.in_default.ensures.ok;
        broken = gave_up.falls_short.broken;
        falters = gave_up.falls_short.falters;
        reported = gave_up.reported;
      },
    ))

pub returns-in-Err-pump-clause-over : goal.returns-in-Err-pump-clause-over
returns-in-Err-pump-clause-over g c =
    let follows = g.met.K.Keeper.follows in
    let sends = c.in_default.ensures.ok in
    let known = taken-known follows c.args.till.now c.args.order sends.outgoing c.send_order.new.till sends.ordered in
    let gave_up = c.in-Err-pump.ensures.pumps in
    let broken = gave_up.falls_short.broken in
    let heard = heard-before g.K.Machine.hears c.in-Err-pump.fault _ _ broken.read broken.written c.send_order.new.till gave_up.middle broken.breaks in
    reported-ended follows c.in-Err-pump.fault gave_up.middle c.pump.new.machine gave_up.reported (hearings-known follows c.send_order.new.till gave_up.middle heard.0 heard.1 heard.2 known)

pub returns-in-Err-pump-clause-room : goal.returns-in-Err-pump-clause-room
returns-in-Err-pump-clause-room g c =
    let follows = g.met.K.Keeper.follows in
    let sends = c.in_default.ensures.ok in
    let gave_up = c.in-Err-pump.ensures.pumps in
    let broken = gave_up.falls_short.broken in
    let heard = heard-before g.K.Machine.hears c.in-Err-pump.fault _ _ broken.read broken.written c.send_order.new.till gave_up.middle broken.breaks in
    taken-keeps follows c.args.till.now c.args.order sends.outgoing c.send_order.new.till c.pump.new.machine sends.ordered
    (keeps-twice (g.K.Keeper.till c.send_order.new.till) (g.K.Keeper.till gave_up.middle) (g.K.Keeper.till c.pump.new.machine) (hearings-keep follows c.send_order.new.till gave_up.middle heard.0 heard.1 heard.2)
    (reported-keeps follows c.in-Err-pump.fault gave_up.middle c.pump.new.machine gave_up.reported))

pub returns-in-Err-pump-clause-reads : goal.returns-in-Err-pump-clause-reads
returns-in-Err-pump-clause-reads g c = turns_read _ _ _ _ _ _ _ _ (Err c.in-Err-pump.fault) c.in-Err-pump.ensures.pumps.falls_short

pub returns-in-Err-pump-clause-reader_failures : goal.returns-in-Err-pump-clause-reader_failures
returns-in-Err-pump-clause-reader_failures g c = c.in-Err-pump.ensures.pumps.falls_short.one_fails.reads

pub returns-in-Err-pump-clause-writer_failures : goal.returns-in-Err-pump-clause-writer_failures
returns-in-Err-pump-clause-writer_failures g c =
    c.in-Err-pump.ensures.pumps.falls_short.one_fails.writes ∙ ap (λ n. n + failed_writes c.in-Err-pump.fault) c.in_default.ensures.failures

-- ---- the line came to where the till rests

pub returns-then-has_failed-clause-err : goal.returns-then-has_failed-clause-err
returns-then-has_failed-clause-err g c =
    inr (inr (refl, sym c.has_failed.ensures ∙ c.if-has_failed.true, came _ _ _ _ _ _ _ _ _ _ _ _ c.in_default.ensures.ok c.in_default-pump.ensures.pumps))

pub returns-then-has_failed-clause-over : goal.returns-then-has_failed-clause-over
returns-then-has_failed-clause-over g c =
    let follows = g.met.K.Keeper.follows in
    let sends = c.in_default.ensures.ok in
    let heard = (comes_there _ _ _ _ _ _ _ _ c.in_default-pump.ensures.pumps).1.course.heard in
    (hearings-stay follows c.send_order.new.till c.pump.new.machine heard.messages heard.answers heard.heard
    (taken-stays follows c.args.till.now c.args.order sends.outgoing c.send_order.new.till sends.ordered)).1 (sym c.has_failed.ensures ∙ c.if-has_failed.true)

pub returns-then-has_failed-clause-room : goal.returns-then-has_failed-clause-room
returns-then-has_failed-clause-room g c =
    let follows = g.met.K.Keeper.follows in
    let sends = c.in_default.ensures.ok in
    let heard = (comes_there _ _ _ _ _ _ _ _ c.in_default-pump.ensures.pumps).1.course.heard in
    taken-keeps follows c.args.till.now c.args.order sends.outgoing c.send_order.new.till c.pump.new.machine sends.ordered
    (hearings-keep follows c.send_order.new.till c.pump.new.machine heard.messages heard.answers heard.heard)

pub returns-then-has_failed-clause-reads : goal.returns-then-has_failed-clause-reads
returns-then-has_failed-clause-reads g c = comes_read _ _ _ _ _ _ _ _ c.in_default-pump.ensures.pumps

pub returns-then-has_failed-clause-reader_failures : goal.returns-then-has_failed-clause-reader_failures
returns-then-has_failed-clause-reader_failures g c = let none = comes_whole _ _ _ _ _ _ _ _ c.in_default-pump.ensures.pumps in omega (arith, none.reads)

pub returns-then-has_failed-clause-writer_failures : goal.returns-then-has_failed-clause-writer_failures
returns-then-has_failed-clause-writer_failures g c = let none = comes_whole _ _ _ _ _ _ _ _ c.in_default-pump.ensures.pumps in omega (arith, none.writes, c.in_default.ensures.failures)

pub returns-in-Some-clause-ok : goal.returns-in-Some-clause-ok
returns-in-Some-clause-ok g c = record {
  comes = came _ _ _ _ _ _ _ _ _ _ _ _ c.in_default.ensures.ok c.in_default-pump.ensures.pumps;
  came = ap (λ (t : TillValue). t.state.last_outcome) (sym c.look.ensures) ∙ sym c.last_outcome.ensures ∙ c.in-Some.is;
  whole = sym c.has_failed.ensures ∙ c.if-has_failed.false;
}

pub returns-in-Some-clause-room : goal.returns-in-Some-clause-room
returns-in-Some-clause-room g c =
    let follows = g.met.K.Keeper.follows in
    let sends = c.in_default.ensures.ok in
    let heard = (comes_there _ _ _ _ _ _ _ _ c.in_default-pump.ensures.pumps).1.course.heard in
    taken-keeps follows c.args.till.now c.args.order sends.outgoing c.send_order.new.till c.pump.new.machine sends.ordered
    (hearings-keep follows c.send_order.new.till c.pump.new.machine heard.messages heard.answers heard.heard)

pub returns-in-Some-clause-reads : goal.returns-in-Some-clause-reads
returns-in-Some-clause-reads g c = comes_read _ _ _ _ _ _ _ _ c.in_default-pump.ensures.pumps

pub returns-in-Some-clause-reader_failures : goal.returns-in-Some-clause-reader_failures
returns-in-Some-clause-reader_failures g c = let none = comes_whole _ _ _ _ _ _ _ _ c.in_default-pump.ensures.pumps in omega (arith, none.reads)

pub returns-in-Some-clause-writer_failures : goal.returns-in-Some-clause-writer_failures
returns-in-Some-clause-writer_failures g c = let none = comes_whole _ _ _ _ _ _ _ _ c.in_default-pump.ensures.pumps in omega (arith, none.writes, c.in_default.ensures.failures)

-- after a run that ended, an outcome is known
pub returns-in-None : goal.returns-in-None
returns-in-None g c =
    let follows = g.met.K.Keeper.follows in
    let sends = c.in_default.ensures.ok in
    let known = taken-known follows c.args.till.now c.args.order sends.outgoing c.send_order.new.till sends.ordered in
    let pumped = comes_there _ _ _ _ _ _ _ _ c.in_default-pump.ensures.pumps in
    let heard = pumped.1.course.heard in
    absurd (rests-known (g.K.Keeper.till c.pump.new.machine).state (follows.rests_as c.pump.new.machine pumped.2)
    (hearings-known follows c.send_order.new.till c.pump.new.machine heard.messages heard.answers heard.heard known)
    (ap (λ (t : TillValue). t.state.last_outcome) (sym c.look.ensures) ∙ sym c.last_outcome.ensures ∙ c.in-None.is))
