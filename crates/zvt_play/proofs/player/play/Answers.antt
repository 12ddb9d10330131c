use Rattle.std.proofs.Common.{rules, ◌∙◌, ◌≡◌, ℕ, [], arith, length, refl, subst, sym, take}
use Rattle.zvt_play.specs.Playing.{StopsPlay, WritesAll, acts_of, line_state}
use Rattle.zvt_play.specs.declared.difference.Difference.{Difference}
use Rattle.zvt_play.specs.declared.difference.Difference.TheVariants.{Surplus}
use Rattle.zvt_play.specs.declared.difference.Unplayed.{Unplayed}
use Rattle.zvt_play.specs.Unheard.{unheard_in}
use Rattle.zvt_play.proofs.PlayLemmas.{ends_after, one_more, sent, sent_before, sent_to, stops_at_end, stops_here}
use Rattle.zvt_play.proofs.player.play.Goals as goal

pub returns-in-Ok-false-clause-ok : goal.returns-in-Ok-false-clause-ok
returns-in-Ok-false-clause-ok g c =
    let ended = rw c.in-Ok-false.field-0-test at c.in-Ok-false.ensures.ok in
    ends_after c.args.end.now.stream.reading c.args.steps.now c.loop-at.at c.index-steps-at.result (line_state [] (g.R.Source.remaining c.args.end.now.reader) (g.W.Sink.written c.args.end.now.writer) c.args.end.now.stream.lent c.args.names.now)
    (line_state (unheard_in c.loop-at.unheard) (g.R.Source.remaining c.loop-at.end.reader) (g.W.Sink.written c.loop-at.end.writer) c.loop-at.end.stream.lent c.loop-at.names)
    (line_state (unheard_in c.take_step.new.unheard) (g.R.Source.remaining c.take_step.new.end.reader) (g.W.Sink.written c.take_step.new.end.writer) c.take_step.new.end.stream.lent c.take_step.new.names) c.loop-at-test.true c.index-steps-at.is c.loop-at.invariant.plays ended

pub returns-in-Ok-false-clause-sent : goal.returns-in-Ok-false-clause-sent
returns-in-Ok-false-clause-sent g c =
    let ended = rw c.in-Ok-false.field-0-test at c.in-Ok-false.ensures.ok in
    sent_to c.args.end.now.stream.reading c.args.steps.now c.loop-at.at (line_state [] (g.R.Source.remaining c.args.end.now.reader) (g.W.Sink.written c.args.end.now.writer) c.args.end.now.stream.lent c.args.names.now)
    (g.R.Source.remaining c.take_step.new.end.reader) (g.W.Sink.written c.take_step.new.end.writer) c.take_step.new.end.stream.lent c.take_step.new.names
    (ends_after c.args.end.now.stream.reading c.args.steps.now c.loop-at.at c.index-steps-at.result (line_state [] (g.R.Source.remaining c.args.end.now.reader) (g.W.Sink.written c.args.end.now.writer) c.args.end.now.stream.lent c.args.names.now)
    (line_state (unheard_in c.loop-at.unheard) (g.R.Source.remaining c.loop-at.end.reader) (g.W.Sink.written c.loop-at.end.writer) c.loop-at.end.stream.lent c.loop-at.names)
    (line_state (unheard_in c.take_step.new.unheard) (g.R.Source.remaining c.take_step.new.end.reader) (g.W.Sink.written c.take_step.new.end.writer) c.take_step.new.end.stream.lent c.take_step.new.names) c.loop-at-test.true c.index-steps-at.is c.loop-at.invariant.plays ended)

pub returns-in-Err-clause-err : goal.returns-in-Err-clause-err
returns-in-Err-clause-err g c =
    stops_here c.args.end.now.stream.reading c.args.steps.now c.loop-at.at c.index-steps-at.result c.in-Err.why (line_state [] (g.R.Source.remaining c.args.end.now.reader) (g.W.Sink.written c.args.end.now.writer) c.args.end.now.stream.lent c.args.names.now)
    (line_state (unheard_in c.loop-at.unheard) (g.R.Source.remaining c.loop-at.end.reader) (g.W.Sink.written c.loop-at.end.writer) c.loop-at.end.stream.lent c.loop-at.names)
    (unheard_in c.take_step.new.unheard) (g.R.Source.remaining c.take_step.new.end.reader) (g.W.Sink.written c.take_step.new.end.writer) c.take_step.new.end.stream c.take_step.new.names c.loop-at-test.true c.index-steps-at.is c.loop-at.invariant.plays (rw c.loop-at.invariant.ready.reading at c.in-Err.ensures.err)

pub returns-in-Err-clause-sent_before : goal.returns-in-Err-clause-sent_before
returns-in-Err-clause-sent_before g c =
    sent_before c.args.end.now.stream.reading c.args.steps.now (record { step = c.loop-at.at; why = c.in-Err.why }) (line_state [] (g.R.Source.remaining c.args.end.now.reader) (g.W.Sink.written c.args.end.now.writer) c.args.end.now.stream.lent c.args.names.now)
    (g.R.Source.remaining c.take_step.new.end.reader) (g.W.Sink.written c.take_step.new.end.writer) c.take_step.new.end.stream c.take_step.new.names
    (stops_here c.args.end.now.stream.reading c.args.steps.now c.loop-at.at c.index-steps-at.result c.in-Err.why (line_state [] (g.R.Source.remaining c.args.end.now.reader) (g.W.Sink.written c.args.end.now.writer) c.args.end.now.stream.lent c.args.names.now)
    (line_state (unheard_in c.loop-at.unheard) (g.R.Source.remaining c.loop-at.end.reader) (g.W.Sink.written c.loop-at.end.writer) c.loop-at.end.stream.lent c.loop-at.names)
    (unheard_in c.take_step.new.unheard) (g.R.Source.remaining c.take_step.new.end.reader) (g.W.Sink.written c.take_step.new.end.writer) c.take_step.new.end.stream c.take_step.new.names c.loop-at-test.true c.index-steps-at.is c.loop-at.invariant.plays (rw c.loop-at.invariant.ready.reading at c.in-Err.ensures.err))

pub loop-at-preserved : goal.loop-at-preserved
loop-at-preserved g c =
    let played = rw (c.in-Ok-true.field-0-test, c.loop-at.invariant.ready.reading) at c.in-Ok-true.ensures.ok in
    record {
      plays = one_more c.args.end.now.stream.reading c.args.steps.now c.loop-at.at c.index-steps-at.result (line_state [] (g.R.Source.remaining c.args.end.now.reader) (g.W.Sink.written c.args.end.now.writer) c.args.end.now.stream.lent c.args.names.now)
          (line_state (unheard_in c.loop-at.unheard) (g.R.Source.remaining c.loop-at.end.reader) (g.W.Sink.written c.loop-at.end.writer) c.loop-at.end.stream.lent c.loop-at.names)
          (line_state (unheard_in c.take_step.new.unheard) (g.R.Source.remaining c.take_step.new.end.reader) (g.W.Sink.written c.take_step.new.end.writer) c.take_step.new.end.stream.lent c.take_step.new.names) c.loop-at-test.true c.index-steps-at.is c.loop-at.invariant.plays played;
      ready = rw c.loop-at.invariant.ready.reading at c.in-Ok-true.ensures.ready;
      reads = c.in-Ok-true.ensures.reads ∙ c.loop-at.invariant.reads;
      writes = c.in-Ok-true.ensures.writes ∙ c.loop-at.invariant.writes;
    }

pub returns-in-Ok-clause-sent : goal.returns-in-Ok-clause-sent
returns-in-Ok-clause-sent g c =
    let all : c.loop-at.at ≡ length c.args.steps.now = omega (arith, c.loop-at-test.false, c.loop-at.auto.at-end) in
    subst (λ (n : ℕ). WritesAll (take n (acts_of c.args.steps.now)) c.args.names.now c.loop-at.names (g.W.Sink.written c.args.end.now.writer) (g.W.Sink.written c.loop-at.end.writer)) all
    (sent c.args.end.now.stream.reading (take c.loop-at.at (acts_of c.args.steps.now)) (line_state [] (g.R.Source.remaining c.args.end.now.reader) (g.W.Sink.written c.args.end.now.writer) c.args.end.now.stream.lent c.args.names.now)
    (line_state (unheard_in c.loop-at.unheard) (g.R.Source.remaining c.loop-at.end.reader) (g.W.Sink.written c.loop-at.end.writer) c.loop-at.end.stream.lent c.loop-at.names) c.loop-at.invariant.plays)

pub returns-in-Err-all_heard-clause-sent_before : goal.returns-in-Err-all_heard-clause-sent_before
returns-in-Err-all_heard-clause-sent_before g c = λ _.
    let all : c.loop-at.at ≡ length c.args.steps.now = omega (arith, c.loop-at-test.false, c.loop-at.auto.at-end) in
    subst (λ (n : ℕ). WritesAll (take n (acts_of c.args.steps.now)) c.args.names.now c.loop-at.names (g.W.Sink.written c.args.end.now.writer) (g.W.Sink.written c.loop-at.end.writer)) all
    (sent c.args.end.now.stream.reading (take c.loop-at.at (acts_of c.args.steps.now)) (line_state [] (g.R.Source.remaining c.args.end.now.reader) (g.W.Sink.written c.args.end.now.writer) c.args.end.now.stream.lent c.args.names.now)
    (line_state (unheard_in c.loop-at.unheard) (g.R.Source.remaining c.loop-at.end.reader) (g.W.Sink.written c.loop-at.end.writer) c.loop-at.end.stream.lent c.loop-at.names) c.loop-at.invariant.plays)

pub returns-in-Err-all_heard-clause-err : goal.returns-in-Err-all_heard-clause-err
returns-in-Err-all_heard-clause-err g c =
    let all : c.loop-at.at ≡ length c.args.steps.now = omega (arith, c.loop-at-test.false, c.loop-at.auto.at-end) in
    let why : Difference = c.in-Err-all_heard.why in
    let count : ℕ = length (unheard_in c.loop-at.unheard) in
    let surplus : why ≡ Surplus count = c.in-Err-all_heard.ensures.err.0 in
    let stops = stops_at_end c.args.end.now.stream.reading c.args.steps.now c.loop-at.at count (line_state [] (g.R.Source.remaining c.args.end.now.reader) (g.W.Sink.written c.args.end.now.writer) c.args.end.now.stream.lent c.args.names.now)
    (unheard_in c.loop-at.unheard) (g.R.Source.remaining c.loop-at.end.reader) (g.W.Sink.written c.loop-at.end.writer) c.loop-at.end.stream c.loop-at.names all c.loop-at.invariant.plays refl c.in-Err-all_heard.ensures.err.1 in
    let P : Unplayed → Type 0 = λ u. StopsPlay c.args.end.now.stream.reading c.args.steps.now u (line_state [] (g.R.Source.remaining c.args.end.now.reader) (g.W.Sink.written c.args.end.now.writer) c.args.end.now.stream.lent c.args.names.now) (g.R.Source.remaining c.loop-at.end.reader) (g.W.Sink.written c.loop-at.end.writer) c.loop-at.end.stream c.loop-at.names in
    let by_step : P (record { step = length c.args.steps.now; why = Surplus count }) = subst (λ (n : ℕ). P (record { step = n; why = Surplus count })) all stops in
    subst (λ (w : Difference). P (record { step = length c.args.steps.now; why = w })) (sym surplus) by_step

pub returns-in-Err-clause-sent : goal.returns-in-Err-clause-sent
returns-in-Err-clause-sent c = search rules

pub returns-in-Err-clause-ok : goal.returns-in-Err-clause-ok
returns-in-Err-clause-ok c = search rules
