use Rattle.std.proofs.Common.{◌+◌, Err, ap, arith, inl, inr, refl, sym, ◌∙◌}
use Rattle.zvt_stream.specs.EndState.{end_state}
use Rattle.zvt_stream.specs.LineRun.{failed_writes}
use Rattle.zvt_stream.proofs.PumpLemmas.{comes_read, comes_there, comes_whole, turns_read}
use Rattle.zvt_settle.proofs.Silence.{hearings-stay, reported-silent, resting-rests, taken-stays, unsent-silent}
use Rattle.zvt_settle.proofs.line.run_ask.Goals as goal

-- ---- the ask was not sent

pub returns-in-Err-clause-over : goal.returns-in-Err-clause-over
returns-in-Err-clause-over g c = unsent-silent g.met.K.Asker.is_asker c.in-Err.fault c.args.till.now c.send_ask.new.till _ _ c.in-Err.ensures.err

-- ---- the line broke

pub returns-in-Err-pump-clause-runs : goal.returns-in-Err-pump-clause-runs
returns-in-Err-pump-clause-runs g c =
    inr (inl (
      c.in-Err-pump.fault,
      refl,
      record {
        asking = c.send_ask.new.till;
        middle = _;
        begins =
            record {
              sends = c.in_default.ensures.ok;
              unread =
                  ap
                  (λ n. end_state c.args.stream.now (g.R.Source.remaining c.args.reader.now) (g.W.Sink.written c.send_ask.new.writer) (g.R.Source.reads c.args.reader.now) (g.R.Source.failures c.args.reader.now) n)
                  c.in_default.ensures.failures;
            };
        gives_up = c.in-Err-pump.ensures.pumps;
      },
    ))

pub returns-in-Err-pump-clause-over : goal.returns-in-Err-pump-clause-over
returns-in-Err-pump-clause-over g c =
    let gave_up = c.in-Err-pump.ensures.pumps in
    reported-silent g.met.K.Asker.is_asker c.in-Err-pump.fault gave_up.middle c.pump.new.machine gave_up.reported

pub returns-in-Err-pump-clause-reads : goal.returns-in-Err-pump-clause-reads
returns-in-Err-pump-clause-reads g c = turns_read _ _ _ _ _ _ _ _ (Err c.in-Err-pump.fault) c.in-Err-pump.ensures.pumps.falls_short

pub returns-in-Err-pump-clause-reader_failures : goal.returns-in-Err-pump-clause-reader_failures
returns-in-Err-pump-clause-reader_failures g c = c.in-Err-pump.ensures.pumps.falls_short.one_fails.reads

pub returns-in-Err-pump-clause-writer_failures : goal.returns-in-Err-pump-clause-writer_failures
returns-in-Err-pump-clause-writer_failures g c =
    c.in-Err-pump.ensures.pumps.falls_short.one_fails.writes ∙ ap (λ n. n + failed_writes c.in-Err-pump.fault) c.in_default.ensures.failures

-- ---- the book failed

pub returns-then-has_failed-clause-over : goal.returns-then-has_failed-clause-over
returns-then-has_failed-clause-over g c =
    let is_asker = g.met.K.Asker.is_asker in
    let sends = c.in_default.ensures.ok in
    let heard = (comes_there _ _ _ _ _ _ _ _ c.in_default-pump.ensures.pumps).1.course.heard in
    hearings-stay is_asker c.send_ask.new.till c.pump.new.machine heard.messages heard.answers heard.heard
    (taken-stays is_asker c.args.till.now sends.bytes c.send_ask.new.till sends.asked) (sym c.has_failed.ensures ∙ c.if-has_failed.true)

pub returns-then-has_failed-clause-reads : goal.returns-then-has_failed-clause-reads
returns-then-has_failed-clause-reads g c = comes_read _ _ _ _ _ _ _ _ c.in_default-pump.ensures.pumps

pub returns-then-has_failed-clause-reader_failures : goal.returns-then-has_failed-clause-reader_failures
returns-then-has_failed-clause-reader_failures g c = let none = comes_whole _ _ _ _ _ _ _ _ c.in_default-pump.ensures.pumps in omega (arith, none.reads)

pub returns-then-has_failed-clause-writer_failures : goal.returns-then-has_failed-clause-writer_failures
returns-then-has_failed-clause-writer_failures g c = let none = comes_whole _ _ _ _ _ _ _ _ c.in_default-pump.ensures.pumps in omega (arith, none.writes, c.in_default.ensures.failures)

-- ---- the line came to where nothing runs

pub returns-clause-rests : goal.returns-clause-rests
returns-clause-rests g c = resting-rests g.met.K.Asker.is_asker c.pump.new.machine (comes_there _ _ _ _ _ _ _ _ c.in_default-pump.ensures.pumps).2

pub returns-clause-reads : goal.returns-clause-reads
returns-clause-reads g c = comes_read _ _ _ _ _ _ _ _ c.in_default-pump.ensures.pumps

pub returns-clause-reader_failures : goal.returns-clause-reader_failures
returns-clause-reader_failures g c = let none = comes_whole _ _ _ _ _ _ _ _ c.in_default-pump.ensures.pumps in omega (arith, none.reads)

pub returns-clause-writer_failures : goal.returns-clause-writer_failures
returns-clause-writer_failures g c = let none = comes_whole _ _ _ _ _ _ _ _ c.in_default-pump.ensures.pumps in omega (arith, none.writes, c.in_default.ensures.failures)
