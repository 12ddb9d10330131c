use Rattle.std.proofs.Common.{[]}
use Rattle.zvt_tap.specs.Chunks.{trace_text}
use Rattle.zvt_tap.specs.Log.{HasFound}
use Rattle.zvt_tap.specs.Traced.{failures_by, traced_by}
use Rattle.zvt_tap.proofs.LogLemmas.{all_fails, all_logged, fails_more, found_stopped, stop_fails}
use Rattle.zvt_tap.proofs.RelayLemmas.{always, by_observed}
use Rattle.zvt_tap.proofs.line.tap_line.Goals as goal

pub returns-clause-tapped : goal.returns-clause-tapped
returns-clause-tapped g c = λ r reads_on first held has.
    let found = c.end_log.result in
    by_observed _ _ _ _ _ _ c.run_relay-ended.result
    (λ chunks all. c.end_log.ensures.found r reads_on (trace_text chunks) first held (all_logged g.T.Sink.written g.T.Sink.failures g.O.Sink.written r reads_on [] first held chunks c.args.log c.run_relay-ended.new.log all has))
    (found_stopped g.T.Sink.written g.T.Sink.failures g.O.Sink.written r reads_on first held
    (λ trace. HasFound r reads_on trace first held found.tracing.failed (traced_by g.T.Sink.written found.tracing.trace) (g.O.Sink.written found.output) found.shown found.audited) found.tracing.failed c.args.log c.run_relay-ended.new.log
    (λ trace observed. c.end_log.ensures.found r reads_on trace first held observed) c.end_log.ensures.failed.1 has)
    c.run_relay-ended.ensures.relayed

pub returns-clause-failed : goal.returns-clause-failed
returns-clause-failed g c =
    fails_more c.args.log.recorder.failed c.run_relay-ended.new.log.recorder.failed c.end_log.result.tracing.failed (failures_by g.T.Sink.failures c.args.log.recorder.trace) (failures_by g.T.Sink.failures c.run_relay-ended.new.log.recorder.trace) (failures_by g.T.Sink.failures c.end_log.result.tracing.trace)
    (always _ _ _ c.run_relay-ended.result (by_observed _ _ _ _ _ _ c.run_relay-ended.result
    (λ chunks all. all_fails g.T.Sink.written g.T.Sink.failures g.O.Sink.written chunks c.args.log c.run_relay-ended.new.log all)
    (λ why chunks last missed. stop_fails g.T.Sink.written g.T.Sink.failures g.O.Sink.written why chunks last c.args.log c.run_relay-ended.new.log missed)
    c.run_relay-ended.ensures.relayed))
    c.end_log.ensures.failed
