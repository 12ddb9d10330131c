use Rattle.std.proofs.Common.{ap, sym, ◌∙◌}
use Rattle.zvt_stream.specs.LineReading.{reading_as}
use Rattle.zvt_stream.specs.StreamState.{StreamState}
use Rattle.zvt_runs.specs.Runs.{noting}
use Rattle.zvt_runs.specs.TillEnd.{BeginsThere, MakesThere}
use Rattle.zvt_runs.proofs.OverTcpLemmas.{begun_there, silenced, silenced_write, traced_write}
use Rattle.zvt_runs.proofs.tcp.runs.run_till.Goals as goal

pub returns-clause-run : goal.returns-clause-run
returns-clause-run g c =
    let makes = noting g.N.NoteSource.noted (MakesThere g.K.Keeper.orders g.K.Machine.hears g.K.Machine.is_resting g.K.Keeper.failed g.K.Keeper.till g.K.Machine.loses g.K.Machine.malforms g.K.Asker.asks g.K.Asker.settling) in
    let read = ap (λ (s : StreamState). s.reading) c.in_ok-line.ensures.start in
    let ran = begun_there g.K.Keeper.connects g.K.Keeper.failed g.K.Keeper.till makes _ (reading_as c.args.run.now.line) c.args.run.now.options c.args.run.now.plan.now c.args.till.now c.run_till_end-answer.new.till _ _ _ _ c.run_till_end-answer.result read c.run_till_end-answer.ensures.run in
    silenced g.K.Keeper.connects g.K.Keeper.failed g.K.Keeper.till makes (BeginsThere (reading_as c.args.run.now.line)) c.args.run.now.options c.args.run.now.plan.now c.args.till.now c.run_till_end-answer.new.till _ _ _ _
    c.is_broken.result c.waited.result c.run_till_end-answer.result c.by_trace-answer.result c.by_silence.result c.by_trace-answer.ensures c.by_silence.ensures ran

pub returns-clause-write : goal.returns-clause-write
returns-clause-write g c = λ is.
    c.run_till_end-answer.ensures.write (traced_write c.is_broken.result c.run_till_end-answer.result (sym c.by_trace-answer.ensures ∙ silenced_write c.waited.result c.by_trace-answer.result (sym c.by_silence.ensures ∙ is)))
