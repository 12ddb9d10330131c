use Rattle.std.proofs.Common.{◌≡◌, take}
use Rattle.zvt_runs.specs.Runs.{noting, standing}
use Rattle.zvt_runs.specs.Reporting.{ReportedSoFar}
use Rattle.zvt_runs.proofs.Runs.{SoFar}
use Rattle.zvt_runs.proofs.steps.run_steps.Given as goal

abbrev pub invariant-steps : goal.invariant-steps
invariant-steps g l = record {
  so_far : SoFar g.K.Keeper.till (noting g.N.NoteSource.noted g.L.StepLine.makes) l.fn.steps.options (ReportedSoFar l.reports (g.E.Sink.written l.initial.report) (g.E.Sink.written l.report) (g.E.Sink.failures l.initial.report) (g.E.Sink.failures l.report)) (take l.planned-index l.fn.steps.plan.now) l.short (standing l.initial.line l.initial.till) (standing l.line l.till) (g.W.Sink.written l.initial.writer) (g.W.Sink.written l.writer);
  failures : g.W.Sink.failures l.writer ≡ g.W.Sink.failures l.initial.writer;
}
