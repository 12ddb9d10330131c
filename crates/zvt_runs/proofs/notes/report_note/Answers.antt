use Rattle.std.proofs.Common.{Bool, subst}
use Rattle.zvt_runs.specs.Reporting.{ReportedSoFar}
use Rattle.zvt_runs.proofs.Noted.{not_noted}
use Rattle.zvt_runs.proofs.notes.report_note.Goals as goal

pub returns-then-not-works : goal.returns-then-not-works
returns-then-not-works g c = λ first count told notes.
    not_noted c.args.note.now first (g.E.Sink.written c.args.report.now) count (g.E.Sink.failures c.args.report.now) told
    (subst (λ (works : Bool). ReportedSoFar works first (g.E.Sink.written c.args.report.now) count (g.E.Sink.failures c.args.report.now) told) c.if-not-works.true notes)
