use Rattle.std.proofs.Common.{refl}
use Rattle.zvt_trace.specs.TraceEvent.{on}
use Rattle.zvt_trace.specs.TraceEvent as trace_event
use Rattle.zvt_report.proofs.ReporterLemmas.{reports_same}
use Rattle.zvt_report.proofs.StatementLemmas.{pass_states}
use Rattle.zvt_report.proofs.reporter.ReporterListener.hear.Goals as goal

pub returns-in-Unread : goal.returns-in-Unread
returns-in-Unread c = rw c.in-Unread.is (reports_same c.args.self.now (on c.args.line (trace_event.unread c.in-Unread.from)) (λ book. refl) refl refl refl
    (pass_states c.args.self.now.hearing _ refl (λ a. refl) refl refl))

pub returns-in-Resumed : goal.returns-in-Resumed
returns-in-Resumed c = rw c.in-Resumed.is (reports_same c.args.self.now (on c.args.line (trace_event.resumed c.in-Resumed.from c.in-Resumed.size)) (λ book. refl) refl refl refl
    (pass_states c.args.self.now.hearing _ refl (λ a. refl) refl refl))

pub returns-in-CutOff : goal.returns-in-CutOff
returns-in-CutOff c = rw c.in-CutOff.is (reports_same c.args.self.now (on c.args.line (trace_event.cut_off c.in-CutOff.from c.in-CutOff.bytes.now)) (λ book. refl) refl refl refl
    (pass_states c.args.self.now.hearing _ refl (λ a. refl) refl refl))
