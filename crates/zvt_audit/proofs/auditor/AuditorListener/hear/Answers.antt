use Rattle.std.proofs.Common.{refl}
use Rattle.zvt_trace.specs.TraceEvent as trace_event
use Rattle.zvt_audit.proofs.BecomeLemmas.{becomes_same}
use Rattle.zvt_audit.proofs.auditor.AuditorListener.hear.Goals as goal

pub returns-in-Unread : goal.returns-in-Unread
returns-in-Unread c = rw c.in-Unread.is (becomes_same c.args.self.now c.args.line (trace_event.unread c.in-Unread.from) refl refl refl (λ later. refl) refl)

pub returns-in-Resumed : goal.returns-in-Resumed
returns-in-Resumed c = rw c.in-Resumed.is (becomes_same c.args.self.now c.args.line (trace_event.resumed c.in-Resumed.from c.in-Resumed.size) refl refl refl (λ later. refl) refl)

pub returns-in-CutOff : goal.returns-in-CutOff
returns-in-CutOff c = rw c.in-CutOff.is (becomes_same c.args.self.now c.args.line (trace_event.cut_off c.in-CutOff.from c.in-CutOff.bytes.now) refl refl refl (λ later. refl) refl)
