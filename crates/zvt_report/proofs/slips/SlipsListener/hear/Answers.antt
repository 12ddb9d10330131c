use Rattle.std.proofs.Common.{refl}
use Rattle.zvt_trace.specs.TraceEvent.{on}
use Rattle.zvt_trace.specs.TraceEvent as trace_event
use Rattle.zvt_report.proofs.SlipLemmas.{other_prints}
use Rattle.zvt_report.proofs.slips.SlipsListener.hear.Goals as goal

pub returns-in_ok-close-in-Refused : goal.returns-in_ok-close-in-Refused
returns-in_ok-close-in-Refused c =
    rw c.in-Refused.is (other_prints c.args.self.now c.close.new.self
    (on c.args.line (trace_event.refused c.in-Refused.from c.in-Refused.refusal.before.now c.in-Refused.refusal.byte c.in-Refused.refusal.why)) refl refl c.in_ok-close-in-Refused.ensures)

pub returns-in_ok-close-in-Lost : goal.returns-in_ok-close-in-Lost
returns-in_ok-close-in-Lost c = rw c.in-Lost.is (other_prints c.args.self.now c.close-in-Lost.new.self (on c.args.line trace_event.lost) refl refl c.in_ok-close-in-Lost.ensures)

pub returns-in_ok-close-in-Unread : goal.returns-in_ok-close-in-Unread
returns-in_ok-close-in-Unread c =
    rw c.in-Unread.is (other_prints c.args.self.now c.close-in-Unread.new.self (on c.args.line (trace_event.unread c.in-Unread.from)) refl refl c.in_ok-close-in-Unread.ensures)

pub returns-in_ok-close-in-Resumed : goal.returns-in_ok-close-in-Resumed
returns-in_ok-close-in-Resumed c =
    rw c.in-Resumed.is (other_prints c.args.self.now c.close-in-Resumed.new.self (on c.args.line (trace_event.resumed c.in-Resumed.from c.in-Resumed.size)) refl refl c.in_ok-close-in-Resumed.ensures)

pub returns-in_ok-close-in-CutOff : goal.returns-in_ok-close-in-CutOff
returns-in_ok-close-in-CutOff c =
    rw c.in-CutOff.is (other_prints c.args.self.now c.close-in-CutOff.new.self (on c.args.line (trace_event.cut_off c.in-CutOff.from c.in-CutOff.bytes.now)) refl refl c.in_ok-close-in-CutOff.ensures)
