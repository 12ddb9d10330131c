use Rattle.std.proofs.Common.{◌≡◌, false, refl, sym, ◌∙◌, ap}
use Rattle.zvt_apdu.specs.Kinds.{kind_of}
use Rattle.zvt_trace.specs.TraceEvent.{on}
use Rattle.zvt_trace.specs.TraceEvent as trace_event
use Rattle.zvt_trace.specs.declared.direction.Direction.TheVariants.{FromTerminal}
use Rattle.zvt_audit.specs.Ends.{can_end, lines_of}
use Rattle.zvt_audit.specs.Orders.{noticed_kind}
use Rattle.zvt_audit.specs.Unfollowed.{Finds}
use Rattle.zvt_audit.proofs.UnfollowedLemmas.{finds_by}
use Rattle.zvt_audit.proofs.EndLemmas.{ends_noticed, passing_ended, where_ok}
use Rattle.zvt_audit.proofs.auditor.Auditor.hear_terminal.Goals as goal

pub returns-then-can_end : goal.returns-then-can_end
returns-then-can_end c =
    let old = c.args.self.now in
    let found : Finds old.unfollowed (on c.args.line (trace_event.message FromTerminal c.args.apdu.now)) c.hear-2.new.self =
    finds_by old.unfollowed c.hear-2.new.self (on c.args.line (trace_event.message FromTerminal c.args.apdu.now)) (λ later. refl) c.in_ok-hear-2.ensures in
    where_ok c.notice-then-can_end.result (λ noticed. (c.in_ok-hear.ensures, c.notice.ensures ∙ ap (noticed_kind old.orders FromTerminal) c.kind-kind.ensures, refl, ends_noticed old.books c.hear.new.self _ c.args.line (lines_of old.ends) (lines_of c.notice-then-can_end.new.self) c.in_ok-hear.ensures noticed, found)) c.notice-then-can_end.ensures

pub returns-else-can_end : goal.returns-else-can_end
returns-else-can_end c =
    let old = c.args.self.now in
    let passes : can_end (kind_of c.args.apdu.now) ≡ false = ap can_end (sym c.kind-kind.ensures) ∙ sym c.can_end.ensures ∙ c.if-can_end.false in
    let found : Finds old.unfollowed (on c.args.line (trace_event.message FromTerminal c.args.apdu.now)) c.hear-2.new.self =
    finds_by old.unfollowed c.hear-2.new.self (on c.args.line (trace_event.message FromTerminal c.args.apdu.now)) (λ later. refl) c.in_ok-hear-2.ensures in
    (c.in_ok-hear.ensures, c.notice.ensures ∙ ap (noticed_kind old.orders FromTerminal) c.kind-kind.ensures, refl, λ before event is at judged ended. passing_ended c.args.apdu.now old.books (lines_of old.ends) passes before event is judged ended, found)
