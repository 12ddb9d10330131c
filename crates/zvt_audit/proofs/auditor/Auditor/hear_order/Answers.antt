use Rattle.std.proofs.Common.{◌≡◌, List, [], ◌∷◌, Option, sym, subst, ◌∙◌, ap}
use Rattle.std.specs.List.{cons_option}
use Rattle.std.specs.Option.{option_map}
use Rattle.zvt_till.specs.declared.happenings.Happening.{Happening}
use Rattle.zvt_till.specs.declared.happenings.Happening.TheVariants.{Sent as SentOut}
use Rattle.zvt_till.specs.declared.happenings.Sent.{Sent}
use Rattle.zvt_trace.specs.TraceEvent as trace_event
use Rattle.zvt_trace.specs.declared.direction.Direction.TheVariants.{FromTill}
use Rattle.zvt_audit.specs.Audited.{Takes}
use Rattle.zvt_audit.specs.Currencies.{named_after}
use Rattle.zvt_audit.specs.Ends.{lines_of}
use Rattle.zvt_audit.specs.Happened.{happenings_of}
use Rattle.zvt_audit.specs.Orders.{noticed_kind}
use Rattle.zvt_audit.proofs.BecomeLemmas.{takes_no}
use Rattle.zvt_audit.proofs.EndLemmas.{ends_noticed, none_ended, where_ok}
use Rattle.zvt_audit.proofs.auditor.Auditor.hear_order.Goals as goal

pub returns-in_ok-take-in-Some : goal.returns-in_ok-take-in-Some
returns-in_ok-take-in-Some c =
    let old = c.args.self.now in
    let sent : happenings_of (trace_event.message FromTill c.args.apdu.now) ≡ SentOut c.in-Some.order ∷ [] =
    ap (λ (o : Option Sent). cons_option (option_map SentOut o) []) (sym c.ordered-order.ensures ∙ c.in-Some.is) in
    let takes : Takes old.books c.take.new.self (happenings_of (trace_event.message FromTill c.args.apdu.now)) =
    subst (λ (l : List Happening). Takes old.books c.take.new.self l) (sym sent) c.in_ok-take-in-Some.ensures in
    where_ok c.notice-in-Some.result (λ noticed. (takes, c.notice.ensures ∙ ap (noticed_kind old.orders FromTill) c.kind.ensures, c.notice-3.ensures ∙ ap (named_after old.named) c.currency.ensures, ends_noticed old.books c.take.new.self _ c.args.line (lines_of old.ends) (lines_of c.notice-in-Some.new.self) takes noticed, c.in_ok-notice.ensures)) c.notice-in-Some.ensures

pub returns-in-None : goal.returns-in-None
returns-in-None c =
    let old = c.args.self.now in
    let none : happenings_of (trace_event.message FromTill c.args.apdu.now) ≡ [] =
    ap (λ (o : Option Sent). cons_option (option_map SentOut o) []) (sym c.ordered-order.ensures ∙ c.in-None.is) in
    (takes_no old.books _ none, c.notice.ensures ∙ ap (noticed_kind old.orders FromTill) c.kind.ensures, c.notice-3.ensures ∙ ap (named_after old.named) c.currency.ensures, λ before event is at judged ended. none_ended (lines_of old.ends) before event (is ∙ none) ended, c.in_ok-notice.ensures)
