-- What an auditor becomes by an event.
use Rattle.std.proofs.Common.{◌≡◌, ℕ, Bool, false, ◌||◌, List, [], ◌++◌, None, refl, sym, ◌∙◌, ap, ap₂, subst, append_assoc, append-nil}
use Rattle.zvt_apdu.specs.Kinds.{kind_of}
use Rattle.zvt_apdu.specs.Message.{Message, ack}
use Rattle.zvt_apdu.specs.declared.kinds.Kind.TheVariants as kind
use Rattle.zvt_till.specs.Judging.{BooksSoFar, HasJudged}
use Rattle.zvt_till.specs.declared.happenings.Happening.{Happening}
use Rattle.zvt_till.proofs.HeardLemmas.{or-false}
use Rattle.zvt_trace.specs.TraceEvent.{At, TraceEvent, on}
use Rattle.zvt_trace.specs.TraceEvent as trace_event
use Rattle.zvt_trace.specs.declared.direction.Direction.TheVariants.{FromTill, FromTerminal}
use Rattle.zvt_audit.specs.Audited.{Becomes, BecomesBy, Takes}
use Rattle.zvt_audit.specs.Currencies.{named_after, named_by}
use Rattle.zvt_audit.specs.Ends.{lines_of}
use Rattle.zvt_audit.specs.Happened.{happenings_of}
use Rattle.zvt_audit.specs.Orders.{is_order_from, noticed}
use Rattle.zvt_audit.specs.Unfollowed.{found_then, unfollowed_at}
use Rattle.zvt_audit.specs.declared.auditor.Auditor.{Auditor}
use Rattle.zvt_audit.specs.declared.orders.Orders.{Orders}
use Rattle.zvt_audit.proofs.EndLemmas.{none_ended}
use Rattle.zvt_audit.proofs.UnfollowedLemmas.{finds_by}

-- nothing happened
pub takes_none : (books : BooksSoFar) → Takes books books []
takes_none books = λ log judged. subst (λ (l : List Happening). HasJudged l books) (sym (append-nil log)) judged

-- one thing after another
pub takes_more : (a b c : BooksSoFar) (x y : List Happening) → Takes a b x → Takes b c y → Takes a c (x ++ y)
takes_more a b c x y first second = λ log judged. subst (λ (l : List Happening). HasJudged l c) (append_assoc log x y) (second (log ++ x) (first log judged))

pub takes_no : (books : BooksSoFar) (happened : List Happening) → happened ≡ [] → Takes books books happened
takes_no books happened none = subst (λ (l : List Happening). Takes books books l) (sym none) (takes_none books)

unordered : (orders : Orders) (event : TraceEvent) → is_order_from FromTill event ≡ false → is_order_from FromTerminal event ≡ false → orders ≡ noticed orders event
unordered orders event till terminal = rw (till, terminal) (ap₂ (λ (a b : Bool). record { till = a; terminal = b }) (or-false orders.till) (or-false orders.terminal))

-- an event that is no order
pub becomes_by : (old new : Auditor) (line : ℕ) (event : TraceEvent) → is_order_from FromTill event ≡ false → is_order_from FromTerminal event ≡ false → ((later : List At) → unfollowed_at line event later ≡ None) → named_by event ≡ None
    → BecomesBy old (happenings_of event) line new → Becomes old (on line event) new
becomes_by old new line event till terminal none unnamed (takes, orders, named, ends, found) = (
  takes,
  orders ∙ unordered old.orders event till terminal,
  named ∙ ap (named_after old.named) (sym unnamed),
  ends,
  finds_by old.unfollowed new.unfollowed (on line event) none found,
)

-- an event by which nothing happened, and that is no order
pub becomes_same : (old : Auditor) (line : ℕ) (event : TraceEvent) → happenings_of event ≡ [] → is_order_from FromTill event ≡ false → is_order_from FromTerminal event ≡ false → ((later : List At) → unfollowed_at line event later ≡ None) → named_by event ≡ None → Becomes old (on line event) old
becomes_same old line event none till terminal unfollowed unnamed =
    becomes_by old old line event till terminal unfollowed unnamed (
      takes_no old.books (happenings_of event) none,
      refl,
      refl,
      λ before next is at judged ended. none_ended (lines_of old.ends) before next (is ∙ none) ended,
      λ later. ap (λ (l : List Happening). found_then old.unfollowed (l ++ later)) (sym none),
    )

pub becomes_by_ack : (old : Auditor) (line : ℕ) (m : Message) → kind_of m ≡ kind.Ack → Becomes old (on line (trace_event.message FromTill m)) old
becomes_by_ack old line (ack payload) is = becomes_same old line (trace_event.message FromTill (ack payload)) refl refl refl (λ later. refl) refl
becomes_by_ack old line m is = absurd cc
