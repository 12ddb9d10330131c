-- The orders that move money and that the books don't follow, with what the terminal approved for each.
use Rattle.std.specs.Prelude.{◌≡◌, ℕ, Bool, true, false, cond, not, is_some, ◌&&◌, ◌||◌, if◌then◌else◌, Option, Some, None, List, [], ◌∷◌, ◌++◌, nat_eq, nat_lt, refl, slice_index}
use Rattle.std.specs.List.{filter_map, slice_get}
use Rattle.std.specs.Option.{option_and_then, option_map}
use Rattle.zvt_field.specs.Grammar.{plain}
use Rattle.zvt_field.specs.Named.{amount_of}
use Rattle.zvt_apdu.specs.Message.{Message, ack, nack, registration, authorisation, reversal, end_of_day, abort_order, status, intermediate, print_line, text_block, completion, abort, other}
use Rattle.zvt_apdu.specs.Views.{control_of}
use Rattle.zvt_till.specs.Segments.{Ended, end_of, status_of, up_to_order}
use Rattle.zvt_till.specs.Statuses.{is_value}
use Rattle.zvt_till.specs.declared.happenings.Happening.{Happening}
use Rattle.zvt_till.specs.declared.happenings.Happening.TheVariants.{Heard as HeardIn}
use Rattle.zvt_till.specs.declared.messages.Heard.TheVariants.{Positive}
use Rattle.zvt_till.specs.declared.messages.StatusFacts.{StatusFacts}
use Rattle.zvt_trace.specs.TraceEvent.{At, TraceEvent, on}
use Rattle.zvt_trace.specs.TraceEvent as trace_event
use Rattle.zvt_trace.specs.declared.direction.Direction.{Direction}
use Rattle.zvt_trace.specs.declared.direction.Direction.TheVariants.{FromTill, FromTerminal}
use Rattle.zvt_audit.specs.Happened.{happened_by}
use Rattle.zvt_audit.specs.declared.unfollowed.Approval.{Approval}
use Rattle.zvt_audit.specs.declared.unfollowed.Unfollowed.{Unfollowed}
use Rattle.zvt_audit.specs.declared.unfollowed.UnfollowedOrder.{UnfollowedOrder}
use Rattle.zvt_audit.specs.declared.unfollowed.Waiting.{Waiting}

-- ---- the orders

-- control bytes of an order that moves money and that the books don't follow: a refund, and the orders of a pre-authorisation
abbrev pub moves_apart : (control : List ℕ) → Bool
moves_apart control = nat_eq (slice_index control 0) 0x06 && (nat_eq (slice_index control 1) 0x31 || (nat_lt 0x21 (slice_index control 1) && nat_lt (slice_index control 1) 0x26))

-- a payment whose amount is not known: none, two, or zero
abbrev pub pays_unknown : Message → Bool
pays_unknown (ack payload) = false
pays_unknown (nack code payload) = false
pays_unknown (registration password config rest) = false
pays_unknown (authorisation fields) = not (is_some (amount_of fields))
pays_unknown (reversal password fields) = false
pays_unknown (end_of_day password fields) = false
pays_unknown (abort_order fields) = false
pays_unknown (status fields) = false
pays_unknown (intermediate step payload) = false
pays_unknown (print_line attribute text) = false
pays_unknown (text_block fields) = false
pays_unknown (completion fields) = false
pays_unknown (abort code payload) = false
pays_unknown (other high low payload) = false

abbrev pub is_unfollowed_from : Direction → Message → Bool
is_unfollowed_from FromTill message = moves_apart (control_of message) || pays_unknown message
is_unfollowed_from FromTerminal message = false

-- ---- what the terminal approved

-- result 0 and an amount, each of which appears exactly once; and the trace number, if it does
abbrev pub approval_in : StatusFacts → Option Approval
approval_in s = cond (is_value s.result 0) (option_map (λ amount. record { amount = amount; trace = s.trace }) s.amount) None

abbrev pub approval_by : Happening → Option Approval
approval_by happening = option_and_then approval_in (status_of happening)

-- of all answers to an order, those before its end
abbrev pub before_end : List Happening → Option Ended → List Happening
before_end answers None = answers
before_end answers (Some end) = end.before

-- the first approval among the answers to an order before its end
abbrev pub approval_of : (answers : List Happening) → Option Approval
approval_of answers = slice_get (filter_map approval_by (before_end answers (end_of answers))) 0

-- ---- the orders of a trace

-- an order of these control bytes, with its line
abbrev pub unfollowed_order : ℕ → List ℕ → Option Approval → UnfollowedOrder
unfollowed_order line control approved = record { line = line; high = slice_index control 0; low = slice_index control 1; approved = approved }

-- such an order, if a message of that side is one; what happens later, up to the next order, answers it
abbrev pub unfollowed_message : ℕ → Direction → Message → (later : List Happening) → Option UnfollowedOrder
unfollowed_message line from m later = if is_unfollowed_from from m then Some (unfollowed_order line (control_of m) (approval_of (up_to_order later))) else None

abbrev pub unfollowed_at : ℕ → TraceEvent → (later : List At) → Option UnfollowedOrder
unfollowed_at line (trace_event.message from m) later = unfollowed_message line from m (happened_by later)
unfollowed_at line (trace_event.refused from before byte why) later = None
unfollowed_at line (trace_event.unread from) later = None
unfollowed_at line (trace_event.resumed from size) later = None
unfollowed_at line (trace_event.cut_off from bytes) later = None
unfollowed_at line trace_event.lost later = None

-- one more order, if there is one
abbrev pub with_unfollowed : List UnfollowedOrder → Option UnfollowedOrder → List UnfollowedOrder
with_unfollowed orders None = orders
with_unfollowed orders (Some order) = orders ++ order ∷ []

-- the orders of the till that move money and that the books don't follow, in the order of the trace
abbrev pub unfollowed_in : List At → List UnfollowedOrder
unfollowed_in [] = []
unfollowed_in (event ∷ events) = with_unfollowed [] (unfollowed_at event.line event.trace_event events) ++ unfollowed_in events

-- ---- what is found so far

abbrev pub with_approval : UnfollowedOrder → Option Approval → UnfollowedOrder
with_approval order approved = record { line = order.line; high = order.high; low = order.low; approved = approved }

-- the answers that have accepted an order
abbrev pub accepted : Bool → List Happening
accepted false = []
accepted true = HeardIn Positive ∷ []

-- a waiting order, if this happens then
abbrev pub settled_by : (happened : List Happening) → Waiting → UnfollowedOrder
settled_by happened waiting = with_approval waiting.order (approval_of (accepted waiting.positive ++ up_to_order happened))

-- the orders, if this happens then and none of it is such an order
abbrev pub found_then : Unfollowed → (happened : List Happening) → List UnfollowedOrder
found_then so_far happened = with_unfollowed so_far.settled.items (option_map (settled_by happened) so_far.waiting)

-- the orders, if these events come then
abbrev pub found_with : Unfollowed → (later : List At) → List UnfollowedOrder
found_with so_far later = found_then so_far (happened_by later) ++ unfollowed_in later

-- after an event, the same orders are found with all that comes later
abbrev pub Finds : Unfollowed → At → Unfollowed → Type 0
Finds old event new = (later : List At) → found_with new later ≡ found_with old (event ∷ later)

-- the same after what happened without such an order
abbrev pub FindsBy : Unfollowed → List Happening → Unfollowed → Type 0
FindsBy old happened new = (later : List Happening) → found_then new later ≡ found_then old (happened ++ later)

-- ---- rows worked by hand

abbrev sent_by : (line : ℕ) → Direction → (low : ℕ) → At
sent_by line from low = on line (trace_event.message from (other 0x06 low []))

abbrev an_order : (line low : ℕ) → UnfollowedOrder
an_order line low = record { line = line; high = 0x06; low = low; approved = None }

a_refund : unfollowed_in (sent_by 1 FromTill 0x20 ∷ sent_by 4 FromTill 0x31 ∷ []) ≡ an_order 4 0x31 ∷ []
a_refund = refl

a_reservation : unfollowed_in (sent_by 1 FromTill 0x22 ∷ sent_by 7 FromTill 0x25 ∷ []) ≡ an_order 1 0x22 ∷ an_order 7 0x25 ∷ []
a_reservation = refl

a_diagnosis : unfollowed_in (sent_by 1 FromTill 0x70 ∷ sent_by 2 FromTill 0x26 ∷ sent_by 3 FromTill 0x21 ∷ []) ≡ []
a_diagnosis = refl

abbrev a_payment_of : List ℕ → At
a_payment_of amount = on 1 (trace_event.message FromTill (authorisation (plain 0x04 amount ∷ [])))

a_known_amount : unfollowed_in (a_payment_of (0 ∷ 0 ∷ 0 ∷ 0 ∷ 0x12 ∷ 0x34 ∷ []) ∷ []) ≡ []
a_known_amount = refl

no_amount : unfollowed_in (on 3 (trace_event.message FromTill (authorisation [])) ∷ []) ≡ an_order 3 0x01 ∷ []
no_amount = refl

-- a terminal gives no orders
an_echo : unfollowed_in (sent_by 1 FromTerminal 0x31 ∷ on 2 trace_event.lost ∷ []) ≡ []
an_echo = refl

abbrev approving : (line low : ℕ) → (amount : ℕ) → Option ℕ → UnfollowedOrder
approving line low amount trace = record { line = line; high = 0x06; low = low; approved = Some (record { amount = amount; trace = trace }) }

abbrev said : (line : ℕ) → Message → At
said line m = on line (trace_event.message FromTerminal m)

-- a status of this result that names 5.00 and the trace number 19
abbrev a_status : (result : ℕ) → Message
a_status result = status (plain 0x27 (result ∷ []) ∷ plain 0x04 (0 ∷ 0 ∷ 0 ∷ 0 ∷ 0x05 ∷ 0x00 ∷ []) ∷ plain 0x0B (0 ∷ 0 ∷ 0x19 ∷ []) ∷ [])

-- another amount, without a trace number
abbrev other_amount : Message
other_amount = status (plain 0x27 (0 ∷ []) ∷ plain 0x04 (0 ∷ 0 ∷ 0 ∷ 0 ∷ 0x07 ∷ 0x00 ∷ []) ∷ [])

approved_refund : unfollowed_in (sent_by 1 FromTill 0x31 ∷ said 2 (ack []) ∷ said 3 (a_status 0) ∷ said 5 (completion []) ∷ []) ≡ approving 1 0x31 500 (Some 19) ∷ []
approved_refund = refl

declined_refund : unfollowed_in (sent_by 1 FromTill 0x31 ∷ said 2 (ack []) ∷ said 3 (a_status 0x6C) ∷ said 5 (completion []) ∷ []) ≡ an_order 1 0x31 ∷ []
declined_refund = refl

first_approval : unfollowed_in (sent_by 1 FromTill 0x31 ∷ said 3 (a_status 0x6C) ∷ said 4 other_amount ∷ said 5 (a_status 0) ∷ []) ≡ approving 1 0x31 700 None ∷ []
first_approval = refl

-- each order has answers of its own
two_refunds : unfollowed_in (sent_by 1 FromTill 0x31 ∷ sent_by 2 FromTill 0x22 ∷ said 3 (a_status 0) ∷ sent_by 4 FromTill 0x31 ∷ said 5 other_amount ∷ []) ≡ an_order 1 0x31 ∷ approving 2 0x22 500 (Some 19) ∷ approving 4 0x31 700 None ∷ []
two_refunds = refl

followed_order : unfollowed_in (sent_by 1 FromTill 0x31 ∷ a_payment_of (0 ∷ 0 ∷ 0 ∷ 0 ∷ 0x05 ∷ 0x00 ∷ []) ∷ said 3 (a_status 0) ∷ []) ≡ an_order 1 0x31 ∷ []
followed_order = refl

-- the order to abort is no order of its own
aborting : unfollowed_in (sent_by 1 FromTill 0x31 ∷ on 2 (trace_event.message FromTill (abort_order [])) ∷ said 3 (a_status 0) ∷ []) ≡ approving 1 0x31 500 (Some 19) ∷ []
aborting = refl

after_completion : unfollowed_in (sent_by 1 FromTill 0x31 ∷ said 2 (completion []) ∷ said 3 (a_status 0) ∷ []) ≡ an_order 1 0x31 ∷ []
after_completion = refl

after_loss : unfollowed_in (sent_by 1 FromTill 0x31 ∷ on 2 trace_event.lost ∷ said 3 (a_status 0) ∷ []) ≡ an_order 1 0x31 ∷ []
after_loss = refl

-- a negative answer ends an order that is not accepted
not_accepted : unfollowed_in (sent_by 1 FromTill 0x31 ∷ said 2 (nack 0x83 []) ∷ said 3 (a_status 0) ∷ []) ≡ an_order 1 0x31 ∷ []
not_accepted = refl

accepted_before : unfollowed_in (sent_by 1 FromTill 0x31 ∷ said 2 (ack []) ∷ said 3 (nack 0x83 []) ∷ said 4 (a_status 0) ∷ []) ≡ approving 1 0x31 500 (Some 19) ∷ []
accepted_before = refl

two_amounts : unfollowed_in (sent_by 1 FromTill 0x31 ∷ said 2 (status (plain 0x27 (0 ∷ []) ∷ plain 0x04 (0 ∷ 0 ∷ 0 ∷ 0 ∷ 0x05 ∷ 0x00 ∷ []) ∷ plain 0x04 (0 ∷ 0 ∷ 0 ∷ 0 ∷ 0x05 ∷ 0x00 ∷ []) ∷ [])) ∷ []) ≡ an_order 1 0x31 ∷ []
two_amounts = refl
