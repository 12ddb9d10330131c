-- The notes of a trace: the log of its audit, in which each reversal names the payment that it takes back.
use Rattle.std.specs.Prelude.{◌≡◌, ℕ, ◌+◌, List, [], ◌∷◌, ◌++◌, length, Option, Some, None, fold, map, option_map, refl}
use Rattle.std.specs.List.{cons_option, flat_map}
use Rattle.std.specs.Option.{option_and_then}
use Rattle.zvt_field.specs.Grammar.{plain}
use Rattle.zvt_field.specs.Named.{receipt_of}
use Rattle.zvt_apdu.specs.Message.{Message, ack, nack, registration, authorisation, reversal, end_of_day, abort_order, status, intermediate, print_line, text_block, completion, abort, other}
use Rattle.zvt_till.specs.Books.{books}
use Rattle.zvt_till.specs.Segments.{begun}
use Rattle.zvt_till.specs.declared.entries.Entry.{Entry}
use Rattle.zvt_till.specs.declared.happenings.Happening.{Happening}
use Rattle.zvt_till.specs.declared.happenings.Happening.TheVariants.{Connected, Sent as SentOut}
use Rattle.zvt_till.specs.declared.happenings.Sent.{Sent}
use Rattle.zvt_till.specs.declared.happenings.Sent.TheVariants.{Pay, Reverse, Foreign}
use Rattle.zvt_trace.specs.TraceEvent.{At, TraceEvent, on}
use Rattle.zvt_trace.specs.TraceEvent as trace_event
use Rattle.zvt_trace.specs.declared.direction.Direction.{Direction}
use Rattle.zvt_trace.specs.declared.direction.Direction.TheVariants.{FromTill, FromTerminal}
use Rattle.zvt_audit.specs.Happened.{happened, happenings_of, log_of, ordered}
use Rattle.zvt_report.specs.Chapters.{Noted, chapters, happenings, noted}
use Rattle.zvt_report.specs.Day.{day_of, no_orders}
use Rattle.zvt_report.specs.Laws.{AreOfEntries}
use Rattle.zvt_report.specs.Naming.{reversing}
use Rattle.zvt_report.specs.declared.ordering.TillOrder.{TillOrder}
use Rattle.zvt_report.specs.declared.ordering.TillOrder.TheVariants.{Reversal, Plain}
use Rattle.zvt_report.specs.declared.rows.OrderRow.{OrderRow}

-- ---- one message

-- the order that a till gives by this message: a reversal with its receipt number, or what the audit's log has
abbrev pub order_in : Message → Option TillOrder
order_in (ack payload) = None
order_in (nack code payload) = None
order_in (registration password config rest) = option_map Plain (ordered (registration password config rest))
order_in (authorisation fields) = option_map Plain (ordered (authorisation fields))
order_in (reversal password fields) = Some (Reversal (receipt_of fields))
order_in (end_of_day password fields) = option_map Plain (ordered (end_of_day password fields))
order_in (abort_order fields) = option_map Plain (ordered (abort_order fields))
order_in (status fields) = None
order_in (intermediate step payload) = None
order_in (print_line attribute text) = None
order_in (text_block fields) = None
order_in (completion fields) = None
order_in (abort code payload) = None
order_in (other high low payload) = option_map Plain (ordered (other high low payload))

-- A reversal is of the last payment of this book with its receipt number.
abbrev pub sent_by : List Entry → TillOrder → Sent
sent_by book (Reversal receipt) = reversing book receipt
sent_by book (Plain order) = order

abbrev pub happened_with : List Entry → Direction → Message → Option Happening
happened_with book FromTill m = option_map (λ order. SentOut (sent_by book order)) (order_in m)
happened_with book FromTerminal m = happened FromTerminal m

abbrev pub happenings_with : List Entry → TraceEvent → List Happening
happenings_with book (trace_event.message from m) = cons_option (happened_with book from m) []
happenings_with book (trace_event.refused from before byte why) = happenings_of (trace_event.refused from before byte why)
happenings_with book (trace_event.unread from) = happenings_of (trace_event.unread from)
happenings_with book (trace_event.resumed from size) = happenings_of (trace_event.resumed from size)
happenings_with book (trace_event.cut_off from bytes) = happenings_of (trace_event.cut_off from bytes)
happenings_with book trace_event.lost = happenings_of trace_event.lost

-- ---- all events

-- one more event, after the day of these notes
abbrev pub with_event : List Noted → At → List Noted
with_event notes event = notes ++ map (noted event.line) (happenings_with (day_of notes).book event.trace_event)

-- the notes of a till that is connected, and then lives through the events
abbrev pub reported : List At → List Noted
reported events = fold with_event (noted 0 Connected ∷ []) events

-- ---- the messages of the orders

-- the order that a till begins by this message: any order but to abort one
abbrev pub beginning : Message → Option Sent
beginning m = option_and_then (λ order. begun (SentOut order)) (ordered m)

abbrev pub message_if : Message → Option Sent → List Message
message_if m None = []
message_if m (Some order) = m ∷ []

-- this message, if it begins an order
abbrev pub beginning_from : Direction → Message → List Message
beginning_from FromTill m = message_if m (beginning m)
beginning_from FromTerminal m = []

abbrev pub beginning_in : TraceEvent → List Message
beginning_in (trace_event.message from m) = beginning_from from m
beginning_in (trace_event.refused from before byte why) = []
beginning_in (trace_event.unread from) = []
beginning_in (trace_event.resumed from size) = []
beginning_in (trace_event.cut_off from bytes) = []
beginning_in trace_event.lost = []

-- the messages that begin an order, in the order of the trace
abbrev pub beginnings : List At → List Message
beginnings events = flat_map (λ (event : At). beginning_in event.trace_event) events

-- ---- laws

-- A report has the books of the audit of the same events.
abbrev pub SameBooksAsAudit : Type 0
SameBooksAsAudit = (events : List At) → books (happenings (reported events)) ≡ books (log_of events)

-- Each reversal of a report takes back an entry of the book before it.
abbrev pub EachReversalNamesAnEntry : Type 0
EachReversalNamesAnEntry = (events : List At) → AreOfEntries no_orders (chapters (reported events))

-- the lines of the messages that begin an order
abbrev pub beginning_lines : List At → List ℕ
beginning_lines events = flat_map (λ (event : At). map (λ (m : Message). event.line) (beginning_in event.trace_event)) events

-- There is a message for each row, and it ends at the line at which the row begins.
abbrev pub EachOrderHasAMessage : Type 0
EachOrderHasAMessage =
    (events : List At)
    → (length (beginnings events) ≡ length (day_of (reported events)).orders)
    × (beginning_lines events ≡ map (λ (row : OrderRow). row.first) (day_of (reported events)).orders)

-- ---- rows worked by hand

abbrev a_reversal : List ℕ → Message
a_reversal receipt = reversal (0 ∷ 0 ∷ 0 ∷ []) (plain 0x87 receipt ∷ [])

-- an approval of 5.00 under this trace number and receipt number
abbrev an_approval : (number : ℕ) → Message
an_approval number =
    status (plain 0x27 (0 ∷ []) ∷ plain 0x04 (0 ∷ 0 ∷ 0 ∷ 0 ∷ 0x05 ∷ 0x00 ∷ []) ∷ plain 0x0B (0 ∷ 0 ∷ number ∷ []) ∷ plain 0x87 (0 ∷ number ∷ []) ∷ [])

-- a payment of 5.00 that is completed at the line after this one
abbrev a_payment : (line number : ℕ) → List At
a_payment line number =
    on line (trace_event.message FromTill (authorisation (plain 0x04 (0 ∷ 0 ∷ 0 ∷ 0 ∷ 0x05 ∷ 0x00 ∷ []) ∷ [])))
    ∷ on (line + 1) (trace_event.message FromTerminal (an_approval number)) ∷ on (line + 1) (trace_event.message FromTerminal (completion [])) ∷ []

abbrev orders_of : List At → List Sent
orders_of events = map (λ (row : OrderRow). row.order) (day_of (reported events)).orders

-- the second payment has receipt number 8, and no payment has 9
named : orders_of (a_payment 1 7 ++ a_payment 3 8 ++ on 5 (trace_event.message FromTill (a_reversal (0 ∷ 8 ∷ []))) ∷ on 6 (trace_event.message FromTill (a_reversal (0 ∷ 9 ∷ []))) ∷ [])
    ≡ Pay 500 ∷ Pay 500 ∷ Reverse 1 ∷ Foreign ∷ []
named = refl

-- an order to abort begins none
begun_by : beginnings (a_payment 1 7 ++ on 3 (trace_event.message FromTill (abort_order [])) ∷ on 4 (trace_event.message FromTill (a_reversal (0 ∷ 7 ∷ []))) ∷ [])
    ≡ authorisation (plain 0x04 (0 ∷ 0 ∷ 0 ∷ 0 ∷ 0x05 ∷ 0x00 ∷ []) ∷ []) ∷ a_reversal (0 ∷ 7 ∷ []) ∷ []
begun_by = refl
