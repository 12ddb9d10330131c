-- What a trace emits, as happenings on a till's line.
use Rattle.std.specs.Prelude.{ℕ, List, [], ◌∷◌, Option, Some, None, option_map}
use Rattle.std.specs.List.{cons_option, flat_map}
use Rattle.zvt_field.specs.Named.{amount_of}
use Rattle.zvt_apdu.specs.Views.{currency_in}
use Rattle.zvt_apdu.specs.Message.{Message, ack, nack, registration, authorisation, reversal, end_of_day, abort_order, status, intermediate, print_line, text_block, completion, abort, other}
use Rattle.zvt_till.specs.Hearing.{heard_as}
use Rattle.zvt_till.specs.declared.happenings.Happening.{Happening}
use Rattle.zvt_till.specs.declared.happenings.Happening.TheVariants.{Connected, Sent as SentOut, Heard as HeardIn, Malformed, Lost}
use Rattle.zvt_till.specs.declared.happenings.Sent.{Sent}
use Rattle.zvt_till.specs.declared.happenings.Sent.TheVariants.{Register, Pay, CloseDay, Cancel, Foreign}
use Rattle.zvt_trace.specs.TraceEvent.{At, TraceEvent}
use Rattle.zvt_trace.specs.TraceEvent as trace_event
use Rattle.zvt_trace.specs.declared.direction.Direction.{Direction}
use Rattle.zvt_trace.specs.declared.direction.Direction.TheVariants.{FromTill, FromTerminal}

-- ---- one message

-- a payment is known by its amount, where that appears exactly once
abbrev pub paid : Option ℕ → Sent
paid None = Foreign
paid (Some amount) = Pay amount

-- the order that a till gives by this message
abbrev pub ordered : Message → Option Sent
ordered (ack payload) = None
ordered (nack code payload) = None
ordered (registration password config rest) = Some (Register (currency_in (registration password config rest)))
ordered (authorisation fields) = Some (paid (amount_of fields))
ordered (reversal password fields) = Some Foreign
ordered (end_of_day password fields) = Some CloseDay
ordered (abort_order fields) = Some Cancel
ordered (status fields) = None
ordered (intermediate step payload) = None
ordered (print_line attribute text) = None
ordered (text_block fields) = None
ordered (completion fields) = None
ordered (abort code payload) = None
ordered (other high low payload) = Some Foreign

-- what happened by it: the till orders, and hears the terminal
abbrev pub happened : Direction → Message → Option Happening
happened FromTill message = option_map SentOut (ordered message)
happened FromTerminal message = Some (HeardIn (heard_as message))

-- ---- all events

-- Bytes that are refused make the line malformed. What is cut off by that, or where the connection is lost, the till never heard,
-- and no more what is not read.
abbrev pub happenings_of : TraceEvent → List Happening
happenings_of (trace_event.message from m) = cons_option (happened from m) []
happenings_of (trace_event.refused from before byte why) = Malformed ∷ []
happenings_of (trace_event.unread from) = []
happenings_of (trace_event.resumed from size) = []
happenings_of (trace_event.cut_off from bytes) = []
happenings_of trace_event.lost = Lost ∷ Connected ∷ []

abbrev pub happened_by : List At → List Happening
happened_by events = flat_map (λ (event : At). happenings_of event.trace_event) events

-- the log of a till that is connected, and then lives through the events
abbrev pub log_of : List At → List Happening
log_of events = Connected ∷ happened_by events
