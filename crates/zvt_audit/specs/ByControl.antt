-- What a message does to the books that was refused and passed over by its own length: it is known by its control bytes alone.
use Rattle.std.specs.Prelude.{◌≡◌, ℕ, List, [], ◌∷◌, map, Option, Some, None, refl}
use Rattle.zvt_grammar.specs.declared.why.Why.TheVariants.{UnknownField}
use Rattle.zvt_stream.specs.declared.head.Head.{Head}
use Rattle.zvt_stream.specs.declared.head.Head.TheVariants.{Empty, One, Two}
use Rattle.zvt_apdu.specs.Kinds.{kind_at}
use Rattle.zvt_apdu.specs.declared.kinds.Kind.{Kind}
use Rattle.zvt_apdu.specs.declared.kinds.Kind.TheVariants as kind
use Rattle.zvt_apdu.specs.Message.{Message, registration, authorisation, reversal, end_of_day, abort_order, status, completion, abort, other}
use Rattle.zvt_trace.specs.Listening.{Fails, Hears}
use Rattle.zvt_trace.specs.Pairs.{one_more}
use Rattle.zvt_trace.specs.TraceEvent.{At, TraceEvent, message, refused, unread, resumed, cut_off, lost, on, refused_head}
use Rattle.zvt_trace.specs.declared.direction.Direction.{Direction}
use Rattle.zvt_trace.specs.declared.direction.Direction.TheVariants.{FromTill, FromTerminal}
use Rattle.zvt_trace.specs.declared.listener.ListenerError.{ListenerError}
use Rattle.zvt_trace.specs.declared.listener.Scope.{Scope}
use Rattle.zvt_trace.specs.declared.listener.Scope.TheVariants.{OneMessage, OneSide, WholeLine}
use Rattle.zvt_audit.specs.declared.by_control.ByControl.{ByControl}

-- ---- one message

-- the password 00 00 00
abbrev no_password : List ℕ
no_password = 0 ∷ 0 ∷ 0 ∷ []

-- The shortest message of this kind, with code FF if it aborts an order, where a message of the kind does something to the books:
-- an order, a status that tells nothing, the end of an order.
abbrev pub shortest_of : Kind → (high low : ℕ) → Option Message
shortest_of kind.Ack high low = None
shortest_of kind.Nack high low = None
shortest_of kind.Registration high low = Some (registration no_password 0 None)
shortest_of kind.Authorisation high low = Some (authorisation [])
shortest_of kind.Reversal high low = Some (reversal no_password [])
shortest_of kind.EndOfDay high low = Some (end_of_day no_password [])
shortest_of kind.AbortOrder high low = Some (abort_order [])
shortest_of kind.Status high low = Some (status [])
shortest_of kind.Intermediate high low = None
shortest_of kind.PrintLine high low = None
shortest_of kind.TextBlock high low = None
shortest_of kind.Completion high low = Some (completion [])
shortest_of kind.Abort high low = Some (abort 0xFF [])
shortest_of kind.Other high low = Some (other high low [])

abbrev pub event_for : Direction → Option Message → TraceEvent
event_for from None = unread from
event_for from (Some m) = message from m

-- what stands for a refused message with these control bytes
abbrev pub known_by : Direction → Head → TraceEvent
known_by from Empty = unread from
known_by from (One high) = unread from
known_by from (Two high low) = event_for from (shortest_of (kind_at high low) high low)

-- ---- all events

-- Where one refused message is passed over at a time, its control bytes stand for it. Else it stays refused.
abbrev pub taken_as : Scope → TraceEvent → TraceEvent
taken_as OneMessage (message from m) = message from m
taken_as OneMessage (refused from before byte why) = known_by from (refused_head before byte)
taken_as OneMessage (unread from) = unread from
taken_as OneMessage (resumed from size) = resumed from size
taken_as OneMessage (cut_off from bytes) = cut_off from bytes
taken_as OneMessage lost = lost
taken_as OneSide event = event
taken_as WholeLine event = event

abbrev pub at_by : Scope → At → At
at_by scope event = on event.line (taken_as scope event.trace_event)

-- what a till and its terminal did by these events
abbrev pub seen : Scope → List At → List At
seen scope events = map (at_by scope) events

-- ---- a count of the messages that were passed over

abbrev pub passed_with : Scope → (passed : ℕ) → TraceEvent → ℕ
passed_with OneMessage passed (message from m) = passed
passed_with OneMessage passed (refused from before byte why) = one_more passed
passed_with OneMessage passed (unread from) = passed
passed_with OneMessage passed (resumed from size) = passed
passed_with OneMessage passed (cut_off from bytes) = passed
passed_with OneMessage passed lost = passed
passed_with OneSide passed event = passed
passed_with WholeLine passed event = passed

-- after these events, saturating at 64 bits
abbrev pub passed_after : Scope → (passed : ℕ) → List At → ℕ
passed_after scope passed [] = passed
passed_after scope passed (event ∷ events) = passed_after scope (passed_with scope passed event.trace_event) events

-- ---- the listener

abbrev pub HearsBy : {S : Type 0} → Hears S → Hears (ByControl S)
HearsBy hears old event new =
    hears old.listener (at_by old.scope event) new.listener × (new.scope ≡ old.scope) × (new.passed ≡ passed_with old.scope old.passed event.trace_event)

abbrev pub FailsBy : {S : Type 0} → Fails S → Fails (ByControl S)
FailsBy fails old event why new = fails old.listener (at_by old.scope event) why new.listener

-- ---- rows worked by hand

abbrev refused_at : Direction → (high low : ℕ) → TraceEvent
refused_at from high low = refused from (high ∷ low ∷ 4 ∷ []) 0xF0 UnknownField

-- the completion of a status enquiry (06 0F 04 F0 F0 F0 00) is a completion
an_enquiry : seen OneMessage (on 6 (refused_at FromTerminal 0x06 0x0F) ∷ on 6 (resumed FromTerminal 7) ∷ []) ≡ on 6 (message FromTerminal (completion [])) ∷ on 6 (resumed FromTerminal 7) ∷ []
unfolding kind_at
an_enquiry = refl

-- a status that can't be read tells neither a result nor an amount
a_status : taken_as OneMessage (refused_at FromTerminal 0x04 0x0F) ≡ message FromTerminal (status [])
unfolding kind_at
a_status = refl

-- an intermediate status does nothing to the books
an_intermediate_status : taken_as OneMessage (refused_at FromTerminal 0x04 0xFF) ≡ unread FromTerminal
unfolding kind_at
an_intermediate_status = refl

-- a refund with a length in a longer form
a_refund : taken_as OneMessage (refused_at FromTill 0x06 0x31) ≡ message FromTill (other 0x06 0x31 [])
unfolding kind_at
a_refund = refl

-- where the whole line stops, it is refused
a_strict_line : taken_as WholeLine (refused_at FromTerminal 0x06 0x0F) ≡ refused_at FromTerminal 0x06 0x0F
a_strict_line = refl

two_of_three : passed_after OneMessage 0 (on 1 (refused_at FromTill 0x06 0x31) ∷ on 2 lost ∷ on 3 (refused_at FromTerminal 0x04 0xFF) ∷ []) ≡ 2
two_of_three = refl
