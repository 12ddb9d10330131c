-- What no report shows changes none of its findings.
use Rattle.std.proofs.Common.{◌≡◌, ℕ, ◌+◌, Bool, cond, Some, List, [], ◌∷◌, ◌++◌, map, refl, sym, ◌∙◌, ap, ap₂}
use Rattle.std.proofs.lemmas.List.Sums.{sum_by-cons}
use Rattle.std.specs.List.{cons_option}
use Rattle.std.specs.Prelude.{option_map}
use Rattle.zvt_apdu.specs.Kinds.{kind_of}
use Rattle.zvt_apdu.specs.Message.{Message, ack, nack, registration, authorisation, reversal, end_of_day, abort_order, status, intermediate, print_line, text_block, completion, abort, other}
use Rattle.zvt_stream.specs.Head.{head_of as begun_head}
use Rattle.zvt_stream.specs.declared.head.Head.{Head}
use Rattle.zvt_trace.specs.TraceEvent.{At, TraceEvent, refused_head}
use Rattle.zvt_trace.specs.TraceEvent as trace_event
use Rattle.zvt_trace.specs.declared.direction.Direction.{Direction}
use Rattle.zvt_trace.specs.declared.direction.Direction.TheVariants.{FromTill, FromTerminal}
use Rattle.zvt_trace.specs.declared.listener.Scope.{Scope}
use Rattle.zvt_trace.specs.declared.listener.Scope.TheVariants.{OneMessage, OneSide, WholeLine}
use Rattle.zvt_audit.specs.ByControl.{at_by, known_by, seen, taken_as}
use Rattle.zvt_audit.specs.Currencies.{named_by}
use Rattle.zvt_audit.specs.Orders.{is_order_from, ordered_from}
use Rattle.zvt_report.specs.Findings.{bad_messages, findings, finding_by, listed, namings, orders_in, reads_on, saturated, swapped_if, two_named}
use Rattle.zvt_report.specs.Hidden.{HiddenBytesAreNotFound, disclosed, disclosed_at, disclosed_bytes, disclosed_event}
use Rattle.zvt_report.specs.declared.findings.Finding.{Finding}
use Rattle.zvt_report.specs.declared.findings.Finding.TheVariants.{CutOff, Refused}
use Rattle.zvt_report.proofs.HiddenLemmas.{as_many, named_same}

-- ---- the messages that are refused or cut off

refused_alike : (before : List ℕ) (byte : ℕ) → refused_head (disclosed_bytes before) byte ≡ refused_head before byte
refused_alike [] byte = refl
refused_alike (high ∷ []) byte = refl
refused_alike (high ∷ low ∷ rest) byte = refl

begun_alike : (bytes : List ℕ) → begun_head (disclosed_bytes bytes) ≡ begun_head bytes
begun_alike [] = refl
begun_alike (high ∷ []) = refl
begun_alike (high ∷ low ∷ rest) = refl

found_alike : (scope : Scope) (line : ℕ) (event : TraceEvent) → finding_by scope line (disclosed_event event) ≡ finding_by scope line event
found_alike scope line (trace_event.message from m) = refl
found_alike scope line (trace_event.refused from before byte why) =
    ap₂ (λ (head : Head) (place : ℕ). Some (Refused line from head place why (reads_on scope))) (refused_alike before byte) (as_many before)
found_alike scope line (trace_event.unread from) = refl
found_alike scope line (trace_event.resumed from size) = refl
found_alike scope line (trace_event.cut_off from bytes) = ap₂ (λ (head : Head) (have : ℕ). Some (CutOff line from head have)) (begun_alike bytes) (as_many bytes)
found_alike scope line trace_event.lost = refl

bad_alike : (scope : Scope) (events : List At) → bad_messages scope (map disclosed_at events) ≡ bad_messages scope events
bad_alike scope [] = refl
bad_alike scope (event ∷ events) = ap₂ cons_option (found_alike scope event.line event.trace_event) (bad_alike scope events)

-- ---- the orders of each side

kind_alike : (m : Message) → kind_of (disclosed m) ≡ kind_of m
kind_alike (ack payload) = refl
kind_alike (nack code payload) = refl
kind_alike (registration password config rest) = refl
kind_alike (authorisation fields) = refl
kind_alike (reversal password fields) = refl
kind_alike (end_of_day password fields) = refl
kind_alike (abort_order fields) = refl
kind_alike (status fields) = refl
kind_alike (intermediate step payload) = refl
kind_alike (print_line attribute text) = refl
kind_alike (text_block fields) = refl
kind_alike (completion fields) = refl
kind_alike (abort code payload) = refl
kind_alike (other high low payload) = refl

sent_alike : (side : Direction) (event : TraceEvent) → is_order_from side (disclosed_event event) ≡ is_order_from side event
sent_alike side (trace_event.message from m) = ap (ordered_from side from) (kind_alike m)
sent_alike side (trace_event.refused from before byte why) = refl
sent_alike side (trace_event.unread from) = refl
sent_alike side (trace_event.resumed from size) = refl
sent_alike side (trace_event.cut_off from bytes) = refl
sent_alike side trace_event.lost = refl

order_alike : (scope : Scope) (side : Direction) (event : TraceEvent) → is_order_from side (taken_as scope (disclosed_event event)) ≡ is_order_from side (taken_as scope event)
order_alike OneMessage side (trace_event.message from m) = ap (ordered_from side from) (kind_alike m)
order_alike OneMessage side (trace_event.refused from before byte why) = ap (λ (head : Head). is_order_from side (known_by from head)) (refused_alike before byte)
order_alike OneMessage side (trace_event.unread from) = refl
order_alike OneMessage side (trace_event.resumed from size) = refl
order_alike OneMessage side (trace_event.cut_off from bytes) = refl
order_alike OneMessage side trace_event.lost = refl
order_alike OneSide side event = sent_alike side event
order_alike WholeLine side event = sent_alike side event

orders_alike : (scope : Scope) (side : Direction) (events : List At) → orders_in side (seen scope (map disclosed_at events)) ≡ orders_in side (seen scope events)
orders_alike scope side [] = refl
orders_alike scope side (event ∷ events) =
    let one : At → ℕ = λ e. cond (is_order_from side e.trace_event) 1 0 in
    sum_by-cons one (at_by scope (disclosed_at event)) (seen scope (map disclosed_at events))
    ∙ ap₂ (λ (b : Bool) (n : ℕ). cond b 1 0 + n) (order_alike scope side event.trace_event) (orders_alike scope side events)
    ∙ sym (sum_by-cons one (at_by scope event) (seen scope events))

-- ---- the currencies

named_alike : (scope : Scope) (event : TraceEvent) → named_by (taken_as scope (disclosed_event event)) ≡ named_by (taken_as scope event)
named_alike OneMessage (trace_event.message from m) = named_same (trace_event.message from m)
named_alike OneMessage (trace_event.refused from before byte why) = ap (λ (head : Head). named_by (known_by from head)) (refused_alike before byte)
named_alike OneMessage (trace_event.unread from) = refl
named_alike OneMessage (trace_event.resumed from size) = refl
named_alike OneMessage (trace_event.cut_off from bytes) = refl
named_alike OneMessage trace_event.lost = refl
named_alike OneSide event = named_same event
named_alike WholeLine event = named_same event

namings_alike : (scope : Scope) (events : List At) → namings (seen scope (map disclosed_at events)) ≡ namings (seen scope events)
namings_alike scope [] = refl
namings_alike scope (event ∷ events) =
    ap₂ cons_option (ap (option_map (λ (currency : ℕ). (currency, event.line))) (named_alike scope event.trace_event)) (namings_alike scope events)

-- ---- all findings

all_alike : (scope : Scope) (events : List At) (approvals : List Finding) → findings scope (map disclosed_at events) approvals ≡ findings scope events approvals
all_alike scope events approvals =
    let after : List At = seen scope (map disclosed_at events) in
    ap₂ (λ (till terminal : ℕ). cons_option (swapped_if (saturated till) (saturated terminal)) (approvals ++ cons_option (two_named (namings after)) (listed (bad_messages scope (map disclosed_at events)))))
    (orders_alike scope FromTill events) (orders_alike scope FromTerminal events)
    ∙ ap₂ (λ (named : List (ℕ × ℕ)) (bad : List Finding). cons_option (swapped_if (saturated (orders_in FromTill (seen scope events))) (saturated (orders_in FromTerminal (seen scope events)))) (approvals ++ cons_option (two_named named) (listed bad)))
    (namings_alike scope events) (bad_alike scope events)

pub hidden_bytes_are_not_found : HiddenBytesAreNotFound
hidden_bytes_are_not_found scope events others found same approve f = (
  f.0,
  approve f.0 f.1,
  f.2 ∙ sym (all_alike scope events f.0) ∙ ap (λ (e : List At). findings scope e f.0) same ∙ all_alike scope others f.0,
)
