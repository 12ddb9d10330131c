-- What is wrong with a trace itself, apart from its orders.
use Rattle.std.specs.Prelude.{◌≡◌, ℕ, ◌-◌, ◌==◌, ◌&&◌, min, nat_eq, not, Bool, true, false, cond, List, [], ◌∷◌, ◌++◌, count_by, find, is_some, length, take, replicate, Option, Some, None, option_map, refl}
use Rattle.std.specs.List.{cons_option, filter_map, sum_by}
use Rattle.zvt_grammar.specs.declared.why.Why.TheVariants.{UnknownField}
use Rattle.zvt_field.specs.Grammar.{plain}
use Rattle.zvt_apdu.specs.Kinds.{kind_at}
use Rattle.zvt_apdu.specs.Message.{authorisation, end_of_day, registration, status}
use Rattle.zvt_stream.specs.Head.{head_of as begun_head}
use Rattle.zvt_stream.specs.declared.head.Head.{Head}
use Rattle.zvt_stream.specs.declared.head.Head.TheVariants.{Empty, One, Two}
use Rattle.zvt_trace.specs.Listening.{Fails, Hears}
use Rattle.zvt_trace.specs.TraceEvent.{At, TraceEvent, bad_in, on, refused_head}
use Rattle.zvt_trace.specs.TraceEvent as trace_event
use Rattle.zvt_trace.specs.declared.direction.Direction.{Direction}
use Rattle.zvt_trace.specs.declared.direction.Direction.TheVariants.{FromTill, FromTerminal}
use Rattle.zvt_trace.specs.declared.listener.ListenerError.TheVariants as failure
use Rattle.zvt_trace.specs.declared.listener.Scope.{Scope}
use Rattle.zvt_trace.specs.declared.listener.Scope.TheVariants.{OneMessage, OneSide, WholeLine}
use Rattle.zvt_audit.specs.ByControl.{seen}
use Rattle.zvt_audit.specs.Currencies.{named_by}
use Rattle.zvt_audit.specs.Orders.{are_swapped, is_order_from}
use Rattle.zvt_report.specs.Approvals.{SaysApproved}
use Rattle.zvt_report.specs.Words.{is_act}
use Rattle.zvt_report.specs.declared.approvals.UnreadableApproval.{UnreadableApproval}
use Rattle.zvt_report.specs.declared.cases.Weight.{Weight}
use Rattle.zvt_report.specs.declared.cases.Weight.TheVariants.{Act, Check, Note}
use Rattle.zvt_report.specs.declared.findings.Finder.{Finder}
use Rattle.zvt_report.specs.declared.findings.Finding.{Finding}
use Rattle.zvt_report.specs.declared.findings.Finding.TheVariants.{Swapped, ApprovalUnreadable, Currencies, Refused, CutOff, MoreRefused}

-- ---- one event

-- the side is read on after the message
abbrev pub reads_on : Scope → Bool
reads_on OneMessage = true
reads_on OneSide = false
reads_on WholeLine = false

-- a message that can't be read or is incomplete; of its bytes after the control bytes, none belongs to it
abbrev pub finding_by : Scope → (line : ℕ) → TraceEvent → Option Finding
finding_by scope line (trace_event.message from m) = None
finding_by scope line (trace_event.refused from before byte why) = Some (Refused line from (refused_head before byte) (length before) why (reads_on scope))
finding_by scope line (trace_event.unread from) = None
finding_by scope line (trace_event.resumed from size) = None
finding_by scope line (trace_event.cut_off from bytes) = Some (CutOff line from (begun_head bytes) (length bytes))
finding_by scope line trace_event.lost = None

abbrev pub finding_at : Scope → At → Option Finding
finding_at scope event = finding_by scope event.line event.trace_event

-- what a message that could not be read to its end states, if that is an approval; its bytes before the end are counted
abbrev pub approval_finding : (line place : ℕ) → Option UnreadableApproval → Option Finding
approval_finding line place said = option_map (λ (a : UnreadableApproval). ApprovalUnreadable line place a.amount a.trace) said

-- only a terminal approves
abbrev pub ApprovalIn : (line : ℕ) → Direction → (bytes : List ℕ) → Option Finding → Type 0
ApprovalIn line FromTill bytes found = found ≡ None
ApprovalIn line FromTerminal bytes found = (said : Option UnreadableApproval) × SaysApproved bytes said × (found ≡ approval_finding line (length bytes) said)

abbrev pub ApprovalBy : (line : ℕ) → TraceEvent → Option Finding → Type 0
ApprovalBy line (trace_event.message from m) found = found ≡ None
ApprovalBy line (trace_event.refused from before byte why) found = ApprovalIn line from before found
ApprovalBy line (trace_event.unread from) found = found ≡ None
ApprovalBy line (trace_event.resumed from size) found = found ≡ None
ApprovalBy line (trace_event.cut_off from bytes) found = ApprovalIn line from bytes found
ApprovalBy line trace_event.lost found = found ≡ None

abbrev pub ApprovalAt : At → Option Finding → Type 0
ApprovalAt event found = ApprovalBy event.line event.trace_event found

-- ---- which side orders

-- at most what 64 bits hold
abbrev pub saturated : ℕ → ℕ
saturated n = min n 18446744073709551615

-- how many orders come from that side
abbrev pub orders_in : (side : Direction) → List At → ℕ
orders_in side events = count_by (λ (event : At). is_order_from side event.trace_event) events

abbrev pub swapped_if : (till terminal : ℕ) → Option Finding
swapped_if till terminal = cond ((till == 0) && not (terminal == 0)) (Some (Swapped terminal)) None

-- orders come from the terminal's side, and none from the till's
abbrev pub swapped : List At → Option Finding
swapped events = swapped_if (saturated (orders_in FromTill events)) (saturated (orders_in FromTerminal events))

-- ---- which currencies are named

-- the currency that a registration names, and its line
abbrev pub naming_at : At → Option (ℕ × ℕ)
naming_at event = option_map (λ (currency : ℕ). (currency, event.line)) (named_by event.trace_event)

abbrev pub namings : List At → List (ℕ × ℕ)
namings events = filter_map naming_at events

abbrev pub names_other : (first : ℕ) → (naming : ℕ × ℕ) → Bool
names_other first naming = not (nat_eq first naming.0)

-- the first of these that names another currency
abbrev pub other_than : (first : ℕ) → List (ℕ × ℕ) → Option Finding
other_than first later = option_map (λ (naming : ℕ × ℕ). Currencies first naming.0 naming.1) (find (names_other first) later)

abbrev pub two_named : List (ℕ × ℕ) → Option Finding
two_named [] = None
two_named (naming ∷ later) = other_than naming.0 later

-- registrations name two currencies
abbrev pub currencies : List At → Option Finding
currencies events = two_named (namings events)

-- ---- all events

-- in the order of the trace
abbrev pub bad_messages : Scope → List At → List Finding
bad_messages scope events = filter_map (finding_at scope) events

-- how many of them are listed
abbrev pub most_listed : ℕ
most_listed = 20

-- the number of the others, if there are any
abbrev pub more_refused : (more : ℕ) → List Finding
more_refused more = cond (more == 0) [] (MoreRefused more ∷ [])

-- the first of them, and how many more there are
abbrev pub listed : List Finding → List Finding
listed found = take most_listed found ++ more_refused (length found - most_listed)

-- the approvals in messages that could not be read to their end, in the order of the trace
abbrev pub AreApprovals : List At → List Finding → Type 0
AreApprovals [] approvals = approvals ≡ []
AreApprovals (event ∷ events) approvals =
    (one : Option Finding) × (later : List Finding) × ApprovalAt event one × AreApprovals events later × (approvals ≡ cons_option one later)

-- what someone must act on comes first, then what concerns the whole trace
abbrev pub findings : Scope → List At → (approvals : List Finding) → List Finding
findings scope events approvals =
    cons_option (swapped (seen scope events)) (approvals ++ cons_option (currencies (seen scope events)) (listed (bad_messages scope events)))

-- what is found in these events
abbrev pub AreFindings : Scope → List At → List Finding → Type 0
AreFindings scope events found = (approvals : List Finding) × AreApprovals events approvals × (found ≡ findings scope events approvals)

abbrev pub weight_of : Finding → Weight
weight_of (Swapped orders) = Act
weight_of (ApprovalUnreadable line place amount trace) = Act
weight_of (Currencies first other line) = Check
weight_of (Refused line from head place why goes) = Note
weight_of (CutOff line from head have) = Note
weight_of (MoreRefused count) = Note

-- the line of the trace that it is about
abbrev pub line_of : Finding → Option ℕ
line_of (Swapped orders) = None
line_of (ApprovalUnreadable line place amount trace) = Some line
line_of (Currencies first other line) = Some line
line_of (Refused line from head place why goes) = Some line
line_of (CutOff line from head have) = Some line
line_of (MoreRefused count) = None

-- the control bytes of the message that it is about, as far as they are known
abbrev pub head_of : Finding → Head
head_of (Swapped orders) = Empty
head_of (ApprovalUnreadable line place amount trace) = Two 0x04 0x0F
head_of (Currencies first other line) = Empty
head_of (Refused line from head place why goes) = head
head_of (CutOff line from head have) = head
head_of (MoreRefused count) = Empty

-- how many someone must act on
abbrev pub urgent_findings : List Finding → ℕ
urgent_findings findings = count_by (λ (finding : Finding). is_act (weight_of finding)) findings

-- ---- a listener

abbrev pub finds : Hears Finder
finds old event new =
    (new.scope ≡ old.scope) × (new.found.items ≡ old.found.items ++ cons_option (finding_at old.scope event) [])
    × (approval : Option Finding) × ApprovalAt event approval × (new.approvals.items ≡ old.approvals.items ++ cons_option approval [])

abbrev pub wants_memory : Fails Finder
wants_memory old event why new = why ≡ failure.Memory

-- ---- laws

-- The marks are swapped exactly if the audit says so.
abbrev pub SwappedAsInAudit : Type 0
SwappedAsInAudit = (events : List At) → is_some (swapped events) ≡ are_swapped events

-- Events have one list of findings.
abbrev pub FindingsAreOne : Type 0
FindingsAreOne = (scope : Scope) (events : List At) (found other : List Finding) → AreFindings scope events found → AreFindings scope events other → found ≡ other

-- how many bad messages a finding lists or counts
abbrev pub counted_by : Finding → ℕ
counted_by (Swapped orders) = 0
counted_by (ApprovalUnreadable line place amount trace) = 0
counted_by (Currencies first other line) = 0
counted_by (Refused line from head place why goes) = 1
counted_by (CutOff line from head have) = 1
counted_by (MoreRefused count) = count

-- each message that was refused or cut off is listed or counted, once
abbrev pub EachBadMessageIsFound : Type 0
EachBadMessageIsFound = (scope : Scope) (events : List At) (found : List Finding) → AreFindings scope events found → sum_by counted_by found ≡ bad_in events

-- ---- rows worked by hand

abbrev pays : (from : Direction) → (line : ℕ) → At
pays from line = on line (trace_event.message from (authorisation (plain 0x04 (0 ∷ 0 ∷ 0 ∷ 0 ∷ 0x05 ∷ 0x00 ∷ []) ∷ [])))

abbrev registers : (line currency : ℕ) → At
registers line currency = on line (trace_event.message FromTill (registration (0 ∷ 0 ∷ 0 ∷ []) 0xBE (Some (currency, []))))

-- two orders come from where the terminal is said to be, and a status from where the till is
swapped_marks : findings OneMessage (pays FromTerminal 1 ∷ on 2 (trace_event.message FromTill (status [])) ∷ on 3 (trace_event.message FromTerminal (end_of_day (0 ∷ 0 ∷ 0 ∷ []) [])) ∷ []) [] ≡ Swapped 2 ∷ []
swapped_marks = refl

-- one order of the till is enough
marks_as_they_are : findings OneMessage (pays FromTerminal 1 ∷ pays FromTill 2 ∷ pays FromTerminal 3 ∷ []) [] ≡ []
marks_as_they_are = refl

-- no order at all
no_orders : findings OneMessage (on 2 (trace_event.message FromTerminal (status [])) ∷ []) [] ≡ []
no_orders = refl

-- francs are the first that are not euros, and come back
three_currencies : findings OneMessage (registers 1 978 ∷ pays FromTill 2 ∷ registers 3 978 ∷ registers 4 756 ∷ registers 5 840 ∷ registers 6 756 ∷ []) [] ≡ Currencies 978 756 4 ∷ []
three_currencies = refl

one_currency_twice : findings OneMessage (registers 1 978 ∷ registers 3 978 ∷ []) [] ≡ []
one_currency_twice = refl

-- a status of the terminal is refused at its byte 3, and the trace ends in a payment of the till
abbrev bad_day : List At
bad_day = on 4 (trace_event.refused FromTerminal (0x04 ∷ 0x0F ∷ 9 ∷ []) 0xE0 UnknownField) ∷ on 4 (trace_event.resumed FromTerminal 12) ∷ on 9 trace_event.lost ∷ on 12 (trace_event.cut_off FromTill (0x06 ∷ [])) ∷ []

read_on : findings OneMessage bad_day [] ≡ Refused 4 FromTerminal (Two 0x04 0x0F) 3 UnknownField true ∷ CutOff 12 FromTill (One 0x06) 1 ∷ []
unfolding kind_at
read_on = refl

read_strictly : findings WholeLine bad_day [] ≡ Refused 4 FromTerminal (Two 0x04 0x0F) 3 UnknownField false ∷ CutOff 12 FromTill (One 0x06) 1 ∷ []
read_strictly = refl

-- 20 are listed, and the rest is counted
abbrev cut : Finding
cut = CutOff 7 FromTill (One 0x06) 1

just_enough : listed (replicate 20 cut) ≡ replicate 20 cut
just_enough = refl

too_many : listed (replicate 23 cut) ≡ replicate 20 cut ++ MoreRefused 3 ∷ []
too_many = refl

-- an approval has its own place before the currencies, and is not among the 20
an_approval : findings OneMessage (registers 1 978 ∷ registers 2 756 ∷ bad_day) (ApprovalUnreadable 4 37 (Some 1250) (Some 123) ∷ [])
    ≡ ApprovalUnreadable 4 37 (Some 1250) (Some 123) ∷ Currencies 978 756 2 ∷ Refused 4 FromTerminal (Two 0x04 0x0F) 3 UnknownField true ∷ CutOff 12 FromTill (One 0x06) 1 ∷ []
unfolding kind_at
an_approval = refl
