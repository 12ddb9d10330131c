-- What no report shows: secrets, the data of orders that it does not follow, and card numbers that are not masked.
use Rattle.std.specs.Prelude.{◌≡◌, ℕ, ◌==◌, Bool, cond, List, [], ◌∷◌, map, option_map, refl}
use Rattle.zvt_field.specs.Grammar.{Field, plain, tree}
use Rattle.zvt_field.specs.Shapes.{format_of}
use Rattle.zvt_apdu.specs.Message.{Message, ack, nack, registration, authorisation, reversal, end_of_day, abort_order, status, intermediate, print_line, text_block, completion, abort, other}
use Rattle.zvt_text.specs.Secrets.{blank, blanked_in, blanked_objects}
use Rattle.zvt_trace.specs.TraceEvent.{At, TraceEvent, on}
use Rattle.zvt_trace.specs.TraceEvent as trace_event
use Rattle.zvt_trace.specs.declared.direction.Direction.TheVariants.{FromTerminal}
use Rattle.zvt_trace.specs.declared.listener.Scope.{Scope}
use Rattle.zvt_report.specs.Cards.{is_masked}
use Rattle.zvt_report.specs.Findings.{AreApprovals, AreFindings}
use Rattle.zvt_report.specs.declared.findings.Finding.{Finding}
use Rattle.zvt_report.specs.PageEvents.{event_item}
use Rattle.zvt_report.specs.Reports.{IsReportOf}
use Rattle.zvt_report.specs.Said.{moves_money}
use Rattle.zvt_report.specs.declared.report.Report.{Report}
use Rattle.zvt_report.specs.declared.zones.Zone.{Zone}

-- ---- a message with zeros in place of what no report shows

-- a card number, if it is masked
abbrev pub disclosed_number : List ℕ → List ℕ
disclosed_number content = cond (is_masked content) content (blank content)

abbrev pub disclosed_in : (bmp : ℕ) → List ℕ → List ℕ
disclosed_in bmp content = cond (bmp == 0x22) (disclosed_number content) (blanked_in (format_of bmp) content)

abbrev pub disclosed_field : Field → Field
disclosed_field (plain bmp content) = plain bmp (disclosed_in bmp content)
disclosed_field (tree bmp objects) = tree bmp (blanked_objects objects)

abbrev pub disclosed_fields : List Field → List Field
disclosed_fields = map disclosed_field

abbrev pub disclosed_rest : ℕ × List Field → ℕ × List Field
disclosed_rest rest = (rest.0, disclosed_fields rest.1)

-- the amount and the receipt number of an order that moves money are shown
abbrev pub disclosed : Message → Message
disclosed (ack payload) = ack payload
disclosed (nack code payload) = nack code payload
disclosed (registration password config rest) = registration (blank password) config (option_map disclosed_rest rest)
disclosed (authorisation fields) = authorisation (disclosed_fields fields)
disclosed (reversal password fields) = reversal (blank password) (disclosed_fields fields)
disclosed (end_of_day password fields) = end_of_day (blank password) (disclosed_fields fields)
disclosed (abort_order fields) = abort_order (disclosed_fields fields)
disclosed (status fields) = status (disclosed_fields fields)
disclosed (intermediate step payload) = intermediate step payload
disclosed (print_line attribute text) = print_line attribute text
disclosed (text_block fields) = text_block (disclosed_fields fields)
disclosed (completion fields) = completion (disclosed_fields fields)
disclosed (abort code payload) = abort code payload
disclosed (other high low payload) = other high low (cond (moves_money high low) payload (blank payload))

-- the control bytes of a message that can't be read to its end, and how many bytes it has
abbrev pub disclosed_bytes : List ℕ → List ℕ
disclosed_bytes [] = []
disclosed_bytes (high ∷ []) = high ∷ []
disclosed_bytes (high ∷ low ∷ rest) = high ∷ low ∷ blank rest

abbrev pub disclosed_event : TraceEvent → TraceEvent
disclosed_event (trace_event.message from m) = trace_event.message from (disclosed m)
disclosed_event (trace_event.refused from before byte why) = trace_event.refused from (disclosed_bytes before) byte why
disclosed_event (trace_event.unread from) = trace_event.unread from
disclosed_event (trace_event.resumed from size) = trace_event.resumed from size
disclosed_event (trace_event.cut_off from bytes) = trace_event.cut_off from (disclosed_bytes bytes)
disclosed_event trace_event.lost = trace_event.lost

abbrev pub disclosed_at : At → At
disclosed_at event = on event.line (disclosed_event event.trace_event)

-- ---- laws

-- Events that differ only in what no report shows have the same report.
abbrev pub HiddenBytesMeanNothing : Type 0
HiddenBytesMeanNothing =
    (zone : Zone) (trace : List (List ℕ)) (events others : List At) (report : Report)
    → map disclosed_at events ≡ map disclosed_at others → IsReportOf zone trace events report → IsReportOf zone trace others report

-- What can't be read to its end states the same approvals.
abbrev pub SameApprovals : List At → List At → Type 0
SameApprovals events others = (approvals : List Finding) → AreApprovals events approvals → AreApprovals others approvals

-- They have the same findings.
abbrev pub HiddenBytesAreNotFound : Type 0
HiddenBytesAreNotFound =
    (scope : Scope) (events others : List At) (found : List Finding)
    → map disclosed_at events ≡ map disclosed_at others → SameApprovals events others → AreFindings scope events found → AreFindings scope others found

-- A page shows them alike in its dialogue.
abbrev pub HiddenBytesAreNotShown : Type 0
HiddenBytesAreNotShown = (seen : Bool) (event another : At) → disclosed_at event ≡ disclosed_at another → event_item seen event ≡ event_item seen another

-- ---- rows worked by hand

a_whole_number : disclosed_field (plain 0x22 (0x67 ∷ 0x26 ∷ 0x12 ∷ 0x34 ∷ 0x56 ∷ 0x78 ∷ 0x12 ∷ 0x34 ∷ 0x0F ∷ [])) ≡ plain 0x22 (0 ∷ 0 ∷ 0 ∷ 0 ∷ 0 ∷ 0 ∷ 0 ∷ 0 ∷ 0 ∷ [])
a_whole_number = refl

a_masked_number : disclosed_field (plain 0x22 (0x67 ∷ 0xEE ∷ 0xEE ∷ 0x0F ∷ [])) ≡ plain 0x22 (0x67 ∷ 0xEE ∷ 0xEE ∷ 0x0F ∷ [])
a_masked_number = refl

a_track : disclosed_field (plain 0x23 (0x47 ∷ 0x61 ∷ [])) ≡ plain 0x23 (0 ∷ 0 ∷ [])
a_track = refl

an_amount : disclosed_field (plain 0x04 (0 ∷ 0 ∷ 0 ∷ 0 ∷ 0x05 ∷ 0x00 ∷ [])) ≡ plain 0x04 (0 ∷ 0 ∷ 0 ∷ 0 ∷ 0x05 ∷ 0x00 ∷ [])
an_amount = refl

-- a status that breaks off in its card number
a_card_cut_off : disclosed_event (trace_event.cut_off FromTerminal (0x04 ∷ 0x0F ∷ 0x20 ∷ 0x22 ∷ 0xF0 ∷ 0xF8 ∷ 0x67 ∷ [])) ≡ trace_event.cut_off FromTerminal (0x04 ∷ 0x0F ∷ 0 ∷ 0 ∷ 0 ∷ 0 ∷ 0 ∷ [])
a_card_cut_off = refl

-- a repeat of the last receipt has a password; a refund has its amount behind one
a_repetition : disclosed (other 0x06 0x20 (0x12 ∷ 0x34 ∷ 0x56 ∷ [])) ≡ other 0x06 0x20 (0 ∷ 0 ∷ 0 ∷ [])
a_repetition = refl
