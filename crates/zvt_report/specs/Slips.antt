-- What the terminal printed: the slips in the events of a trace.
use Rattle.std.specs.Prelude.{◌≡◌, ℕ, ◌+◌, Bool, true, false, cond, List, [], ◌∷◌, ◌++◌, codes, map, Option, Some, None, unwrap_or, refl}
use Rattle.zvt_field.specs.Grammar.{Field}
use Rattle.zvt_apdu.specs.Kinds.{kind_of}
use Rattle.zvt_apdu.specs.Message.{Message, ack, print_line, registration, status, text_block}
use Rattle.zvt_apdu.specs.Views.{fields_in, text_in}
use Rattle.zvt_apdu.specs.declared.kinds.Kind.{Kind}
use Rattle.zvt_apdu.specs.declared.kinds.Kind.TheVariants as kind
use Rattle.zvt_text.specs.TextBlocks.{block_lines, block_type, close_block}
use Rattle.zvt_text.specs.declared.text_blocks.ReceiptType.{ReceiptType}
use Rattle.zvt_text.specs.declared.text_blocks.ReceiptType.TheVariants as receipt
use Rattle.zvt_trace.specs.TraceEvent.{At, TraceEvent, on}
use Rattle.zvt_trace.specs.TraceEvent as trace_event
use Rattle.zvt_trace.specs.declared.direction.Direction.{Direction}
use Rattle.zvt_trace.specs.declared.direction.Direction.TheVariants.{FromTill, FromTerminal}
use Rattle.zvt_report.specs.Masking.{masked}
use Rattle.zvt_report.specs.Statements.{begins}
use Rattle.zvt_report.specs.declared.slip_kinds.Role.{Role}
use Rattle.zvt_report.specs.declared.slip_kinds.Role.TheVariants.{Line, Block, Acknowledgement, Other}
use Rattle.zvt_report.specs.declared.slip_kinds.SlipKind.{SlipKind}
use Rattle.zvt_report.specs.declared.slip_kinds.SlipPlace.{SlipPlace}
use Rattle.zvt_report.specs.declared.slip_kinds.SlipKind.TheVariants.{PrintLines, PrintTexts, Merchant, Customer, Report}

-- its first and last line of the trace, the number of orders up to it, and its texts without the hidden digits
pub record Slip : Type 0 where
  pub kind : SlipKind
  pub first : ℕ
  pub last : ℕ
  pub order : ℕ
  pub texts : List (List ℕ)

-- a slip with this place
abbrev pub slip_at : SlipPlace → (texts : List (List ℕ)) → Slip
slip_at place texts = record { kind = place.kind; first = place.first; last = place.last; order = place.order; texts = texts }

-- ---- one event

abbrev pub role_of : Kind → Role
role_of kind.Ack = Acknowledgement
role_of kind.PrintLine = Line
role_of kind.TextBlock = Block
role_of _ = Other

abbrev pub is_acknowledgement : Role → Bool
is_acknowledgement Line = false
is_acknowledgement Acknowledgement = true
is_acknowledgement Block = false
is_acknowledgement Other = false

-- of what the till sends, only an acknowledgement counts
abbrev pub role_from : Direction → Role → Role
role_from FromTerminal role = role
role_from FromTill role = cond (is_acknowledgement role) Acknowledgement Other

abbrev pub role_by : TraceEvent → Role
role_by (trace_event.message from m) = role_from from (role_of (kind_of m))
role_by _ = Other

abbrev pub choose : {A : Type 0} → Role → (line acknowledgement block other : A) → A
choose Line line acknowledgement block other = line
choose Acknowledgement line acknowledgement block other = acknowledgement
choose Block line acknowledgement block other = block
choose Other line acknowledgement block other = other

abbrev pub text_of : Message → List ℕ
text_of m = unwrap_or (text_in m) []

-- the text of a print line, without the hidden digits
abbrev pub printed_by : TraceEvent → List ℕ
printed_by (trace_event.message from m) = masked (text_of m)
printed_by _ = []

abbrev pub fields_by : TraceEvent → List Field
fields_by (trace_event.message from m) = unwrap_or (fields_in m) []
fields_by _ = []

abbrev pub order_after : (begins : Bool) → (order : ℕ) → ℕ
order_after true order = order + 1
order_after false order = order

-- ---- print lines

-- the texts of the print lines from here on, up to an event that is neither a print line nor an acknowledgement
abbrev pub run_texts : List At → List (List ℕ)
run_texts [] = []
run_texts (event ∷ later) = choose (role_by event.trace_event) (printed_by event.trace_event ∷ run_texts later) (run_texts later) [] []

-- the line of the last of them, or this one if there is none
abbrev pub run_end : (line : ℕ) → List At → ℕ
run_end line [] = line
run_end line (event ∷ later) = choose (role_by event.trace_event) (run_end event.line later) (run_end line later) line line

-- a slip of print lines: these texts were printed at these lines, and the others come later
abbrev pub run_slip : (order first last : ℕ) → (texts : List (List ℕ)) → (later : List At) → Slip
run_slip order first last texts later = record { kind = PrintLines; first = first; last = run_end last later; order = order; texts = texts ++ run_texts later }

-- ---- text blocks

abbrev pub kind_by : Option ReceiptType → SlipKind
kind_by None = PrintTexts
kind_by (Some receipt.Merchant) = Merchant
kind_by (Some receipt.Customer) = Customer
kind_by (Some receipt.Administration) = Report
kind_by (Some (receipt.Other code)) = PrintTexts

abbrev pub block_slip : (order line : ℕ) → SlipKind → (texts : List (List ℕ)) → List Slip
block_slip order line kind [] = []
block_slip order line kind (text ∷ texts) = record { kind = kind; first = line; last = line; order = order; texts = text ∷ texts } ∷ []

-- the slip of a text block with these fields, if it has a text
abbrev pub slips_in : (order line : ℕ) → List Field → List Slip
slips_in order line fields = block_slip order line (kind_by (block_type fields)) (map masked (block_lines fields))

-- ---- all of them

-- the slips of these events, after that many orders; `running` if a slip of print lines goes on
abbrev pub slips_from : (order : ℕ) → (running : Bool) → List At → List Slip
slips_from order running [] = []
slips_from order running (event ∷ later) =
    choose (role_by event.trace_event)
    (cond running (slips_from order true later) (run_slip order event.line event.line (printed_by event.trace_event ∷ []) later ∷ slips_from order true later))
    (slips_from order running later)
    (slips_in order event.line (fields_by event.trace_event) ++ slips_from order false later)
    (slips_from (order_after (begins event.trace_event) order) false later)

abbrev pub slips : List At → List Slip
slips events = slips_from 0 false events

-- ---- rows worked by hand

abbrev says : (line : ℕ) → Message → At
says line m = on line (trace_event.message FromTerminal m)

abbrev orders : (line : ℕ) → At
orders line = on line (trace_event.message FromTill (registration (0 ∷ 0 ∷ 0 ∷ []) 0xBE None))

abbrev acks : (line : ℕ) → At
acks line = on line (trace_event.message FromTill (ack []))

abbrev a_slip : SlipKind → (first last order : ℕ) → List (List ℕ) → Slip
a_slip kind first last order texts = record { kind = kind; first = first; last = last; order = order; texts = texts }

-- two print lines with an acknowledgement between them, one more after a status, and a text block
some_slips : slips (says 1 (print_line 0 (codes "A")) ∷ orders 2 ∷ says 3 (print_line 0 (codes "B")) ∷ acks 4 ∷ says 5 (print_line 0 (codes "C")) ∷ acks 6 ∷ says 7 (status [])
    ∷ says 8 (print_line 0 (codes "D")) ∷ says 9 (text_block close_block) ∷ says 10 (text_block []) ∷ on 11 trace_event.lost ∷ [])
    ≡ a_slip PrintLines 1 1 0 (codes "A" ∷ []) ∷ a_slip PrintLines 3 5 1 (codes "B" ∷ codes "C" ∷ []) ∷ a_slip PrintLines 8 8 1 (codes "D" ∷ [])
    ∷ a_slip Report 9 9 1 (codes "Kassenschnitt" ∷ codes "SUMME 112,14" ∷ []) ∷ []
some_slips = refl
