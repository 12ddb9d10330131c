-- What the terminal's status informations say about an order.
use Rattle.std.specs.Prelude.{◌≡◌, ℕ, ◌==◌, Bool, true, false, not, cond, ◌||◌, List, [], ◌∷◌, ◌++◌, Option, Some, None, is_some, fold, map, option_map, refl}
use Rattle.std.specs.List.{cons_option, list_any}
use Rattle.std.specs.Option.{option_or}
use Rattle.zvt_field.specs.Grammar.{Field, plain}
use Rattle.zvt_field.specs.Named.{content_of, original_of, result_of, trace_of}
use Rattle.zvt_apdu.specs.Kinds.{kind_of}
use Rattle.zvt_apdu.specs.Message.{Message, end_of_day, status, completion}
use Rattle.zvt_apdu.specs.Views.{fields_in}
use Rattle.zvt_apdu.specs.declared.kinds.Kind.{Kind}
use Rattle.zvt_apdu.specs.declared.kinds.Kind.TheVariants as kind
use Rattle.zvt_till.specs.Hearing.{heard_as}
use Rattle.zvt_till.specs.Segments.{ends, is_positive}
use Rattle.zvt_till.specs.declared.happenings.Happening.TheVariants.{Heard as HeardIn}
use Rattle.zvt_till.specs.declared.messages.Heard.{Heard}
use Rattle.zvt_trace.specs.TraceEvent.{At, TraceEvent, on}
use Rattle.zvt_trace.specs.TraceEvent as trace_event
use Rattle.zvt_trace.specs.declared.direction.Direction.{Direction}
use Rattle.zvt_trace.specs.declared.direction.Direction.TheVariants.{FromTill, FromTerminal}
use Rattle.zvt_report.specs.CardTotals.{total_in, totals_in}
use Rattle.zvt_report.specs.Cards.{card_in}
use Rattle.zvt_report.specs.Reported.{beginning}
use Rattle.zvt_report.specs.declared.card_totals.CardTotals.{CardTotals}
use Rattle.zvt_report.specs.declared.cards.Card.{Card}
use Rattle.zvt_report.specs.declared.statements.Attention.{Attention}
use Rattle.zvt_report.specs.declared.statements.Hearing.{Hearing}
use Rattle.zvt_report.specs.declared.statements.Statement.{Statement}
use Rattle.zvt_report.specs.declared.statements.Undoing.{Undoing}

-- ---- the statuses of each order

-- the fields of a status information
abbrev pub fields_by : Kind → Option (List Field) → Option (List Field)
fields_by kind.Status fields = fields
fields_by _ fields = None

abbrev pub stating : Message → Option (List Field)
stating m = fields_by (kind_of m) (fields_in m)

-- what begins an order
abbrev pub begins_from : Direction → Message → Bool
begins_from FromTill m = is_some (beginning m)
begins_from FromTerminal m = false

abbrev pub begins : TraceEvent → Bool
begins (trace_event.message from m) = begins_from from m
begins _ = false

abbrev pub ends_from : Direction → (accepted : Bool) → Message → Bool
ends_from FromTill accepted m = false
ends_from FromTerminal accepted m = ends accepted (HeardIn (heard_as m))

-- what ends an order that the terminal has accepted or not
abbrev pub ends_by : (accepted : Bool) → TraceEvent → Bool
ends_by accepted (trace_event.message from m) = ends_from from accepted m
ends_by accepted (trace_event.refused from before byte why) = true
ends_by accepted (trace_event.unread from) = false
ends_by accepted (trace_event.resumed from size) = false
ends_by accepted (trace_event.cut_off from bytes) = false
ends_by accepted trace_event.lost = true

abbrev pub accepts_from : Direction → Message → Bool
accepts_from FromTill m = false
accepts_from FromTerminal m = is_positive (HeardIn (heard_as m))

-- the terminal accepts the order by it
abbrev pub accepts : TraceEvent → Bool
accepts (trace_event.message from m) = accepts_from from m
accepts _ = false

abbrev pub stated_from : Direction → Message → List (List Field)
stated_from FromTill m = []
stated_from FromTerminal m = cons_option (stating m) []

abbrev pub statuses_in : TraceEvent → List (List Field)
statuses_in (trace_event.message from m) = stated_from from m
statuses_in _ = []

-- the statuses of an order that the terminal has accepted or not, up to its end or to the next order
abbrev pub heard_statuses : (accepted : Bool) → List At → List (List Field)
heard_statuses accepted [] = []
heard_statuses accepted (event ∷ later) =
    cond (begins event.trace_event) []
    (cond (ends_by accepted event.trace_event) [] (statuses_in event.trace_event ++ heard_statuses (accepted || accepts event.trace_event) later))

-- the statuses of each order, in the order of the trace
abbrev pub answered : List At → List (List (List Field))
answered [] = []
answered (event ∷ later) = cond (begins event.trace_event) (heard_statuses false later ∷ answered later) (answered later)

-- ---- what they say

-- the result code is there once, and it is not 00
abbrev pub declines_by : List Field → Bool
declines_by fields = elim (result_of fields) [ None ↦ false | Some code ↦ not (code == 0) ]

-- what the last status says, or this if there is none
abbrev pub latest : {A : Type 0} → A → (List Field → A) → List (List Field) → A
latest before says [] = before
latest before says (fields ∷ more) = latest (says fields) says more

-- the number in BMP 04, also 0
abbrev pub total_by : List Field → Option ℕ
total_by fields = total_in (content_of 0x04 fields)

abbrev pub totals_of : List Field → Option CardTotals
totals_of fields = totals_in (content_of 0x60 fields)

-- the card, if the result code is there once and is 00
abbrev pub card_if : Option ℕ → List Field → Option Card
card_if None fields = None
card_if (Some code) fields = cond (code == 0) (card_in (content_of 0x8A fields) (content_of 0x8B fields) (content_of 0x22 fields)) None

abbrev pub card_by : List Field → Option Card
card_by fields = card_if (result_of fields) fields

-- the first card that one of these statuses names
abbrev pub first_card : List (List Field) → Option Card
first_card [] = None
first_card (fields ∷ more) = option_or (card_by fields) (first_card more)

-- the original trace number, if it is there once, and the trace number of the same status
abbrev pub undoing_by : List Field → Option Undoing
undoing_by fields = option_map (λ (digits : List ℕ). record { original = digits; trace = trace_of fields }) (original_of fields)

-- the first one
abbrev pub first_undoing : List (List Field) → Option Undoing
first_undoing [] = None
first_undoing (fields ∷ more) = option_or (undoing_by fields) (first_undoing more)

-- what these statuses say about their order
abbrev pub stated_by : List (List Field) → Statement
stated_by heard =
    record { declines = list_any declines_by heard; total = latest None total_by heard; totals = latest None totals_of heard; card = first_card heard; undoing = first_undoing heard }

-- the statement about each order
abbrev pub statements_of : List At → List Statement
statements_of events = map stated_by (answered events)

-- ---- event by event

abbrev pub no_statement : Statement
no_statement = record { declines = false; total = None; totals = None; card = None; undoing = None }

abbrev pub after_status : Statement → List Field → Statement
after_status before fields =
    record {
      declines = before.declines || declines_by fields;
      total = total_by fields;
      totals = totals_of fields;
      card = option_or before.card (card_by fields);
      undoing = option_or before.undoing (undoing_by fields);
    }

abbrev pub stated_with : Statement → Option (List Field) → Statement
stated_with before None = before
stated_with before (Some fields) = after_status before fields

abbrev pub attention : Attention
attention = record { accepted = false; statement = no_statement }

abbrev pub attends : Attention → Heard → Message → Attention
attends a heard m = record { accepted = a.accepted || is_positive (HeardIn heard); statement = stated_with a.statement (stating m) }

-- the statement about the running order, if it ends now
abbrev pub closed_by : Option Attention → List Statement
closed_by None = []
closed_by (Some a) = a.statement ∷ []

-- the running order has ended
abbrev pub Ends : Hearing → Hearing → Type 0
Ends old new = (new.statements.items ≡ old.statements.items ++ closed_by old.current) × (new.current ≡ None)

-- a message of the till begins an order or not
abbrev pub Begins : Bool → Hearing → Hearing → Type 0
Begins true old new = (new.statements.items ≡ old.statements.items ++ closed_by old.current) × (new.current ≡ Some attention)
Begins false old new = new ≡ old

-- the statements if these events come later
abbrev pub opened : Option Attention → List At → List Statement
opened None later = statements_of later
opened (Some a) later = fold after_status a.statement (heard_statuses a.accepted later) ∷ statements_of later

abbrev pub stated : Hearing → List At → List Statement
stated hearing later = hearing.statements.items ++ opened hearing.current later

-- what a hearing becomes by an event: whatever comes later, the statements are the same
abbrev pub States : Hearing → At → Hearing → Type 0
States old event new = (later : List At) → stated new later ≡ stated old (event ∷ later)

-- ---- rows worked by hand

abbrev a_total : (cents : ℕ) → Message
a_total cents = status (plain 0x04 (0 ∷ 0 ∷ 0 ∷ 0 ∷ 0x05 ∷ cents ∷ []) ∷ [])

abbrev from_terminal : (line : ℕ) → Message → At
from_terminal line m = on line (trace_event.message FromTerminal m)

-- the last status counts; what comes after the completion does not
a_close : statements_of (on 1 (trace_event.message FromTill (end_of_day (0 ∷ 0 ∷ 0 ∷ []) [])) ∷ from_terminal 2 (a_total 0x01) ∷ from_terminal 3 (a_total 0x02)
    ∷ from_terminal 4 (completion []) ∷ from_terminal 5 (a_total 0x03) ∷ [])
    ≡ record { declines = false; total = Some 502; totals = None; card = None; undoing = None } ∷ []
a_close = refl

a_decline : statements_of (on 1 (trace_event.message FromTill (end_of_day (0 ∷ 0 ∷ 0 ∷ []) [])) ∷ from_terminal 2 (status (plain 0x27 (0x6C ∷ []) ∷ [])) ∷ from_terminal 3 (a_total 0x02) ∷ [])
    ≡ record { declines = true; total = Some 502; totals = None; card = None; undoing = None } ∷ []
a_decline = refl

-- of two cards the first one counts, and none of a status that declines
abbrev a_named_card : (result letter : ℕ) → Message
a_named_card result letter = status (plain 0x27 (result ∷ []) ∷ plain 0x8B (letter ∷ []) ∷ [])

its_card : map (λ (s : Statement). s.card) (statements_of (on 1 (trace_event.message FromTill (end_of_day (0 ∷ 0 ∷ 0 ∷ []) [])) ∷ from_terminal 2 (a_named_card 0x6C 65) ∷ from_terminal 3 (a_named_card 0x00 66)
    ∷ from_terminal 4 (a_named_card 0x00 67) ∷ []))
    ≡ card_in None (Some (66 ∷ [])) None ∷ []
its_card = refl

-- the second status takes back the first
abbrev an_approval : Message
an_approval = status (plain 0x27 (0 ∷ []) ∷ plain 0x0B (0 ∷ 0 ∷ 0x17 ∷ []) ∷ [])

an_undoing : map (λ (s : Statement). s.undoing) (statements_of (on 1 (trace_event.message FromTill (end_of_day (0 ∷ 0 ∷ 0 ∷ []) [])) ∷ from_terminal 2 an_approval
    ∷ from_terminal 3 (status (plain 0x37 (0 ∷ 0 ∷ 0x17 ∷ []) ∷ plain 0x0B (0 ∷ 0 ∷ 0x18 ∷ []) ∷ [])) ∷ []))
    ≡ Some (record { original = 0 ∷ 0 ∷ 0x17 ∷ []; trace = Some 18 }) ∷ []
an_undoing = refl
