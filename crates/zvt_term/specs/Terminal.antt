-- The terminal as a small state machine: its state after each message, and its replies.
use Rattle.std.specs.Prelude.{ℕ, ◌+◌, Bool, true, false, cond, ◌&&◌, nat_lt, List, [], ◌∷◌, ◌++◌, length, Option, Some, None, option_to_list}
use Rattle.zvt_till.specs.declared.messages.CurrencyFact.{CurrencyFact}
use Rattle.zvt_till.specs.Statuses.{is_in_currency}
use Rattle.zvt_term.specs.declared.messages.Asked.{Asked}
use Rattle.zvt_term.specs.declared.messages.Asked.TheVariants.{Registration, Authorisation, Reversal, EndOfDay, AbortOrder, Answer, Unknown}
use Rattle.zvt_term.specs.declared.messages.Line.TheVariants.{Approved as ApprovedLine, Reversed as ReversedLine, DayClosed}
use Rattle.zvt_term.specs.declared.messages.Report.{Report}
use Rattle.zvt_term.specs.declared.messages.Report.TheVariants.{Ack, Nack, Registered, Approved, Result, TakenBack, Line, Done, Aborted}
use Rattle.zvt_term.specs.declared.messages.Response.{Response}
use Rattle.zvt_term.specs.declared.messages.Response.TheVariants.{Nothing, One, Two}
use Rattle.zvt_term.specs.declared.ledger.Row.{Row}
use Rattle.zvt_term.specs.declared.turns.Verdict.{Verdict}
use Rattle.zvt_term.specs.declared.turns.Verdict.TheVariants.{Approve, Decline}
use Rattle.zvt_term.specs.declared.turns.Phase.{Phase}
use Rattle.zvt_term.specs.declared.turns.Phase.TheVariants.{Idle, Printing, Completing, Aborting, Ending}
use Rattle.zvt_term.specs.declared.turns.Turn.{Turn}
use Rattle.zvt_term.specs.Ledger.{approval_by, is_taken_back}

pub record TerminalState : Type 0 where
  pub tid : ℕ
  pub registered : Bool
  pub currency : Option ℕ
  pub phase : Phase
  pub ledger : List Row

abbrev pub new_terminal : ℕ → TerminalState
new_terminal tid = record { tid = tid; registered = false; currency = None; phase = Idle; ledger = [] }

-- the line is down: the order is forgotten, and no till is registered
abbrev pub lost_terminal : TerminalState → TerminalState
lost_terminal s = record { tid = s.tid; registered = false; currency = None; phase = Idle; ledger = s.ledger }

abbrev pub most_rows : ℕ
most_rows = 9999

-- the next number is free
abbrev pub has_capacity : TerminalState → Bool
has_capacity s = nat_lt (length s.ledger) most_rows

abbrev pub next_number : TerminalState → ℕ
next_number s = length s.ledger + 1

abbrev pub is_idle : Phase → Bool
is_idle Idle = true
is_idle (Printing line) = false
is_idle Completing = false
is_idle (Aborting code) = false
is_idle Ending = false

-- nothing changes, and this is the reply
abbrev pub stays : TerminalState → Response → Turn
stays s reply = record { registered = s.registered; currency = s.currency; phase = s.phase; row = None; reply = reply }

-- the order is accepted, with a first report
abbrev pub runs : TerminalState → Phase → Report → Turn
runs s phase report = record { registered = s.registered; currency = s.currency; phase = phase; row = None; reply = Two Ack report }

-- the same with a row
abbrev pub writes : TerminalState → Phase → Row → Report → Turn
writes s phase row report = record { registered = s.registered; currency = s.currency; phase = phase; row = Some row; reply = Two Ack report }

-- the order is accepted and aborted
abbrev pub aborts : TerminalState → ℕ → Turn
aborts s code = runs s Ending (Aborted code)

abbrev pub refuses : TerminalState → ℕ → Turn
refuses s code = stays s (One (Nack code))

abbrev pub registers : TerminalState → Option ℕ → Turn
registers s currency = record { registered = true; currency = currency; phase = Ending; row = None; reply = Two Ack (Registered s.tid currency) }

-- the verdict decides
abbrev pub decides : TerminalState → ℕ → Verdict → Turn
decides s amount Approve =
    writes s (Printing (ApprovedLine amount)) (record { number = next_number s; amount = amount; currency = s.currency; reverses = None }) (Approved amount (next_number s) s.currency)
decides s amount (Decline code) = runs s (Aborting code) (Result code)

-- a payment is accepted only in the stored currency; if none is stored, any currency is accepted
abbrev pub takes_currency : Option ℕ → CurrencyFact → Bool
takes_currency None named = true
takes_currency (Some own) named = is_in_currency (Some own) named

-- 255 is FF, 111 is 6F in hexadecimal
abbrev pub authorises : TerminalState → Option ℕ → CurrencyFact → Verdict → Turn
authorises s None named v = refuses s 255
authorises s (Some amount) named v = cond (has_capacity s) (cond (takes_currency s.currency named) (decides s amount v) (refuses s 111)) (refuses s 255)

-- 180 is B4 in hexadecimal
abbrev pub takes_back_row : TerminalState → Row → Turn
takes_back_row s row =
    cond (is_taken_back row.number s.ledger) (aborts s 180)
    (cond (has_capacity s)
    (writes s (Printing (ReversedLine row.amount)) (record { number = next_number s; amount = row.amount; currency = s.currency; reverses = Some row.number })
    (TakenBack row.amount (next_number s) row.number s.currency))
    (aborts s 255))

-- 181 is B5 in hexadecimal
abbrev pub reverses_found : TerminalState → Option Row → Turn
reverses_found s None = aborts s 181
reverses_found s (Some row) = takes_back_row s row

abbrev pub reverses : TerminalState → Option (List ℕ) → Turn
reverses s None = aborts s 181
reverses s (Some receipt) = reverses_found s (approval_by receipt s.ledger)

abbrev pub closes : TerminalState → Turn
closes s = runs s (Printing DayClosed) (Result 0)

-- on to that phase
abbrev pub moves_on : TerminalState → Phase → Response → Turn
moves_on s phase reply = record { registered = s.registered; currency = s.currency; phase = phase; row = None; reply = reply }

-- the till replied to the last report
abbrev pub goes_on : TerminalState → Phase → Turn
goes_on s Idle = moves_on s Idle Nothing
goes_on s (Printing line) = moves_on s Completing (One (Line line))
goes_on s Completing = moves_on s Ending (One Done)
goes_on s (Aborting code) = moves_on s Ending (One (Aborted code))
goes_on s Ending = moves_on s Idle Nothing

-- an order is refused while another one is running; 131 is 83 in hexadecimal
abbrev pub when : Bool → TerminalState → Turn → Turn
when ready s turn = cond ready turn (refuses s 131)

-- all orders but a registration need one
abbrev pub is_ready : TerminalState → Bool
is_ready s = s.registered && is_idle s.phase

abbrev pub turn_of : TerminalState → Asked → Verdict → Turn
turn_of s (Registration currency) v = when (is_idle s.phase) s (registers s currency)
turn_of s (Authorisation amount named) v = when (is_ready s) s (authorises s amount named v)
turn_of s (Reversal receipt) v = when (is_ready s) s (reverses s receipt)
turn_of s EndOfDay v = when (is_ready s) s (closes s)
turn_of s AbortOrder v = stays s (One Ack)
turn_of s Answer v = goes_on s s.phase
turn_of s Unknown v = refuses s 131

abbrev pub after : TerminalState → Turn → TerminalState
after s turn = record { tid = s.tid; registered = turn.registered; currency = turn.currency; phase = turn.phase; ledger = s.ledger ++ option_to_list turn.row }

abbrev pub reports_of : Response → List Report
reports_of Nothing = []
reports_of (One report) = report ∷ []
reports_of (Two first second) = first ∷ second ∷ []

-- the terminal after a message
abbrev pub state_after : TerminalState → Asked → Verdict → TerminalState
state_after s asked v = after s (turn_of s asked v)

-- its replies to the message
abbrev pub reports_to : TerminalState → Asked → Verdict → List Report
reports_to s asked v = reports_of (turn_of s asked v).reply
