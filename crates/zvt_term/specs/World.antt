-- Both ends of a line, with all messages that each ever sent: their states after a list of moves, and the match between
-- book and ledger.
use Rattle.std.specs.Prelude.{◌≡◌, ℕ, ◌≤◌, true, false, cond, nat_eq, List, [], ◌∷◌, ◌++◌, Option, Some, None, fold, map, slice_get, option_to_list}
use Rattle.std.specs.List.{IsDistinct}
use Rattle.zvt_apdu.specs.Message.{Message}
use Rattle.zvt_apdu.specs.Briefs.{digits, message_of_brief}
use Rattle.zvt_till.specs.declared.entries.Entry.{Entry}
use Rattle.zvt_till.specs.declared.happenings.Happening.TheVariants.{Connected, Heard as HeardIn, Lost}
use Rattle.zvt_till.specs.declared.orders.Order.{Order}
use Rattle.zvt_till.specs.declared.orders.Order.TheVariants.{Register, Pay, Reverse, CloseDay, Cancel}
use Rattle.zvt_till.specs.declared.orders.OrderRefusal.{OrderRefusal}
use Rattle.zvt_till.specs.declared.orders.Outgoing.{Outgoing}
use Rattle.zvt_till.specs.Events.{run_settings}
use Rattle.zvt_till.specs.Hearing.{heard_as}
use Rattle.zvt_till.specs.Laws.{trace_of}
use Rattle.zvt_till.specs.Refusals.{refusal}
use Rattle.zvt_till.specs.Sending.{Settings, message_of, reply_to}
use Rattle.zvt_till.specs.Till.{TillState, new_till, accept, step, facts_of}
use Rattle.zvt_term.specs.declared.ledger.Row.{Row}
use Rattle.zvt_term.specs.declared.turns.Verdict.{Verdict}
use Rattle.zvt_term.specs.declared.world.Move.{Move}
use Rattle.zvt_term.specs.declared.world.Move.TheVariants.{Connect, Order as Ordered, ToTerminal, ToTill, TillLost, TerminalLost}
use Rattle.zvt_term.specs.Asking.{asked_as}
use Rattle.zvt_term.specs.Reports.{message_of_report}
use Rattle.zvt_term.specs.Terminal.{TerminalState, new_terminal, lost_terminal, state_after, reports_to}

pub record Ends : Type 0 where
  pub till : TillState
  pub terminal : TerminalState
  pub from_till : List Message
  pub from_terminal : List Message

-- a new till with these settings, and a new terminal
abbrev pub ends_with : Settings → Ends
ends_with settings = record { till = new_till settings; terminal = new_terminal 12345678; from_till = []; from_terminal = [] }

-- the till has the default settings
abbrev pub new_ends : Ends
new_ends = ends_with run_settings

-- the message that the till sends, if any
abbrev pub sent_out : Option Outgoing → List Message
sent_out outgoing = map (λ o. message_of_brief o.brief) (option_to_list outgoing)

-- a refused order has no effect
abbrev pub orders : Ends → Order → Option OrderRefusal → Ends
orders w order None = record w { till = accept w.till order; from_till = w.from_till ++ sent_out (message_of w.till.settings w.till.book order) }
orders w order (Some why) = w

-- a message that was never sent does nothing
abbrev pub reaches_terminal : Ends → Verdict → Option Message → Ends
reaches_terminal w v None = w
reaches_terminal w v (Some m) =
    record w {
      terminal = state_after w.terminal (asked_as m) v;
      from_terminal = w.from_terminal ++ map message_of_report (reports_to w.terminal (asked_as m) v);
    }

abbrev pub reaches_till : Ends → Option Message → Ends
reaches_till w None = w
reaches_till w (Some m) =
    record w {
      till = step w.till (HeardIn (heard_as m));
      from_till = w.from_till ++ cond w.till.line_up (sent_out (reply_to (heard_as m))) [];
    }

-- one move: a delivery is of the message with that number among all that the other end ever sent
abbrev pub move : Ends → Move → Ends
move w Connect = record w { till = step w.till Connected }
move w (Ordered order) = orders w order (refusal (facts_of w.till) order)
move w (ToTerminal k v) = reaches_terminal w v (slice_get w.from_till k)
move w (ToTill k) = reaches_till w (slice_get w.from_terminal k)
move w TillLost = record w { till = step w.till Lost }
move w TerminalLost = record w { terminal = lost_terminal w.terminal }

abbrev pub world_with : Settings → List Move → Ends
world_with settings moves = fold move (ends_with settings) moves

abbrev pub world : List Move → Ends
world moves = world_with run_settings moves

-- the currency has four digits at most, and a status of a reversal must name the payment
abbrev pub FitSettings : Settings → Type 0
FitSettings settings = (settings.currency ≤ 9999) × (settings.rules.reversal_by_receipt ≡ false)

-- a payment asks for an amount that there is
abbrev pub IsAmount : ℕ → Type 0
IsAmount amount = (1 ≤ amount) × (amount ≤ 999999999999)

abbrev pub FitOrder : Order → Type 0
FitOrder Register = Unit {0}
FitOrder (Pay amount) = IsAmount amount
FitOrder (Reverse entry) = Unit {0}
FitOrder CloseDay = Unit {0}
FitOrder Cancel = Unit {0}

abbrev pub FitMove : Move → Type 0
FitMove Connect = Unit {0}
FitMove (Ordered order) = FitOrder order
FitMove (ToTerminal k v) = Unit {0}
FitMove (ToTill k) = Unit {0}
FitMove TillLost = Unit {0}
FitMove TerminalLost = Unit {0}

abbrev pub FitMoves : List Move → Type 0
FitMoves [] = Unit {0}
FitMoves (x ∷ moves) = FitMove x × FitMoves moves

-- the ledger holds this approval, in this currency
abbrev pub IsApproved : List Row → (currency amount number : ℕ) → Type 0
IsApproved ledger currency amount number = (k : ℕ) × (slice_get ledger k ≡ Some (record { number = number; amount = amount; currency = Some currency; reverses = None }))

-- the ledger contains a row that reverses the approval with this number
abbrev pub IsTakenBack : List Row → (number : ℕ) → Type 0
IsTakenBack ledger number = (k : ℕ) × (row : Row) × (slice_get ledger k ≡ Some row) × (row.reverses ≡ Some number)

-- an entry of a till with this currency is an approval of the ledger with its trace number, which its receipt number
-- also spells
pub record EntryMatches (currency : ℕ) (ledger : List Row) (entry : Entry) : Type 0 where
  pub approved : IsApproved ledger currency entry.amount entry.trace
  pub receipt : entry.receipt ≡ Some (digits 2 entry.trace)
  pub reversed : entry.reversed ≡ true → IsTakenBack ledger entry.trace

abbrev pub AllMatch : ℕ → List Row → List Entry → Type 0
AllMatch currency ledger [] = Unit {0}
AllMatch currency ledger (entry ∷ book) = EntryMatches currency ledger entry × AllMatch currency ledger book

-- no trace number appears twice in the book, and each entry has its row, in the till's currency
pub record Matches (till : TillState) (ledger : List Row) : Type 0 where
  pub distinct : IsDistinct nat_eq (map trace_of till.book)
  pub entries : AllMatch till.settings.currency ledger till.book

abbrev pub WorldsMatch : Type 0
WorldsMatch =
    (settings : Settings) (moves : List Move) → FitSettings settings → FitMoves moves
    → Matches (world_with settings moves).till (world_with settings moves).terminal.ledger
