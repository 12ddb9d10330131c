-- The terminal that does more than the profile has: its replies to further orders, its refunds, and the payments that it
-- holds before it decides.
use Rattle.std.specs.Prelude.{◌≡◌, ℕ, ◌+◌, ◌-◌, ◌==◌, ◌&&◌, ◌||◌, Bool, true, false, cond, nat_lt, List, [], ◌∷◌, ◌++◌, length, Option, Some, None, is_some, option_map, slice_get}
use Rattle.std.specs.Option.{option_or}
use Rattle.zvt_apdu.specs.Message.{Message, ack}
use Rattle.zvt_stream.specs.Answered.{Answered}
use Rattle.zvt_term.specs.declared.messages.Report.{Report}
use Rattle.zvt_term.specs.declared.messages.Asked.{Asked}
use Rattle.zvt_term.specs.declared.messages.Asked.TheVariants.{Authorisation, AbortOrder, Answer}
use Rattle.zvt_term.specs.declared.messages.Line.TheVariants.{DayClosed}
use Rattle.zvt_term.specs.declared.messages.Report.TheVariants.{Ack, Approved, Result, TakenBack, Done}
use Rattle.zvt_term.specs.declared.messages.Response.{Response}
use Rattle.zvt_term.specs.declared.messages.Response.TheVariants.{Nothing, One, Two}
use Rattle.zvt_term.specs.declared.ledger.Row.{Row}
use Rattle.zvt_term.specs.declared.turns.Phase.{Phase}
use Rattle.zvt_term.specs.declared.turns.Phase.TheVariants.{Idle, Printing, Completing, Aborting, Ending}
use Rattle.zvt_term.specs.declared.turns.Turn.{Turn}
use Rattle.zvt_term.specs.declared.turns.Verdict.{Verdict}
use Rattle.zvt_term.specs.declared.extras.Extra.{Extra}
use Rattle.zvt_term.specs.declared.extras.Extra.TheVariants.{Service, LogOff, RepeatReceipt, Refund}
use Rattle.zvt_term.specs.declared.extras.Extras.{Extras}
use Rattle.zvt_term.specs.declared.extras.Receipts.{Receipts}
use Rattle.zvt_term.specs.declared.extras.Receipts.TheVariants.{Nothing as NoReceipts}
use Rattle.zvt_term.specs.declared.refunds.Refunded.{Refunded}
use Rattle.zvt_term.specs.declared.extended.Extended.{Extended}
use Rattle.zvt_term.specs.Asking.{asked_as}
use Rattle.zvt_term.specs.Dressing.{SaysAll, is_ack, is_delayed, message_by, said_by, said_later}
use Rattle.zvt_term.specs.Extras.{extra_of, no_extras}
use Rattle.zvt_term.specs.Served.{served_hears, served_loses}
use Rattle.zvt_term.specs.Terminal.{TerminalState, most_rows, new_terminal, is_ready, refuses, runs, aborts, goes_on, turn_of, when, after}

-- a new terminal with this number, decision and extras
abbrev pub new_extended : ℕ → Verdict → Extras → Extended
new_extended tid verdict extras = record { served = record { terminal = new_terminal tid; verdict = verdict }; extras = extras; refund = None; waits = false; held = None }

-- ---- refunds

-- the number of refunds so far
abbrev pub count_refunds : Option Refunded → ℕ
count_refunds None = 0
count_refunds (Some refund) = refund.before + 1

-- refunds are numbered downwards from 9999
abbrev pub refund_number : ℕ → ℕ
refund_number before = most_rows - before

-- a refund needs an amount, and a number that no row and no other refund has
abbrev pub new_refund : TerminalState → Option Refunded → Option ℕ → Option Refunded
new_refund s last None = None
new_refund s last (Some amount) =
    cond (nat_lt (count_refunds last + length s.ledger) most_rows)
    (Some (record { before = count_refunds last; amount = amount; currency = s.currency; rows = length s.ledger })) None

-- the refund that an order leads to, if it is one that the terminal accepts
abbrev pub refund_by : TerminalState → Option Refunded → Extra → Option Refunded
refund_by s last Service = None
refund_by s last LogOff = None
refund_by s last RepeatReceipt = None
refund_by s last (Refund amount) = cond (is_ready s) (new_refund s last amount) None

abbrev pub report_of_refund : Refunded → Report
report_of_refund refund = Approved refund.amount (refund_number refund.before) refund.currency

-- ---- the last transaction

-- the status of a row
abbrev pub report_of_row : Row → Report
report_of_row row =
    elim row.reverses [
      | None ↦ Approved row.amount row.number row.currency
      | Some original ↦ TakenBack row.amount row.number original row.currency
    ]

abbrev pub last_row : List Row → Option Row
last_row rows = slice_get rows (length rows - 1)

-- the status of the last row of the ledger, or of the last refund if no row came after it
abbrev pub last_report : List Row → Option Refunded → Option Report
last_report rows None = option_map report_of_row (last_row rows)
last_report rows (Some refund) = cond (refund.rows == length rows) (Some (report_of_refund refund)) (option_map report_of_row (last_row rows))

-- ---- turns

-- the order is acknowledged, and no till is registered any more
abbrev pub logs_off : Turn
logs_off = record { registered = false; currency = None; phase = Idle; row = None; reply = One Ack }

-- the status of the last transaction, if there is one; 131 is 83 in hexadecimal
abbrev pub repeats : TerminalState → Option Report → Turn
repeats s None = aborts s 131
repeats s (Some report) = runs s Completing report

-- 255 is FF in hexadecimal
abbrev pub pays_back : TerminalState → Option Refunded → Turn
pays_back s None = refuses s 255
pays_back s (Some refund) = runs s Completing (report_of_refund refund)

-- the turn that the order leads to; none of them adds a row
abbrev pub extra_turn : TerminalState → Option Refunded → Extra → Turn
extra_turn s last Service = when (is_ready s) s (runs s Ending Done)
extra_turn s last LogOff = when (is_ready s) s logs_off
extra_turn s last RepeatReceipt = when (is_ready s) s (repeats s (last_report s.ledger last))
extra_turn s last (Refund amount) = when (is_ready s) s (pays_back s (new_refund s last amount))

-- ---- held payments

abbrev pub is_accepted : Response → Bool
is_accepted Nothing = false
is_accepted (One report) = false
is_accepted (Two first second) = is_ack first

-- with a delay, the terminal holds a payment that it would accept with this reply
abbrev pub is_held : Extras → Asked → Response → Bool
is_held extras (Authorisation amount named) reply = nat_lt 0 extras.delay && is_accepted reply
is_held extras asked reply = false

-- while a payment is held, an abort ends it, and each other message is refused; 108 is 6C and 131 is 83 in hexadecimal
abbrev pub window_turn : TerminalState → Asked → Turn
window_turn s AbortOrder = aborts s 108
window_turn s asked = refuses s 131

abbrev pub held_after : (payment : Asked) → Asked → Option Asked
held_after payment AbortOrder = None
held_after payment asked = Some payment

-- ---- on its line

-- the order beyond the profile in a message, if the terminal accepts such orders
abbrev pub heard_extra : Extras → Message → Option Extra
heard_extra extras message = cond extras.extended (extra_of message) None

-- without receipts, an order is completed in place of a receipt
abbrev pub next_phase : Receipts → Phase → Phase
next_phase NoReceipts (Printing line) = Completing
next_phase receipts phase = phase

-- the turn that a message of the profile leads to
abbrev pub profile_turn : Receipts → TerminalState → Asked → Verdict → Turn
profile_turn receipts s Answer v = goes_on s (next_phase receipts s.phase)
profile_turn receipts s asked v = turn_of s asked v

-- A turn is made, with its refund if it has one, and then this payment is held, if one is.
pub record MakesTurn (old : Extended) (turn : Turn) (refunded : Option Refunded) (kept : Option Asked) (new : Extended) : Type 0 where
  pub terminal : new.served.terminal ≡ after old.served.terminal turn
  pub refund : new.refund ≡ option_or refunded old.refund
  pub waits : new.waits ≡ (old.waits || is_delayed old.extras turn.reply)
  pub held : new.held ≡ kept
  pub verdict : new.served.verdict ≡ old.served.verdict
  pub extras : new.extras ≡ old.extras

-- the same, and its reports are said
pub record HearsTurn (old : Extended) (turn : Turn) (refunded : Option Refunded) (kept : Option Asked) (answers : Answered) (new : Extended) : Type 0 where
  pub made : MakesTurn old turn refunded kept new
  pub says : SaysAll (said_by old.served.terminal.tid old.extras turn.reply) answers

-- The payment is only acknowledged, and held.
pub record Holds (old : Extended) (payment : Asked) (answers : Answered) (new : Extended) : Type 0 where
  pub served : new.served ≡ old.served
  pub refund : new.refund ≡ old.refund
  pub waits : new.waits ≡ old.waits
  pub held : new.held ≡ Some payment
  pub extras : new.extras ≡ old.extras
  pub says : SaysAll (ack [] ∷ []) answers

abbrev pub asked_turn : Extended → Asked → Turn
asked_turn old asked = profile_turn old.extras.receipts old.served.terminal asked old.served.verdict

abbrev pub holds_or_hears : Bool → Extended → Asked → Answered → Extended → Type 0
holds_or_hears true old asked answers new = Holds old asked answers new
holds_or_hears false old asked answers new = HearsTurn old (asked_turn old asked) None None answers new

abbrev pub hears_asked : Extended → Asked → Answered → Extended → Type 0
hears_asked old asked answers new = holds_or_hears (is_held old.extras asked (asked_turn old asked).reply) old asked answers new

abbrev pub hears_by : Option Extra → Extended → Message → Answered → Extended → Type 0
hears_by None old message answers new = hears_asked old (asked_as message) answers new
hears_by (Some extra) old message answers new =
    HearsTurn old (extra_turn old.served.terminal old.refund extra) (refund_by old.served.terminal old.refund extra) None answers new

-- the status of the running order
abbrev pub due_in : Phase → Option Report → Option Report
due_in (Aborting code) last = Some (Result code)
due_in (Printing DayClosed) last = Some (Result 0)
due_in phase last = last

abbrev pub status_due : TerminalState → Option Refunded → Option Report
status_due s last = due_in s.phase (last_report s.ledger last)

abbrev pub said_of : (tid : ℕ) → Extras → Option Report → List Message
said_of tid extras None = []
said_of tid extras (Some report) = message_by tid extras report ∷ []

-- The status that comes after an intermediate status is said.
pub record Releases (old : Extended) (answers : Answered) (new : Extended) : Type 0 where
  pub served : new.served ≡ old.served
  pub refund : new.refund ≡ old.refund
  pub waits : new.waits ≡ false
  pub held : new.held ≡ old.held
  pub extras : new.extras ≡ old.extras
  pub says : SaysAll (said_of old.served.terminal.tid old.extras (status_due old.served.terminal old.refund)) answers

abbrev pub is_answer : Asked → Bool
is_answer Answer = true
is_answer asked = false

abbrev pub hears_or_releases : Bool → Extended → Message → Answered → Extended → Type 0
hears_or_releases true old message answers new = Releases old answers new
hears_or_releases false old message answers new = hears_by (heard_extra old.extras message) old message answers new

abbrev pub hears_window : (payment : Asked) → Extended → Asked → Answered → Extended → Type 0
hears_window payment old asked answers new = HearsTurn old (window_turn old.served.terminal asked) None (held_after payment asked) answers new

-- the till's reply to an intermediate status releases the status, and each other message leads to a turn
abbrev pub hears_while : (held : Option Asked) → Extended → Message → Answered → Extended → Type 0
hears_while None old message answers new = hears_or_releases (old.waits && is_answer (asked_as message)) old message answers new
hears_while (Some payment) old message answers new = hears_window payment old (asked_as message) answers new

abbrev pub extended_hears : Extended → Message → Answered → Extended → Type 0
extended_hears old message answers new = hears_while old.held old message answers new

-- the delay is over: a held payment is decided, and what follows its acknowledgement is said
abbrev pub elapses_while : (held : Option Asked) → Extended → Answered → Extended → Type 0
elapses_while None old answers new = (new ≡ old) × (answers ≡ record { bytes = []; count = 0 })
elapses_while (Some payment) old answers new =
    MakesTurn old (asked_turn old payment) None None new × SaysAll (said_later old.served.terminal.tid old.extras (asked_turn old payment).reply) answers

abbrev pub extended_elapses : Extended → Answered → Extended → Type 0
extended_elapses old answers new = elapses_while old.held old answers new

-- whether it holds a payment
abbrev pub holds_payment : Extended → Bool
holds_payment terminal = is_some terminal.held

-- the refunds stay, and a held payment is forgotten
pub record ExtendedLoses (old new : Extended) : Type 0 where
  pub served : served_loses old.served new.served
  pub refund : new.refund ≡ old.refund
  pub waits : new.waits ≡ false
  pub held : new.held ≡ None
  pub extras : new.extras ≡ old.extras

-- ---- laws

-- without extras, every message is processed as by a terminal of the profile
abbrev pub PlainIsServed : Type 0
PlainIsServed =
    (old new : Extended) (message : Message) (answers : Answered) → old.extras ≡ no_extras → old.waits ≡ false → old.held ≡ None → extended_hears old message answers new
    → served_hears old.served message answers new.served × (new.extras ≡ no_extras) × (new.waits ≡ false) × (new.held ≡ None)

-- no order beyond the profile changes the ledger
abbrev pub ExtrasKeepLedger : Type 0
ExtrasKeepLedger =
    (old new : Extended) (extra : Extra) (message : Message) (answers : Answered) → heard_extra old.extras message ≡ Some extra → extended_hears old message answers new
    → new.served.terminal.ledger ≡ old.served.terminal.ledger

-- a repeat receipt changes nothing but the order in progress
abbrev pub RepeatsChangeNothing : Type 0
RepeatsChangeNothing =
    (old new : Extended) (message : Message) (answers : Answered) → heard_extra old.extras message ≡ Some RepeatReceipt → extended_hears old message answers new
    → (new.served.terminal ≡ record old.served.terminal { phase = new.served.terminal.phase }) × (new.refund ≡ old.refund)

-- the same terminal without a delay
abbrev pub undelayed : Extended → Extended
undelayed terminal = record terminal { extras = record terminal.extras { delay = 0 } }

-- A payment that is held until the delay is over is answered as by a terminal without a delay: by the same messages
-- together, and with the same state and ledger.
abbrev pub HeldIsAnswered : Type 0
HeldIsAnswered =
    (old middle new : Extended) (message : Message) (first later : Answered) → old.held ≡ None → extended_hears old message first middle → holds_payment middle ≡ true
    → extended_elapses middle later new
    → extended_hears (undelayed old) message (record { bytes = first.bytes ++ later.bytes; count = first.count + later.count }) (undelayed new)

-- a message changes no row while a payment is held before it or after it, so that neither holding a payment nor aborting it does
abbrev pub HeldKeepsLedger : Type 0
HeldKeepsLedger =
    (old new : Extended) (message : Message) (answers : Answered) → (holds_payment old || holds_payment new) ≡ true → extended_hears old message answers new
    → new.served.terminal.ledger ≡ old.served.terminal.ledger
