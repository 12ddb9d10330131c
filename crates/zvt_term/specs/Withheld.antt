-- The status that a terminal withholds while an intermediate status is with the till, and that it sends afterwards.
use Rattle.std.specs.Prelude.{◌≡◌, ℕ, ◌&&◌, true, false, cond, is_some, List, [], ◌∷◌, Option, Some, None, refl}
use Rattle.std.specs.Option.{option_or}
use Rattle.zvt_apdu.specs.Message.{Message}
use Rattle.zvt_stream.specs.Answered.{Answered}
use Rattle.zvt_term.specs.declared.messages.Asked.{Asked}
use Rattle.zvt_term.specs.declared.messages.Report.{Report}
use Rattle.zvt_term.specs.declared.messages.Report.TheVariants.{Ack, Result, Done}
use Rattle.zvt_term.specs.declared.messages.Response.{Response}
use Rattle.zvt_term.specs.declared.messages.Response.TheVariants.{Nothing, One, Two}
use Rattle.zvt_term.specs.declared.turns.Turn.{Turn}
use Rattle.zvt_term.specs.declared.turns.Verdict.{Verdict}
use Rattle.zvt_term.specs.declared.extras.Extra.{Extra}
use Rattle.zvt_term.specs.declared.extras.Extras.{Extras}
use Rattle.zvt_term.specs.declared.extras.Receipts.TheVariants.{Lines}
use Rattle.zvt_term.specs.declared.extended.Extended.{Extended}
use Rattle.zvt_term.specs.Asking.{asked_as}
use Rattle.zvt_term.specs.Dressing.{is_delayed}
use Rattle.zvt_term.specs.Extended.{ExtendedLoses, asked_turn, extended_elapses, extended_hears, extra_turn, heard_extra, is_answer, is_held, new_extended, status_due, window_turn}
use Rattle.zvt_term.specs.Terminal.{stays}

-- the status that a reply withholds: an intermediate status is sent in its place
abbrev pub withheld_by : Extras → Response → Option Report
withheld_by extras Nothing = None
withheld_by extras (One report) = None
withheld_by extras (Two first second) = cond (is_delayed extras (Two first second)) (Some second) None

-- the turn that a message leads to while no payment is held
abbrev pub turn_by : Option Extra → Extended → Message → Turn
turn_by None terminal message =
    cond (is_held terminal.extras (asked_as message) (asked_turn terminal (asked_as message)).reply) (stays terminal.served.terminal (One Ack)) (asked_turn terminal (asked_as message))
turn_by (Some extra) terminal message = extra_turn terminal.served.terminal terminal.refund extra

-- what is withheld after a turn with this reply
abbrev pub withheld_then : Extended → Option Report → Response → Option Report
withheld_then terminal withheld reply = option_or (withheld_by terminal.extras reply) withheld

-- what is withheld after a message: nothing after the till's reply to the intermediate status, and else what was withheld
-- before, or what this message's turn withholds
abbrev pub withheld_while : (held : Option Asked) → Extended → Option Report → Message → Option Report
withheld_while None terminal withheld message =
    cond (terminal.waits && is_answer (asked_as message)) None (withheld_then terminal withheld (turn_by (heard_extra terminal.extras message) terminal message).reply)
withheld_while (Some payment) terminal withheld message = withheld_then terminal withheld (window_turn terminal.served.terminal (asked_as message)).reply

abbrev pub withheld_after : Extended → Option Report → Message → Option Report
withheld_after terminal withheld message = withheld_while terminal.held terminal withheld message

-- what is withheld after the delay
abbrev pub withheld_later : (held : Option Asked) → Extended → Option Report → Option Report
withheld_later None terminal withheld = withheld
withheld_later (Some payment) terminal withheld = withheld_then terminal withheld (asked_turn terminal payment).reply

-- an event at a terminal: a message, the end of the delay, or the loss of its line
pub data Event : Type 0 where
  Heard : Message → Event
  Elapsed : Event
  Lost : Event

-- These events come to the terminal, one after another. The reports are what it withholds before and afterwards.
abbrev pub Lives : List Event → Option Report → Extended → Option Report → Extended → Type 0
Lives [] before old withheld new = (withheld ≡ before) × (new ≡ old)
Lives (Lost ∷ events) before old withheld new = (next : Extended) × ExtendedLoses old next × Lives events None next withheld new
Lives (Elapsed ∷ events) before old withheld new =
    (next : Extended) × (answers : Answered) × extended_elapses old answers next × Lives events (withheld_later old.held old before) next withheld new
Lives (Heard message ∷ events) before old withheld new =
    (next : Extended) × (answers : Answered) × extended_hears old message answers next × Lives events (withheld_after old before message) next withheld new

-- Whatever comes to a new terminal, it waits exactly while it withholds a status, and that one is the status that is due.
abbrev pub WithheldIsDue : Type 0
WithheldIsDue =
    (tid : ℕ) (verdict : Verdict) (extras : Extras) (events : List Event) (withheld : Option Report) (terminal : Extended)
    → Lives events None (new_extended tid verdict extras) withheld terminal
    → (terminal.waits ≡ is_some withheld) × ((report : Report) → withheld ≡ Some report → status_due terminal.served.terminal terminal.refund ≡ Some report)

-- ---- examples

a_decline : withheld_by (record { extended = false; card = None; receipts = Lines; intermediate = true; delay = 0 }) (Two Ack (Result 0x6C)) ≡ Some (Result 0x6C)
a_decline = refl

-- a completion is sent at once
a_service : withheld_by (record { extended = true; card = None; receipts = Lines; intermediate = true; delay = 0 }) (Two Ack Done) ≡ None
a_service = refl
