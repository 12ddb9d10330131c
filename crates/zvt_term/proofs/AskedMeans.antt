-- Both ends of a line with asks, by what their messages mean to each other. For the proof that settlements agree with the ledger.
use Rattle.std.proofs.Common.{◌≡◌, List, [], ◌∷◌, ◌++◌, Option, Some, None, map, slice_get, refl}
use Rattle.zvt_apdu.specs.Message.{Message, other}
use Rattle.zvt_till.specs.declared.happenings.Happening.TheVariants.{Connected, Heard as HeardIn, Lost}
use Rattle.zvt_till.specs.declared.messages.Heard.{Heard}
use Rattle.zvt_till.specs.declared.orders.Order.{Order}
use Rattle.zvt_till.specs.declared.orders.OrderRefusal.{OrderRefusal}
use Rattle.zvt_till.specs.declared.orders.OrderRefusal.TheVariants.{Busy}
use Rattle.zvt_till.specs.declared.orders.Outgoing.{Outgoing}
use Rattle.zvt_till.specs.Hearing.{heard_as}
use Rattle.zvt_till.specs.Refusals.{refusal}
use Rattle.zvt_till.specs.Sending.{message_of}
use Rattle.zvt_till.specs.Till.{TillState, accept, step, facts_of}
use Rattle.zvt_term.specs.declared.extras.Extra.{Extra}
use Rattle.zvt_term.specs.declared.extras.Extra.TheVariants.{RepeatReceipt}
use Rattle.zvt_term.specs.declared.ledger.Row.{Row}
use Rattle.zvt_term.specs.declared.messages.Asked.{Asked}
use Rattle.zvt_term.specs.declared.messages.Report.{Report}
use Rattle.zvt_term.specs.declared.turns.Verdict.{Verdict}
use Rattle.zvt_term.specs.declared.world.Move.{Move}
use Rattle.zvt_term.specs.declared.world.Move.TheVariants.{Connect, Order as Ordered, ToTerminal, ToTill, TillLost, TerminalLost}
use Rattle.zvt_term.specs.Asking.{asked_as}
use Rattle.zvt_term.specs.Extended.{extra_turn}
use Rattle.zvt_term.specs.Extras.{extra_of}
use Rattle.zvt_term.specs.Terminal.{TerminalState, lost_terminal, after, state_after, reports_of, reports_to}
use Rattle.zvt_term.proofs.Facts.{heard_of, asked_out, answer_to}
use Rattle.zvt_term.specs.AskedTurns.{after_message, said_to}
use Rattle.zvt_term.specs.AskedWorld.{Act, Does, Asks, Ends, looked}
use Rattle.zvt_settle.specs.Settling.{Settling, sent, asks, ask_refusal, settles}

-- ---- what a message of the till is to the terminal

pub data Word : Type 0 where
  Plain : (m : Asked) → Word
  Beyond : (x : Extra) → Word

abbrev pub word_by : Message → Option Extra → Word
word_by m None = Plain (asked_as m)
word_by m (Some x) = Beyond x

abbrev pub word_of : Message → Word
word_of m = word_by m (extra_of m)

-- the terminal after it
abbrev pub after_on : TerminalState → Word → Verdict → TerminalState
after_on s (Plain m) v = state_after s m v
after_on s (Beyond x) v = after s (extra_turn s None x)

-- its replies
abbrev pub said_on : TerminalState → Word → Verdict → List Report
said_on s (Plain m) v = reports_to s m v
said_on s (Beyond x) v = reports_of (extra_turn s None x).reply

after-by : (s : TerminalState) (m : Message) (v : Verdict) (x : Option Extra)
    → elim x [ None ↦ state_after s (asked_as m) v | Some e ↦ after s (extra_turn s None e) ] ≡ after_on s (word_by m x) v
after-by s m v None = refl
after-by s m v (Some e) = refl

pub after-word : (s : TerminalState) (m : Message) (v : Verdict) → after_message s m v ≡ after_on s (word_of m) v
after-word s m v = after-by s m v (extra_of m)

said-by : (s : TerminalState) (m : Message) (v : Verdict) (x : Option Extra)
    → elim x [ None ↦ reports_to s (asked_as m) v | Some e ↦ reports_of (extra_turn s None e).reply ] ≡ said_on s (word_by m x) v
said-by s m v None = refl
said-by s m v (Some e) = refl

pub said-word : (s : TerminalState) (m : Message) (v : Verdict) → said_to s m v ≡ said_on s (word_of m) v
said-word s m v = said-by s m v (extra_of m)

-- ---- both ends

pub record Meant : Type 0 where
  pub till : TillState
  pub settling : Settling
  pub terminal : TerminalState
  pub from_till : List Word
  pub from_terminal : List Heard
  pub before : List Row

abbrev pub meaning : Ends → Meant
meaning w =
    record { till = w.till; settling = w.settling; terminal = w.terminal; from_till = map word_of w.from_till; from_terminal = map heard_as w.from_terminal; before = w.ledger_before }

abbrev pub words_out : Option Outgoing → List Word
words_out out = map Plain (asked_out out)

abbrev pub orders_meant : Meant → Order → Option OrderRefusal → Meant
orders_meant w o None =
    record w {
      till = accept w.till o;
      settling = sent w.settling o;
      from_till = w.from_till ++ words_out (message_of w.till.settings w.till.book o);
      before = looked w.before w.terminal.ledger o;
    }
orders_meant w o (Some why) = w

abbrev pub refuses_meant : Meant → Order → Option OrderRefusal
refuses_meant w o = elim w.settling.asking [ None ↦ refusal (facts_of w.till) o | Some positive ↦ Some Busy ]

abbrev pub asks_meant : Meant → Option OrderRefusal → Meant
asks_meant w None = record w { settling = asks w.settling; from_till = w.from_till ++ Beyond RepeatReceipt ∷ [] }
asks_meant w (Some why) = w

abbrev pub terminal_meant : Meant → Verdict → Option Word → Meant
terminal_meant w v None = w
terminal_meant w v (Some m) =
    record w { terminal = after_on w.terminal m v; from_terminal = w.from_terminal ++ map heard_of (said_on w.terminal m v) }

abbrev pub till_meant : Meant → Option Heard → Meant
till_meant w None = w
till_meant w (Some m) =
    record w {
      till = step w.till (HeardIn m);
      settling = settles w.till w.settling (HeardIn m);
      from_till = w.from_till ++ map Plain (answer_to w.till.line_up m);
    }

abbrev pub move_meant : Meant → Move → Meant
move_meant w Connect = record w { till = step w.till Connected }
move_meant w (Ordered o) = orders_meant w o (refuses_meant w o)
move_meant w (ToTerminal k v) = terminal_meant w v (slice_get w.from_till k)
move_meant w (ToTill k) = till_meant w (slice_get w.from_terminal k)
move_meant w TillLost = record w { till = step w.till Lost; settling = settles w.till w.settling Lost }
move_meant w TerminalLost = record w { terminal = lost_terminal w.terminal }

abbrev pub act_meant : Meant → Act → Meant
act_meant w (Does m) = move_meant w m
act_meant w Asks = asks_meant w (ask_refusal (facts_of w.till) w.settling.asking)
