-- Both ends by what they mean to each other, apart from how messages are spelled.
use Rattle.std.specs.Prelude.{ℕ, ◌==◌, Bool, true, cond, List, [], ◌++◌, Option, Some, None, map, slice_get, option_to_list}
use Rattle.zvt_apdu.specs.Briefs.{digits}
use Rattle.zvt_apdu.specs.declared.brief.Brief.{Brief}
use Rattle.zvt_apdu.specs.declared.brief.Brief.TheVariants.{Ack as AckBrief, Nack as NackBrief, Register, Pay, Reverse, CloseDay, AbortOrder as AbortBrief}
use Rattle.zvt_till.specs.declared.happenings.Happening.TheVariants.{Connected, Heard as HeardIn, Lost}
use Rattle.zvt_till.specs.declared.messages.Heard.{Heard}
use Rattle.zvt_till.specs.declared.messages.Heard.TheVariants.{Positive, Negative, Status, Passing, Completion, Abort}
use Rattle.zvt_till.specs.declared.messages.StatusFacts.{StatusFacts}
use Rattle.zvt_till.specs.declared.messages.Original.TheVariants.{Absent, Once}
use Rattle.zvt_till.specs.declared.messages.CurrencyFact.{CurrencyFact}
use Rattle.zvt_till.specs.declared.messages.CurrencyFact.TheVariants.{Absent as NoCurrency, Once as OneCurrency}
use Rattle.zvt_till.specs.declared.orders.Order.{Order}
use Rattle.zvt_till.specs.declared.orders.OrderRefusal.{OrderRefusal}
use Rattle.zvt_till.specs.declared.orders.Outgoing.{Outgoing}
use Rattle.zvt_till.specs.Refusals.{refusal}
use Rattle.zvt_till.specs.Sending.{message_of, reply_to}
use Rattle.zvt_till.specs.Till.{TillState, accept, step, facts_of}
use Rattle.zvt_term.specs.declared.messages.Asked.{Asked}
use Rattle.zvt_term.specs.declared.messages.Asked.TheVariants.{Registration, Authorisation, Reversal, EndOfDay, AbortOrder, Answer}
use Rattle.zvt_term.specs.declared.messages.Report.{Report}
use Rattle.zvt_term.specs.declared.messages.Report.TheVariants.{Ack, Nack, Registered, Approved, Result, TakenBack, Line, Done, Aborted}
use Rattle.zvt_term.specs.declared.turns.Verdict.{Verdict}
use Rattle.zvt_term.specs.declared.world.Move.{Move}
use Rattle.zvt_term.specs.declared.world.Move.TheVariants.{Connect, Order as Ordered, ToTerminal, ToTill, TillLost, TerminalLost}
use Rattle.zvt_term.specs.Terminal.{TerminalState, lost_terminal, state_after, reports_to}

-- the currency that the terminal kept, as it is in a status
abbrev pub fact_of : Option ℕ → CurrencyFact
fact_of None = NoCurrency
fact_of (Some currency) = OneCurrency currency

abbrev pub approval_status : ℕ → ℕ → Option ℕ → StatusFacts
approval_status amount number currency =
    record { result = Some 0; has_result = true; amount = Some amount; trace = Some number; receipt = Some (digits 2 number); original = Absent; currency = fact_of currency }

abbrev pub code_status : ℕ → StatusFacts
code_status code = record { result = Some code; has_result = true; amount = None; trace = None; receipt = None; original = Absent; currency = NoCurrency }

abbrev pub reversal_status : ℕ → ℕ → ℕ → Option ℕ → StatusFacts
reversal_status amount number original currency =
    record { result = Some 0; has_result = true; amount = Some amount; trace = Some number; receipt = Some (digits 2 number); original = Once (digits 3 original); currency = fact_of currency }

-- what a report is to the till
abbrev pub heard_of : Report → Heard
heard_of Ack = Positive
heard_of (Nack code) = cond (code == 0) Positive (Negative code)
heard_of (Registered tid currency) = Completion
heard_of (Approved amount number currency) = Status (approval_status amount number currency)
heard_of (Result code) = Status (code_status code)
heard_of (TakenBack amount number original currency) = Status (reversal_status amount number original currency)
heard_of (Line line) = Passing
heard_of Done = Completion
heard_of (Aborted code) = Abort code

-- what a message of the till is to the terminal
abbrev pub asked_of : Brief → Asked
asked_of AckBrief = Answer
asked_of (NackBrief code) = Answer
asked_of (Register password config currency) = Registration (Some currency)
asked_of (Pay amount currency) = Authorisation (Some amount) (OneCurrency currency)
asked_of (Reverse password receipt) = Reversal (Some receipt)
asked_of (CloseDay password) = EndOfDay
asked_of AbortBrief = AbortOrder

abbrev pub asked_out : Option Outgoing → List Asked
asked_out outgoing = map (λ o. asked_of o.brief) (option_to_list outgoing)

pub record Facts : Type 0 where
  pub till : TillState
  pub terminal : TerminalState
  pub from_till : List Asked
  pub from_terminal : List Heard

abbrev pub orders : Facts → Order → Option OrderRefusal → Facts
orders w order None = record w { till = accept w.till order; from_till = w.from_till ++ asked_out (message_of w.till.settings w.till.book order) }
orders w order (Some why) = w

abbrev pub reaches_terminal : Facts → Verdict → Option Asked → Facts
reaches_terminal w v None = w
reaches_terminal w v (Some m) = record w { terminal = state_after w.terminal m v; from_terminal = w.from_terminal ++ map heard_of (reports_to w.terminal m v) }

abbrev pub answer_to : Bool → Heard → List Asked
answer_to up m = cond up (asked_out (reply_to m)) []

abbrev pub reaches_till : Facts → Option Heard → Facts
reaches_till w None = w
reaches_till w (Some m) = record w { till = step w.till (HeardIn m); from_till = w.from_till ++ answer_to w.till.line_up m }

abbrev pub move : Facts → Move → Facts
move w Connect = record w { till = step w.till Connected }
move w (Ordered order) = orders w order (refusal (facts_of w.till) order)
move w (ToTerminal k v) = reaches_terminal w v (slice_get w.from_till k)
move w (ToTill k) = reaches_till w (slice_get w.from_terminal k)
move w TillLost = record w { till = step w.till Lost }
move w TerminalLost = record w { terminal = lost_terminal w.terminal }
