-- Both ends of a line, which take turns.
use Rattle.std.specs.Prelude.{◌≡◌, ◌⊎◌, ℕ, zero, suc, ◌<◌, Bool, true, false, cond, Option, Some, None, Result, Ok, Err}
use Rattle.zvt_apdu.specs.Message.{Message}
use Rattle.zvt_stream.specs.EndState.{EndState}
use Rattle.zvt_stream.specs.Answered.{Answered}
use Rattle.zvt_stream.specs.StreamState.{at_start}
use Rattle.zvt_stream.specs.declared.line.LineFault.{LineFault}
use Rattle.zvt_stream.specs.declared.line.LineFault.TheVariants.{Turns}
use Rattle.zvt_till.specs.Line.{IsOver, till_rests}
use Rattle.zvt_settle.specs.declared.settling.SettlingTill.{SettlingTill}
use Rattle.zvt_settle.specs.Inside.{till_inside}
use Rattle.zvt_settle.specs.Keeping.{never_fails, settling_orders}
use Rattle.zvt_settle.specs.OnLine.{settling_hears, settling_loses, settling_malforms, settling_rests}
use Rattle.zvt_till.specs.View.{TillValue}
use Rattle.zvt_till.specs.declared.keeper.BookFault.TheVariants.{Failed}
use Rattle.zvt_till.specs.declared.keeper.Untaken.{Untaken}
use Rattle.zvt_till.specs.declared.line.RunFault.{RunFault}
use Rattle.zvt_till.specs.declared.line.RunFault.TheVariants.{Line as LineBroke, Book as BookBroke}
use Rattle.zvt_till.specs.declared.orders.Order.{Order}
use Rattle.zvt_till.specs.declared.orders.Outgoing.{Outgoing}
use Rattle.zvt_till.specs.declared.outcomes.Outcome.{Outcome}
use Rattle.zvt_term.specs.Served.{served_hears, served_loses}
use Rattle.zvt_term.specs.Terminal.{new_terminal}
use Rattle.zvt_term.specs.declared.served.Served.{Served}
use Rattle.zvt_term.specs.declared.turns.Verdict.{Verdict}
use Rattle.zvt_runs.specs.declared.both_ends.BothEnds.{BothEnds}
use Rattle.zvt_runs.specs.declared.arguments.Step.{Step}
use Rattle.zvt_runs.specs.declared.asking.Asked.TheVariants.{Nothing}
use Rattle.zvt_runs.specs.declared.asking.Ended.{Ended}
use Rattle.zvt_runs.specs.declared.asking.Ended.TheVariants.{Order as EndedOrder, Ask}
use Rattle.zvt_runs.specs.LineEnd.{NotOrdered, Ordered, Turn, TurnBreaks}
use Rattle.zvt_runs.specs.Runs.{Standing, standing}
use Rattle.zvt_runs.specs.Steps.{order_of, verdict_of}

-- both ends without the till
pub record Line : Type 0 where
  pub till_end : EndState
  pub terminal_end : EndState
  pub served : Served

-- a line as contracts see it, given how they see its ends
abbrev pub line_of : {A B : Type 0} → (A → EndState) → (B → EndState) → BothEnds A B → Line
line_of till_end terminal_end line = record { till_end = till_end line.till; terminal_end = terminal_end line.terminal; served = line.served }

-- a line and its till
abbrev pub here : {A B K : Type 0} → (A → EndState) → (B → EndState) → BothEnds A B → K → Standing Line K
here till_end terminal_end line till = standing (line_of till_end terminal_end line) till

-- a terminal never rests while it serves a line
abbrev pub never : Served → Bool
never served = false

-- the outcome of the last order, unless an order is running
abbrev pub ended_of : TillValue → Option Outcome
ended_of till = cond (till_rests till) till.state.last_outcome None

-- the terminal is told its decision, and nothing else happens
pub record Decided (verdict : Verdict) (old new : Line) : Type 0 where
  pub terminal_end : new.terminal_end ≡ old.terminal_end
  pub served : new.served ≡ record { terminal = old.served.terminal; verdict = verdict }

abbrev pub TerminalTurn : Line → Line → Type 0
TerminalTurn old new = Turn served_hears never old.terminal_end old.served new.terminal_end new.served

module _ {K : Type 0} (orders : K → Order → Result Outgoing Untaken → K → Type 0) (hears : K → Message → Answered → K → Type 0) (is_resting failed : K → Bool) (till : K → TillValue) (loses malforms : K → K → Type 0) where
  -- ---- turns

  abbrev pub TillTurn : (old new : Standing Line K) → Type 0
  TillTurn old new = Turn hears is_resting old.line.till_end old.till new.line.till_end new.till

  -- a turn of the terminal, then a turn of the till
  pub record Alternates (old new : Standing Line K) : Type 0 where
    pub terminal : TerminalTurn old.line new.line
    pub till_turn : TillTurn old new

  -- The terminal's turn broke, and the till lost its line; or the till's turn after it broke.
  abbrev pub BreaksOff : LineFault → (old new : Standing Line K) → Type 0
  BreaksOff fault old new =
      (TurnBreaks served_hears never served_loses served_loses fault old.line.terminal_end old.line.served new.line.terminal_end new.line.served
      × (new.line.till_end ≡ old.line.till_end) × loses old.till new.till)
      ⊎ (TerminalTurn old.line new.line × TurnBreaks hears is_resting loses malforms fault old.line.till_end old.till new.line.till_end new.till)

  -- this many alternations, and after none of them had the book failed or was the till at rest
  abbrev pub Alternations : ℕ → (old new : Standing Line K) → Type 0
  Alternations zero old new = old ≡ new
  Alternations (suc n) old new = (middle : Standing Line K) × Alternations n old middle × Alternates middle new × (failed new.till ≡ false) × (till_rests (till new.till) ≡ false)

  -- ---- a step

  -- the order was accepted and written
  pub record Begins (order : Order) (verdict : Verdict) (old new : Standing Line K) : Type 0 where
    pub decided : Decided verdict old.line new.line
    pub ordered : Ordered orders order old.line.till_end old.till new.line.till_end new.till

  -- the order was not accepted, or could not be written
  pub record BeginsNot (order : Order) (verdict : Verdict) (fault : RunFault) (old new : Standing Line K) : Type 0 where
    pub decided : Decided verdict old.line new.line
    pub not_ordered : NotOrdered orders loses fault order old.line.till_end old.till new.line.till_end new.till

  -- the order was sent, and this many alternations followed
  pub record Underway (order : Order) (verdict : Verdict) (count : ℕ) (old now : Standing Line K) : Type 0 where
    pub sent : Standing Line K
    pub begins : Begins order verdict old sent
    pub alternations : Alternations count sent now

  -- the order was sent, and some alternations and a last one followed
  pub record AtLast (order : Order) (verdict : Verdict) (old new : Standing Line K) : Type 0 where
    pub count : ℕ
    pub middle : Standing Line K
    pub fewer : count < 1000
    pub underway : Underway order verdict count old middle
    pub last : Alternates middle new

  -- After an alternation the till is at rest for the first time, and this is the outcome of the order.
  pub record Comes (order : Order) (verdict : Verdict) (outcome : Outcome) (old new : Standing Line K) : Type 0 where
    pub at_last : AtLast order verdict old new
    pub whole : failed new.till ≡ false
    pub rests : till_rests (till new.till) ≡ true
    pub came : (till new.till).state.last_outcome ≡ Some outcome

  -- the book failed during an alternation
  pub record BookFails (order : Order) (verdict : Verdict) (fault : RunFault) (old new : Standing Line K) : Type 0 where
    pub at_last : AtLast order verdict old new
    pub has_failed : failed new.till ≡ true
    pub is : fault ≡ BookBroke Failed

  -- the line broke during an alternation
  pub record Breaks (order : Order) (verdict : Verdict) (fault : RunFault) (old new : Standing Line K) : Type 0 where
    pub count : ℕ
    pub middle : Standing Line K
    pub broken : LineFault
    pub fewer : count < 1000
    pub underway : Underway order verdict count old middle
    pub last : BreaksOff broken middle new
    pub is : fault ≡ LineBroke broken

  -- all alternations were made, and then the till lost its line
  pub record GivenUp (order : Order) (verdict : Verdict) (fault : RunFault) (old new : Standing Line K) : Type 0 where
    pub middle : Standing Line K
    pub underway : Underway order verdict 1000 old middle
    pub same_line : new.line ≡ middle.line
    pub loses_line : loses middle.till new.till
    pub is : fault ≡ LineBroke Turns

  -- Once the line broke or the book failed, the outcome of the order is known.
  pub record Fails (order : Order) (verdict : Verdict) (fault : RunFault) (old new : Standing Line K) : Type 0 where
    pub fails : BeginsNot order verdict fault old new ⊎ Breaks order verdict fault old new ⊎ BookFails order verdict fault old new ⊎ GivenUp order verdict fault old new
    pub over : IsOver fault (till new.till).state

  -- The result of an order on a line with both ends in this process.
  abbrev pub RunsHere : Line → K → Order → Verdict → Result Outcome RunFault → Line → K → Type 0
  RunsHere before old order verdict (Ok outcome) after new = Comes order verdict outcome (standing before old) (standing after new)
  RunsHere before old order verdict (Err fault) after new = Fails order verdict fault (standing before old) (standing after new)

  abbrev pub EndsHere : Line → K → Order → Verdict → Result Ended RunFault → Line → K → Type 0
  EndsHere before old order verdict (Ok (EndedOrder outcome)) after new = RunsHere before old order verdict (Ok outcome) after new
  EndsHere before old order verdict (Ok (Ask asked)) after new = ⊥
  EndsHere before old order verdict (Err fault) after new = RunsHere before old order verdict (Err fault) after new

  -- A terminal in this process is not asked.
  abbrev pub StepHere : Step → Option Order → Line → K → Result Ended RunFault → Line → K → Type 0
  StepHere step (Some order) before old result after new = EndsHere before old order (verdict_of step) result after new
  StepHere step None before old result after new = (result ≡ Ok (Ask Nothing)) × (after ≡ before) × (new ≡ old)

  -- the result of a step
  abbrev pub MakesHere : Line → K → Step → Result Ended RunFault → Line → K → Type 0
  MakesHere before old step result after new = StepHere step (order_of step) before old result after new

-- the same for a till without a book
abbrev pub MakesHereAlone : Line → SettlingTill → Step → Result Ended RunFault → Line → SettlingTill → Type 0
MakesHereAlone before old step result after new = MakesHere settling_orders settling_hears settling_rests never_fails till_inside settling_loses settling_malforms before old step result after new

-- both ends at their start, with a new terminal
pub record BeginsHere (line : Line) : Type 0 where
  pub till : line.till_end.stream ≡ at_start
  pub terminal : line.terminal_end.stream ≡ at_start
  pub served : line.served.terminal ≡ new_terminal 12345678
