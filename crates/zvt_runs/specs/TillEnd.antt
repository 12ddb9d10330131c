-- The result of a step at a till's end of a line to a terminal elsewhere.
use Rattle.std.specs.Prelude.{◌≡◌, ◌⊎◌, ◌+◌, ◌≤◌, ℕ, Bool, true, false, List, Option, Some, None, Result, Ok, Err}
use Rattle.zvt_apdu.specs.Message.{Message}
use Rattle.zvt_stream.specs.LineReading.{LineReading}
use Rattle.zvt_stream.specs.EndState.{EndState, NoneFails}
use Rattle.zvt_stream.specs.Answered.{Answered}
use Rattle.zvt_stream.specs.StreamState.{start_by}
use Rattle.zvt_till.specs.Line.{Fails, IsOver, Runs, reads_failed, writes_failed}
use Rattle.zvt_till.specs.View.{TillValue}
use Rattle.zvt_till.specs.declared.keeper.Untaken.{Untaken}
use Rattle.zvt_till.specs.declared.line.RunFault.{RunFault}
use Rattle.zvt_till.specs.declared.orders.Order.{Order}
use Rattle.zvt_till.specs.declared.orders.Outgoing.{Outgoing}
use Rattle.zvt_till.specs.declared.outcomes.Outcome.{Outcome}
use Rattle.zvt_settle.specs.declared.settling.SettlingTill.{SettlingTill}
use Rattle.zvt_settle.specs.AskRuns.{AskRuns, IsSilentAfter, Rests}
use Rattle.zvt_settle.specs.Askers.{both_as, settling_asks}
use Rattle.zvt_settle.specs.Inside.{settling_of, till_inside}
use Rattle.zvt_settle.specs.Keeping.{never_fails, settling_orders}
use Rattle.zvt_settle.specs.OnLine.{settling_hears, settling_loses, settling_malforms, settling_rests}
use Rattle.zvt_settle.specs.Settling.{Both, Settling}
use Rattle.zvt_runs.specs.Asking.{asked_by, ended_by}
use Rattle.zvt_runs.specs.Steps.{order_of, wants_answer}
use Rattle.zvt_runs.specs.declared.arguments.Step.{Step}
use Rattle.zvt_runs.specs.declared.asking.Asked.TheVariants.{Nothing}
use Rattle.zvt_runs.specs.declared.asking.Ended.{Ended}
use Rattle.zvt_runs.specs.declared.asking.Ended.TheVariants.{Order as EndedOrder, Ask}

-- the number of reads or writes that failed, by the fault that an ask met, if it met one
abbrev pub failed_in : (RunFault → ℕ) → Result Unit RunFault → ℕ
failed_in count (Ok done) = 0
failed_in count (Err fault) = count fault

-- After an ask nothing runs. Once the line broke or the book failed, it is down.
abbrev pub IsStillAfter : Result Unit RunFault → Both → Type 0
IsStillAfter (Ok done) b = Rests b
IsStillAfter (Err fault) b = IsSilentAfter fault b

module _ {K : Type 0} (hears : K → Message → Answered → K → Type 0) (is_resting failed : K → Bool) (till : K → TillValue) (loses malforms : K → K → Type 0) (asks : K → Result (List ℕ) Untaken → K → Type 0) (settling : K → Settling) where
  -- The ask ran to its end, or ended early for a fault. The reads and writes failed that the fault represents.
  pub record AsksThere (ran : Result Unit RunFault) (before : EndState) (old : K) (after : EndState) (new : K) : Type 0 where
    pub runs : AskRuns asks hears is_resting 100000 loses malforms failed ran before after old new
    pub failed_reads : after.failed_reads ≡ before.failed_reads + failed_in reads_failed ran
    pub failed_writes : after.failed_writes ≡ before.failed_writes + failed_in writes_failed ran
    pub reads : after.reads ≤ before.reads + 100000
    pub still : IsStillAfter ran (both_as (till new) (settling new))

  -- The result of a step that asks: it was of no use, and nothing was sent or read; or it came to what it settled.
  abbrev pub AskedThere : Step → EndState → K → Result Ended RunFault → EndState → K → Type 0
  AskedThere step before old result after new =
      ((wants_answer step (both_as (till old) (settling old)) ≡ false) × (result ≡ Ok (Ask Nothing)) × (after ≡ before) × (new ≡ old))
      ⊎ ((wants_answer step (both_as (till old) (settling old)) ≡ true) × (ran : Result Unit RunFault) × AsksThere ran before old after new
      × (result ≡ ended_by ran (asked_by (settling old) (settling new))))

module _ {K : Type 0} (orders : K → Order → Result Outgoing Untaken → K → Type 0) (hears : K → Message → Answered → K → Type 0) (is_resting failed : K → Bool) (till : K → TillValue) (loses malforms : K → K → Type 0) where
  -- the order ran to its end, and no read or write failed
  pub record RunsThere (order : Order) (outcome : Outcome) (before : EndState) (old : K) (after : EndState) (new : K) : Type 0 where
    pub runs : Runs orders hears is_resting failed till order outcome before.stream after.stream old new before.coming after.coming before.written after.written 100000 before.reads after.reads
    pub none_fails : NoneFails before after
    pub reads : after.reads ≤ before.reads + 100000

  -- The order was not sent, or the line broke, or the book failed. The one read or write that the fault represents
  -- failed, and no other. Once the line broke or the book failed, the outcome of the order is known.
  pub record FailsThere (order : Order) (fault : RunFault) (before : EndState) (old : K) (after : EndState) (new : K) : Type 0 where
    pub fails : Fails orders hears is_resting failed loses malforms fault order before.stream after.stream old new before.coming after.coming before.written after.written 100000 before.reads after.reads
    pub failed_reads : after.failed_reads ≡ before.failed_reads + reads_failed fault
    pub failed_writes : after.failed_writes ≡ before.failed_writes + writes_failed fault
    pub reads : after.reads ≤ before.reads + 100000
    pub over : IsOver fault (till new).state

  -- The result of an order. The terminal elsewhere makes its own decision on it.
  abbrev pub OrderedThere : Order → EndState → K → Result Ended RunFault → EndState → K → Type 0
  OrderedThere order before old (Ok (EndedOrder outcome)) after new = RunsThere order outcome before old after new
  OrderedThere order before old (Ok (Ask asked)) after new = ⊥
  OrderedThere order before old (Err fault) after new = FailsThere order fault before old after new

  module _ (asks : K → Result (List ℕ) Untaken → K → Type 0) (settling : K → Settling) where
    abbrev pub StepThere : Step → Option Order → EndState → K → Result Ended RunFault → EndState → K → Type 0
    StepThere step (Some order) before old result after new = OrderedThere order before old result after new
    StepThere step None before old result after new = AskedThere hears is_resting failed till loses malforms asks settling step before old result after new

    -- the result of a step
    abbrev pub MakesThere : EndState → K → Step → Result Ended RunFault → EndState → K → Type 0
    MakesThere before old step result after new = StepThere step (order_of step) before old result after new

-- the same for a till without a book
abbrev pub MakesThereAlone : EndState → SettlingTill → Step → Result Ended RunFault → EndState → SettlingTill → Type 0
MakesThereAlone before old step result after new =
    MakesThere settling_orders settling_hears settling_rests never_fails till_inside settling_loses settling_malforms settling_asks settling_of before old step result after new

-- a fresh line, which is read in this way
abbrev pub BeginsThere : LineReading → EndState → Type 0
BeginsThere r end = end.stream ≡ start_by r
