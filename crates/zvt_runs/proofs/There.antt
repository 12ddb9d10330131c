-- A step at a till's end of a line, by what its order or its ask came to.
use Rattle.std.proofs.Common.{◌≡◌, sym, ◌∙◌, subst, arith}
use Rattle.std.specs.Prelude.{◌+◌, ◌≤◌, ℕ, Bool, false, true, IfErr, IfOk, List, MatchResult, OnOk, Option, Some, None, Result, Ok, Err}
use Rattle.zvt_apdu.specs.Message.{Message}
use Rattle.zvt_stream.specs.EndState.{EndState}
use Rattle.zvt_stream.specs.Answered.{Answered}
use Rattle.zvt_till.specs.Line.{Fails, IsOver, Runs, reads_failed, writes_failed}
use Rattle.zvt_till.specs.View.{TillValue}
use Rattle.zvt_till.specs.declared.keeper.Untaken.{Untaken}
use Rattle.zvt_till.specs.declared.line.RunFault.{RunFault}
use Rattle.zvt_till.specs.declared.orders.Order.{Order}
use Rattle.zvt_till.specs.declared.orders.Outgoing.{Outgoing}
use Rattle.zvt_till.specs.declared.outcomes.Outcome.{Outcome}
use Rattle.zvt_settle.specs.AskRuns.{AskRuns, IsSilentAfter, Rests}
use Rattle.zvt_settle.specs.Askers.{both_as}
use Rattle.zvt_settle.specs.Settling.{Settling}
use Rattle.zvt_runs.specs.Steps.{order_of}
use Rattle.zvt_runs.specs.TillEnd.{AskedThere, AsksThere, MakesThere, OrderedThere, StepThere}
use Rattle.zvt_runs.specs.declared.arguments.Step.{Step}
use Rattle.zvt_runs.specs.declared.asking.Ended.{Ended}
use Rattle.zvt_runs.specs.declared.asking.Ended.TheVariants.{Order as EndedOrder}

-- the end of a step whose order came to this
abbrev pub end_of : Result Outcome RunFault → Result Ended RunFault
end_of (Ok outcome) = Ok (EndedOrder outcome)
end_of (Err fault) = Err fault

module _ {K : Type 0} (orders : K → Order → Result Outgoing Untaken → K → Type 0) (hears : K → Message → Answered → K → Type 0) (is_resting failed : K → Bool) (till : K → TillValue) (loses malforms : K → K → Type 0)
    (asks : K → Result (List ℕ) Untaken → K → Type 0) (settling : K → Settling) where
  ordered_there : (order : Order) (before : EndState) (old : K) (after : EndState) (new : K) (result : Result Outcome RunFault)
      → IfOk result (λ outcome. Runs orders hears is_resting failed till order outcome before.stream after.stream old new before.coming after.coming before.written after.written 100000 before.reads after.reads)
      → IfErr result (λ fault. Fails orders hears is_resting failed loses malforms fault order before.stream after.stream old new before.coming after.coming before.written after.written 100000 before.reads after.reads)
      → IfErr result (λ fault. IsOver fault (till new).state) → after.reads ≤ before.reads + 100000
      → MatchResult result (λ _. after.failed_reads ≡ before.failed_reads) (λ fault. after.failed_reads ≡ before.failed_reads + reads_failed fault)
      → MatchResult result (λ _. after.failed_writes ≡ before.failed_writes) (λ fault. after.failed_writes ≡ before.failed_writes + writes_failed fault)
      → OrderedThere orders hears is_resting failed till loses malforms order before old (end_of result) after new
  ordered_there order before old after new (Ok outcome) ok err over reads read_failures write_failures = record { runs = ok; none_fails = record { reads = read_failures; writes = write_failures }; reads = reads }
  ordered_there order before old after new (Err fault) ok err over reads read_failures write_failures = record { fails = err; failed_reads = read_failures; failed_writes = write_failures; reads = reads; over = over }

  -- a step whose order came to this
  pub made_there : (step : Step) (order : Order) (given : Option Order) (before : EndState) (old : K) (after : EndState) (new : K) (result : Result Outcome RunFault) (ended : Result Ended RunFault)
      → given ≡ order_of step → given ≡ Some order → ended ≡ end_of result
      → IfOk result (λ outcome. Runs orders hears is_resting failed till order outcome before.stream after.stream old new before.coming after.coming before.written after.written 100000 before.reads after.reads)
      → IfErr result (λ fault. Fails orders hears is_resting failed loses malforms fault order before.stream after.stream old new before.coming after.coming before.written after.written 100000 before.reads after.reads)
      → IfErr result (λ fault. IsOver fault (till new).state) → after.reads ≤ before.reads + 100000
      → MatchResult result (λ _. after.failed_reads ≡ before.failed_reads) (λ fault. after.failed_reads ≡ before.failed_reads + reads_failed fault)
      → MatchResult result (λ _. after.failed_writes ≡ before.failed_writes) (λ fault. after.failed_writes ≡ before.failed_writes + writes_failed fault)
      → MakesThere orders hears is_resting failed till loses malforms asks settling before old step ended after new
  made_there step order given before old after new result ended is some ends ok err over reads read_failures write_failures =
      subst (λ (o : Option Order). StepThere orders hears is_resting failed till loses malforms asks settling step o before old ended after new) (sym some ∙ is)
      (subst (λ (r : Result Ended RunFault). OrderedThere orders hears is_resting failed till loses malforms order before old r after new) (sym ends)
      (ordered_there order before old after new result ok err over reads read_failures write_failures))

  -- a step that gives no order
  pub asked_step : (step : Step) (given : Option Order) (before : EndState) (old : K) (after : EndState) (new : K) (ended : Result Ended RunFault) → given ≡ order_of step → given ≡ None
      → AskedThere hears is_resting failed till loses malforms asks settling step before old ended after new
      → MakesThere orders hears is_resting failed till loses malforms asks settling before old step ended after new
  asked_step step given before old after new ended is none asked =
      subst (λ (o : Option Order). StepThere orders hears is_resting failed till loses malforms asks settling step o before old ended after new) (sym none ∙ is) asked

  -- what an ask came to
  pub asks_there : (ran : Result Unit RunFault) (before : EndState) (old : K) (after : EndState) (new : K) → AskRuns asks hears is_resting 100000 loses malforms failed ran before after old new
      → OnOk ran (Rests (both_as (till new) (settling new))) → IfErr ran (λ fault. IsSilentAfter fault (both_as (till new) (settling new))) → after.reads ≤ before.reads + 100000
      → MatchResult ran (λ _. after.failed_reads ≡ before.failed_reads) (λ fault. after.failed_reads ≡ before.failed_reads + reads_failed fault)
      → MatchResult ran (λ _. after.failed_writes ≡ before.failed_writes) (λ fault. after.failed_writes ≡ before.failed_writes + writes_failed fault)
      → AsksThere hears is_resting failed till loses malforms asks settling ran before old after new
  asks_there (Ok done) before old after new runs rests over reads read_failures write_failures = record { runs = runs; failed_reads = omega (arith, read_failures); failed_writes = omega (arith, write_failures); reads = reads; still = rests }
  asks_there (Err fault) before old after new runs rests over reads read_failures write_failures = record { runs = runs; failed_reads = read_failures; failed_writes = write_failures; reads = reads; still = over }
