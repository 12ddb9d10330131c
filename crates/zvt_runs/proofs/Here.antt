-- A step on a line with both ends in this process, by what its order came to.
use Rattle.std.proofs.Common.{◌≡◌, sym, ◌∙◌, refl, subst}
use Rattle.std.specs.Prelude.{Bool, Option, Some, None, Result, Ok, Err}
use Rattle.zvt_apdu.specs.Message.{Message}
use Rattle.zvt_stream.specs.Answered.{Answered}
use Rattle.zvt_till.specs.View.{TillValue}
use Rattle.zvt_till.specs.declared.keeper.Untaken.{Untaken}
use Rattle.zvt_till.specs.declared.line.RunFault.{RunFault}
use Rattle.zvt_till.specs.declared.orders.Order.{Order}
use Rattle.zvt_till.specs.declared.orders.Outgoing.{Outgoing}
use Rattle.zvt_till.specs.declared.outcomes.Outcome.{Outcome}
use Rattle.zvt_term.specs.declared.turns.Verdict.{Verdict}
use Rattle.zvt_runs.specs.BothEnds.{EndsHere, Line, MakesHere, RunsHere, StepHere}
use Rattle.zvt_runs.specs.Steps.{order_of, verdict_of}
use Rattle.zvt_runs.specs.declared.arguments.Step.{Step}
use Rattle.zvt_runs.specs.declared.asking.Asked.TheVariants.{Nothing}
use Rattle.zvt_runs.specs.declared.asking.Ended.{Ended}
use Rattle.zvt_runs.specs.declared.asking.Ended.TheVariants.{Ask}
use Rattle.zvt_runs.proofs.There.{end_of}

module _ {K : Type 0} (orders : K → Order → Result Outgoing Untaken → K → Type 0) (hears : K → Message → Answered → K → Type 0) (is_resting failed : K → Bool) (till : K → TillValue) (loses malforms : K → K → Type 0) where
  ends_here : (order : Order) (verdict : Verdict) (before : Line) (old : K) (after : Line) (new : K) (result : Result Outcome RunFault) → RunsHere orders hears is_resting failed till loses malforms before old order verdict result after new
      → EndsHere orders hears is_resting failed till loses malforms before old order verdict (end_of result) after new
  ends_here order verdict before old after new (Ok outcome) ran = ran
  ends_here order verdict before old after new (Err fault) ran = ran

  -- a step whose order came to this
  pub made_here : (step : Step) (order : Order) (given : Option Order) (verdict : Verdict) (before : Line) (old : K) (after : Line) (new : K) (result : Result Outcome RunFault) (ended : Result Ended RunFault)
      → given ≡ order_of step → given ≡ Some order → verdict ≡ verdict_of step → ended ≡ end_of result → RunsHere orders hears is_resting failed till loses malforms before old order verdict result after new
      → MakesHere orders hears is_resting failed till loses malforms before old step ended after new
  made_here step order given verdict before old after new result ended is some decides ends ran =
      subst (λ (o : Option Order). StepHere orders hears is_resting failed till loses malforms step o before old ended after new) (sym some ∙ is)
      (subst (λ (r : Result Ended RunFault). EndsHere orders hears is_resting failed till loses malforms before old order (verdict_of step) r after new) (sym ends)
      (ends_here order (verdict_of step) before old after new result (subst (λ (v : Verdict). RunsHere orders hears is_resting failed till loses malforms before old order v result after new) decides ran)))

  -- a step that gives no order
  pub unasked_here : (step : Step) (given : Option Order) (line : Line) (keeper : K) → given ≡ order_of step → given ≡ None
      → MakesHere orders hears is_resting failed till loses malforms line keeper step (Ok (Ask Nothing)) line keeper
  unasked_here step given line keeper is none =
      subst (λ (o : Option Order). StepHere orders hears is_resting failed till loses malforms step o line keeper (Ok (Ask Nothing)) line keeper) (sym none ∙ is) (refl, refl, refl)
