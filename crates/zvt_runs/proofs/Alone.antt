-- A till alone has no book, so none of its runs ends for one.
use Rattle.std.proofs.Common.{◌≡◌, ◌∙◌, ⊎_elim, ap, sym, inl, inr, Option, Some, None, Result, Ok, Err}
use Rattle.zvt_stream.specs.EndState.{EndState}
use Rattle.zvt_till.specs.declared.line.RunFault.{RunFault}
use Rattle.zvt_till.specs.declared.line.RunFault.TheVariants.{Order as Unsent, Line as LineFault, Book as BookBroke}
use Rattle.zvt_till.specs.declared.orders.Order.{Order}
use Rattle.zvt_settle.specs.declared.settling.SettlingTill.{SettlingTill}
use Rattle.zvt_settle.specs.AskRuns.{AskRuns}
use Rattle.zvt_settle.specs.Askers.{settling_asks}
use Rattle.zvt_settle.specs.Inside.{settling_of, till_inside}
use Rattle.zvt_settle.specs.Keeping.{never_fails, settling_orders}
use Rattle.zvt_settle.specs.OnLine.{settling_hears, settling_loses, settling_malforms, settling_rests}
use Rattle.zvt_runs.specs.declared.arguments.Step.{Step}
use Rattle.zvt_runs.specs.declared.asking.Asked.{Asked}
use Rattle.zvt_runs.specs.declared.asking.Ended.{Ended}
use Rattle.zvt_runs.specs.declared.asking.Ended.TheVariants.{Order as EndedOrder, Ask}
use Rattle.zvt_runs.specs.declared.fault.EndFault.TheVariants.{Book}
use Rattle.zvt_runs.specs.Asking.{asked_by, ended_by}
use Rattle.zvt_runs.specs.BothEnds.{EndsHere, Line, MakesHereAlone, StepHere}
use Rattle.zvt_runs.specs.Made.{stop_of}
use Rattle.zvt_runs.specs.Runs.{StepLaw}
use Rattle.zvt_runs.specs.Steps.{order_of, verdict_of}
use Rattle.zvt_runs.specs.TillEnd.{MakesThereAlone, OrderedThere, StepThere}

-- no step ends a run for its book
abbrev pub HasNoBook : {L : Type 0} → StepLaw L SettlingTill → Type 0
HasNoBook {L} makes = (line : L) (till : SettlingTill) (step : Step) (result : Result Ended RunFault) (left : L) (new : SettlingTill) → makes line till step result left new → stop_of result ≡ Some Book → ⊥

-- ---- a terminal elsewhere

ordered_there : (order : Order) (before after : EndState) (old new : SettlingTill) (result : Result Ended RunFault)
    → OrderedThere settling_orders settling_hears settling_rests never_fails till_inside settling_loses settling_malforms order before old result after new → stop_of result ≡ Some Book → ⊥
ordered_there order before after old new (Ok (EndedOrder outcome)) made is = cc
ordered_there order before after old new (Ok (Ask asked)) made is = made
ordered_there order before after old new (Err (Unsent why)) made is = cc
ordered_there order before after old new (Err (LineFault fault)) made is = cc
ordered_there order before after old new (Err (BookBroke why)) made is = ⊎_elim
    (λ unsent. absurd unsent.0.0)
    (λ more. ⊎_elim (λ broke. cc broke.1) (λ failed. cc failed.1) more)
    made.fails

asked_there : (ran : Result Unit RunFault) (asked : Asked) (before after : EndState) (old new : SettlingTill)
    → AskRuns settling_asks settling_hears settling_rests 100000 settling_loses settling_malforms never_fails ran before after old new → stop_of (ended_by ran asked) ≡ Some Book → ⊥
asked_there (Ok done) asked before after old new runs is = cc
asked_there (Err (Unsent why)) asked before after old new runs is = cc
asked_there (Err (LineFault fault)) asked before after old new runs is = cc
asked_there (Err (BookBroke why)) asked before after old new runs is = ⊎_elim
    (λ unsent. absurd unsent.0.0)
    (λ more. ⊎_elim (λ broke. cc broke.1) (λ failed. cc failed.1) more)
    runs

step_there : (step : Step) (order : Option Order) (before after : EndState) (old new : SettlingTill) (result : Result Ended RunFault)
    → StepThere settling_orders settling_hears settling_rests never_fails till_inside settling_loses settling_malforms settling_asks settling_of step order before old result after new → stop_of result ≡ Some Book → ⊥
step_there step (Some order) before after old new result made is = ordered_there order before after old new result made is
step_there step None before after old new result (inl unasked) is = cc unasked.1
step_there step None before after old new result (inr made) is =
    asked_there made.1 (asked_by (settling_of old) (settling_of new)) before after old new made.2.runs (ap stop_of (sym made.3) ∙ is)

pub no_book_there : HasNoBook MakesThereAlone
no_book_there before old step result after new made is = step_there step (order_of step) before after old new result made is

-- ---- a terminal in this process

ended_here : (step : Step) (order : Order) (before after : Line) (old new : SettlingTill) (result : Result Ended RunFault)
    → EndsHere settling_orders settling_hears settling_rests never_fails till_inside settling_loses settling_malforms before old order (verdict_of step) result after new → stop_of result ≡ Some Book → ⊥
ended_here step order before after old new (Ok (EndedOrder outcome)) made is = cc
ended_here step order before after old new (Ok (Ask asked)) made is = made
ended_here step order before after old new (Err (Unsent why)) made is = cc
ended_here step order before after old new (Err (LineFault fault)) made is = cc
ended_here step order before after old new (Err (BookBroke why)) made is = ⊎_elim
    (λ unsent. absurd unsent.not_ordered.not_sent.0)
    (λ more. ⊎_elim (λ broke. cc broke.is) (λ rest. ⊎_elim (λ failed. cc failed.has_failed) (λ given. cc given.is) rest) more)
    made.fails

step_here : (step : Step) (order : Option Order) (before after : Line) (old new : SettlingTill) (result : Result Ended RunFault)
    → StepHere settling_orders settling_hears settling_rests never_fails till_inside settling_loses settling_malforms step order before old result after new → stop_of result ≡ Some Book → ⊥
step_here step (Some order) before after old new result made is = ended_here step order before after old new result made is
step_here step None before after old new result made is = cc made.0

pub no_book_here : HasNoBook MakesHereAlone
no_book_here before old step result after new made is = step_here step (order_of step) before after old new result made is
