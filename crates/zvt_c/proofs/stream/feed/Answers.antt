use Rattle.std.proofs.Common.{◌≡◌, ℕ, Bool, true, Option, Some, None, is_some, option_map, Err, IsErrOf, refl, sym, ap, ◌∙◌}
use Rattle.zvt_stream.specs.declared.stream.Fed.TheVariants.{Message as Whole, More, Refused}
use Rattle.zvt_stream.specs.declared.stream.FedView.{FedView}
use Rattle.zvt_stream.specs.declared.stream.FeedError.{FeedError}
use Rattle.zvt_stream.specs.declared.stream.FeedError.TheVariants.{Stopped, Memory}
use Rattle.zvt_stream.proofs.LentLemmas.{feeds_shown}
use Rattle.zvt_till.specs.declared.outcomes.Outcome.{Outcome}
use Rattle.zvt_till.specs.View.{TillValue}
use Rattle.zvt_c.specs.declared.session.Session.{Session}
use Rattle.zvt_c.specs.Answers.{code_of_why}
use Rattle.zvt_c.specs.Cards.{heard_card}
use Rattle.zvt_c.specs.Feeding.{fed, failed, IsFailure}
use Rattle.zvt_c.specs.Numbers.{outcome_of, silent}
use Rattle.zvt_c.proofs.stream.feed.Goals as goal

-- an order is running, whichever it is
mapped_is : {A B : Type 0} (f : A → B) (o : Option A) → is_some (option_map f o) ≡ is_some o
mapped_is f None = refl
mapped_is f (Some x) = refl

pub returns-in-Some-clause-fed : goal.returns-in-Some-clause-fed
returns-in-Some-clause-fed c =
    let lends = rw c.in-Ok-Message.field-0-is at c.in-Ok-Message.ensures.fed in
    fed (Whole c.in-Some.apdu c.in-Ok-Message.taken) (feeds_shown c.args.end.now.stream c.feed_view.new.self _ c.in-Ok-Message.taken c.lent.result c.in-Some.apdu lends c.lent.ensures c.in-Some.is)
    (sym c.lent.ensures ∙ c.in-Some.is)
    (c.hear_card.ensures ∙ ap (λ (b : Bool). heard_card b c.in-Some.apdu c.args.end.now.card) (c.is_some.ensures ∙ (ap is_some (c.running.ensures ∙ ap (λ (till : TillValue). option_map (λ running. running.order) till.state.running) c.till.ensures) ∙ mapped_is _ c.args.end.now.till.till.state.running)))
    (c.report.ensures.told, refl)

pub returns-in-Ok-More-clause-fed : goal.returns-in-Ok-More-clause-fed
returns-in-Ok-More-clause-fed c =
    let lends = rw c.in-Ok-More.field-0-is at c.in-Ok-More.ensures.fed in
    fed More lends.0 lends.1 refl (refl, refl, refl, c.silent.ensures, refl)

pub returns-in-Ok-Refused-clause-fed : goal.returns-in-Ok-Refused-clause-fed
returns-in-Ok-Refused-clause-fed c =
    let lends = rw c.in-Ok-Refused.field-0-is at c.in-Ok-Refused.ensures.fed in
    fed (Refused c.in-Ok-Refused.place c.in-Ok-Refused.why) lends.0 lends.1 refl
    (c.malformed.ensures.both, refl, refl, c.silent-in-Ok-Refused.ensures ∙ ap (λ (n : ℕ). silent 0 c.in-Ok-Refused.place n (outcome_of c.malformed.result)) c.reason_code.ensures ∙ ap (λ (o : Option Outcome). silent 0 c.in-Ok-Refused.place (code_of_why c.in-Ok-Refused.why) (outcome_of o)) c.malformed.ensures.outcome, refl)

-- the failure is what the feed of the stream says that it is
is_failure : (why : FeedError) (end : Session) → (IsErrOf {T = FedView} (Err why) Stopped → end.stream.stopped ≡ true) → IsFailure why end
is_failure Stopped end stopped = stopped refl
is_failure Memory end stopped = tt

pub returns-in-Err-clause-fed : goal.returns-in-Err-clause-fed
returns-in-Err-clause-fed c =
    failed c.in-Err.why (is_failure c.in-Err.why c.args.end.now c.in-Err.ensures.only) c.in-Err.ensures.err refl refl refl refl c.no_step.ensures c.failed.ensures
