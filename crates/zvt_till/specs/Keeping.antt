-- A till that orders are run with: alone, or with a book.
use Rattle.std.specs.Prelude.{◌≡◌, ◌⊎◌, ◌≤◌, ◌+◌, ℕ, Bool, true, false, List, Option, None, Some, Result, Ok, Err, refl}
use Rattle.std.proofs.Common.{inl, inr}
use Rattle.zvt_apdu.specs.Message.{Message}
use Rattle.zvt_stream.specs.Answered.{Answered}
use Rattle.zvt_stream.specs.StreamState.{StreamState}
use Rattle.zvt_stream.specs.declared.line.LineFault.{LineFault}
use Rattle.zvt_till.specs.declared.happenings.Happening.TheVariants.{Connected, Lost}
use Rattle.zvt_till.specs.declared.keeper.BookFault.{BookFault}
use Rattle.zvt_till.specs.declared.keeper.BookFault.TheVariants.{NoSpace, Failed}
use Rattle.zvt_till.specs.declared.keeper.Untaken.{Untaken}
use Rattle.zvt_till.specs.declared.keeper.Untaken.TheVariants.{Order as Refused, Book as Unkept}
use Rattle.zvt_till.specs.declared.line.RunFault.{RunFault}
use Rattle.zvt_till.specs.declared.orders.Order.{Order}
use Rattle.zvt_till.specs.declared.orders.OrderRefusal.{OrderRefusal}
use Rattle.zvt_till.specs.declared.orders.OrderRefusal.TheVariants.{Busy}
use Rattle.zvt_till.specs.declared.orders.Outgoing.{Outgoing}
use Rattle.zvt_till.specs.declared.outcomes.Outcome.{Outcome}
use Rattle.zvt_till.specs.Line.{BreaksOff, Fails, NotSent, Runs, Sends, till_hears, till_loses, till_malforms, till_rests}
use Rattle.zvt_till.specs.Numbers.{numbers_begun}
use Rattle.zvt_till.specs.Refusals.{refusal}
use Rattle.zvt_till.specs.Sending.{message_of}
use Rattle.zvt_till.specs.Till.{accept, facts_of, step}
use Rattle.zvt_till.specs.View.{IsRefusedAs, KeepsHeard, KeepsRoom, TillValue}

-- ---- what an order does to a till

-- the order was accepted, and this is its message
pub record Accepts (order : Order) (outgoing : Outgoing) (old new : TillValue) : Type 0 where
  pub taken : refusal (facts_of old.state) order ≡ None
  pub runs : new.state ≡ accept old.state order
  pub room : old.spare ≤ new.spare
  pub numbers : new.numbers ≡ numbers_begun old.numbers order
  pub heard : new.heard ≡ old.heard
  pub message : message_of old.state.settings old.state.book order ≡ Some outgoing

-- the order was accepted and not sent, and the till lost its line; a payment used the capacity for one
pub record LosesOrder (order : Order) (old new : TillValue) : Type 0 where
  pub taken : refusal (facts_of old.state) order ≡ None
  pub lost : new.state ≡ step (accept old.state order) Lost
  pub room : old.spare ≤ new.spare + 1
  pub numbers : new.numbers ≡ numbers_begun old.numbers order
  pub heard : KeepsHeard old new

-- the order would be accepted, but the book has no room; the till is as before, apart from capacity that it may have
-- gained
pub record LacksSpace (order : Order) (old new : TillValue) : Type 0 where
  pub taken : refusal (facts_of old.state) order ≡ None
  pub state : new.state ≡ old.state
  pub room : old.spare ≤ new.spare
  pub numbers : new.numbers ≡ old.numbers
  pub heard : new.heard ≡ old.heard

-- ---- a till alone

abbrev pub itself : TillValue → TillValue
itself till = till

abbrev pub never_failed : TillValue → Bool
never_failed till = false

-- an order is accepted or refused; there is no book that could fail
abbrev pub till_orders : TillValue → Order → Result Outgoing Untaken → TillValue → Type 0
till_orders old order (Ok outgoing) new = Accepts order outgoing old new
till_orders old order (Err (Refused why)) new = IsRefusedAs (facts_of old.state) old.spare order why × (new ≡ old)
till_orders old order (Err (Unkept why)) new = ⊥

abbrev pub till_connects : TillValue → Result Unit BookFault → TillValue → Type 0
till_connects old (Ok up) new = (new.state ≡ step old.state Connected) × KeepsRoom old new × (new.numbers ≡ old.numbers) × (new.heard ≡ old.heard)
till_connects old (Err why) new = ⊥

-- one order of a till alone
abbrev pub SendsAlone : Order → (old new : TillValue) → (first last : Option (List ℕ)) → Type 0
SendsAlone order old new first last = Sends till_orders order old new first last

abbrev pub NotSentAlone : RunFault → Order → (old new : TillValue) → (first last : Option (List ℕ)) → Type 0
NotSentAlone fault order old new first last = NotSent till_orders till_loses fault order old new first last

abbrev pub RunsAlone : Order → Outcome → (before after : StreamState) → (old new : TillValue) → (coming left first last : Option (List ℕ)) → (turns reads_before reads_after : ℕ) → Type 0
RunsAlone order outcome before after old new coming left first last turns reads_before reads_after =
    Runs till_orders till_hears till_rests never_failed itself order outcome before after old new coming left first last turns reads_before reads_after

abbrev pub BreaksOffAlone : LineFault → Order → (before after : StreamState) → (old new : TillValue) → (coming left first last : Option (List ℕ)) → (turns reads_before reads_after : ℕ) → Type 0
BreaksOffAlone fault order before after old new coming left first last turns reads_before reads_after =
    BreaksOff till_orders till_hears till_rests never_failed till_loses till_malforms fault order before after old new coming left first last turns reads_before reads_after

abbrev pub FailsAlone : RunFault → Order → (before after : StreamState) → (old new : TillValue) → (coming left first last : Option (List ℕ)) → (turns reads_before reads_after : ℕ) → Type 0
FailsAlone fault order before after old new coming left first last turns reads_before reads_after =
    Fails till_orders till_hears till_rests never_failed till_loses till_malforms fault order before after old new coming left first last turns reads_before reads_after

-- ---- what happens to a keeper happens to its till

-- A message changes nothing, or the till processes it, or the book fails and the till loses its line.
abbrev pub HearsAs : (old : TillValue) (was_failed : Bool) → Message → Answered → (new : TillValue) (is_failed : Bool) → Type 0
HearsAs old was_failed message answered new is_failed =
    ((new ≡ old) × (is_failed ≡ was_failed)) ⊎ (till_hears old message answered new × (is_failed ≡ was_failed)) ⊎ till_loses old new

-- An order is refused as the till refuses it, or with Busy while the keeper is not at rest.
abbrev pub IsRefusalOf : (resting : Bool) → TillValue → Order → OrderRefusal → Type 0
IsRefusalOf resting till order why = IsRefusedAs (facts_of till.state) till.spare order why ⊎ ((why ≡ Busy) × (resting ≡ false))

pub record Follows {K : Type 0} (orders : K → Order → Result Outgoing Untaken → K → Type 0) (hears : K → Message → Answered → K → Type 0) (loses malforms : K → K → Type 0) (is_resting : K → Bool)
    (till : K → TillValue) (failed : K → Bool) : Type 0 where
  pub accepts : (old : K) (order : Order) (outgoing : Outgoing) (new : K) → orders old order (Ok outgoing) new → Accepts order outgoing (till old) (till new) × (failed new ≡ false)
  pub refuses : (old : K) (order : Order) (why : OrderRefusal) (new : K) → orders old order (Err (Refused why)) new → IsRefusalOf (is_resting old) (till old) order why × (new ≡ old)
  pub has_no_space : (old : K) (order : Order) (new : K) → orders old order (Err (Unkept NoSpace)) new → LacksSpace order (till old) (till new) × (failed new ≡ failed old)
  pub fails : (old : K) (order : Order) (new : K) → orders old order (Err (Unkept Failed)) new → LosesOrder order (till old) (till new) × (failed new ≡ true)
  pub hears_as : (old : K) (message : Message) (answered : Answered) (new : K) → hears old message answered new → HearsAs (till old) (failed old) message answered (till new) (failed new)
  pub loses_as : (old new : K) → loses old new → till_loses (till old) (till new)
  pub malforms_as : (old new : K) → malforms old new → till_loses (till old) (till new) ⊎ till_malforms (till old) (till new)
  pub rests_as : (keeper : K) → is_resting keeper ≡ true → till_rests (till keeper) ≡ true

-- a till alone is its own keeper
pub till_follows : Follows till_orders till_hears till_loses till_malforms till_rests itself never_failed
till_follows = record {
  accepts = λ old order outgoing new taken. (taken, refl);
  refuses = λ old order why new refused. (inl refused.0, refused.1);
  has_no_space = λ old order new never. absurd never;
  fails = λ old order new never. absurd never;
  hears_as = λ old message answered new heard. inr (inl (heard, refl));
  loses_as = λ old new lost. lost;
  malforms_as = λ old new broke. inr broke;
  rests_as = λ keeper rests. rests;
}
