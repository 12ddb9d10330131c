-- A till that asks: alone, or with a book.
use Rattle.std.specs.Prelude.{◌≡◌, ◌⊎◌, ◌&&◌, Bool, true, false, List, ℕ, Option, None, Some, Result, Ok, Err, refl}
use Rattle.std.proofs.Common.{inl, inr}
use Rattle.zvt_apdu.specs.Message.{Message}
use Rattle.zvt_stream.specs.Answered.{Answered}
use Rattle.zvt_till.specs.declared.happenings.Happening.TheVariants.{Heard as HeardIn, Malformed, Lost}
use Rattle.zvt_till.specs.declared.keeper.BookFault.TheVariants.{NoSpace, Failed}
use Rattle.zvt_till.specs.declared.keeper.Untaken.{Untaken}
use Rattle.zvt_till.specs.declared.keeper.Untaken.TheVariants.{Order as Refused, Book as Unkept}
use Rattle.zvt_till.specs.declared.orders.OrderRefusal.{OrderRefusal}
use Rattle.zvt_till.specs.declared.orders.OrderRefusal.TheVariants.{Memory}
use Rattle.zvt_till.specs.Hearing.{heard_as}
use Rattle.zvt_till.specs.Line.{is_idle, till_loses}
use Rattle.zvt_till.specs.Refusals.{Facts}
use Rattle.zvt_till.specs.Till.{facts_of}
use Rattle.zvt_till.specs.View.{TillValue}
use Rattle.zvt_settle.specs.declared.settling.SettlingTill.{SettlingTill}
use Rattle.zvt_settle.specs.Inside.{settling_of, till_inside}
use Rattle.zvt_settle.specs.Keeping.{never_fails}
use Rattle.zvt_settle.specs.OnLine.{asks_nothing, settling_hears, settling_loses, settling_malforms, settling_rests}
use Rattle.zvt_settle.specs.Settling.{Both, Line, Settling, ask_bytes, ask_refusal, asks, settles, take}

abbrev pub both_as : TillValue → Settling → Both
both_as till settling = record { till = till.state; settling = settling }

-- neither an order nor an ask is running
abbrev pub both_rest : Both → Bool
both_rest b = is_idle b.till.running && asks_nothing b.settling.asking

-- ---- what an ask does

-- an ask is refused for the first reason that applies, or because memory ran out
abbrev pub IsAskRefusedAs : Facts → Option Bool → OrderRefusal → Type 0
IsAskRefusedAs f asking why = (why ≡ Memory) ⊎ (ask_refusal f asking ≡ Some why)

-- the ask was accepted, and these are the bytes of its message
pub record AcceptsAsk (bytes : List ℕ) (old : TillValue) (before : Settling) (new : TillValue) (after : Settling) : Type 0 where
  pub taken : ask_refusal (facts_of old.state) before.asking ≡ None
  pub runs : after ≡ asks before
  pub inside : new ≡ old
  pub message : bytes ≡ ask_bytes old.state.settings.password

-- the ask was accepted and not sent, and the till lost its line
pub record LosesAsk (old : TillValue) (before : Settling) (new : TillValue) (after : Settling) : Type 0 where
  pub taken : ask_refusal (facts_of old.state) before.asking ≡ None
  pub ended : after ≡ settles old.state (asks before) Lost
  pub lost : till_loses old new

-- nothing changed, apart from capacity that was gained
pub record KeepsAll (old : TillValue) (before : Settling) (new : TillValue) (after : Settling) : Type 0 where
  pub inside : new ≡ old
  pub settling : after ≡ before

-- ---- a till that settles, alone

abbrev pub settling_asks : SettlingTill → Result (List ℕ) Untaken → SettlingTill → Type 0
settling_asks old (Ok bytes) new = AcceptsAsk bytes old.till (settling_of old) new.till (settling_of new)
settling_asks old (Err (Refused why)) new = IsAskRefusedAs (facts_of old.till.state) old.asking why × KeepsAll old.till (settling_of old) new.till (settling_of new)
settling_asks old (Err (Unkept why)) new = ⊥

-- ---- whatever happens to a till that asks

-- A message changes nothing, or the till processes it, or the book fails and the till loses its line.
abbrev pub HearsBoth : (old : Both) (was_failed : Bool) → Message → (new : Both) (is_failed : Bool) → Type 0
HearsBoth old was_failed message new is_failed =
    ((new ≡ old) × (is_failed ≡ was_failed)) ⊎ ((new ≡ take old (Line (HeardIn (heard_as message)))) × (is_failed ≡ was_failed)) ⊎ (new ≡ take old (Line Lost))

pub record IsAsker {K : Type 0} (asks : K → Result (List ℕ) Untaken → K → Type 0) (hears : K → Message → Answered → K → Type 0) (loses malforms : K → K → Type 0) (is_resting : K → Bool)
    (till : K → TillValue) (settling : K → Settling) (failed : K → Bool) : Type 0 where
  pub accepts : (old : K) (bytes : List ℕ) (new : K) → asks old (Ok bytes) new → AcceptsAsk bytes (till old) (settling old) (till new) (settling new) × (failed new ≡ false)
  pub refuses : (old : K) (why : OrderRefusal) (new : K) → asks old (Err (Refused why)) new
      → IsAskRefusedAs (facts_of (till old).state) (settling old).asking why × KeepsAll (till old) (settling old) (till new) (settling new) × (failed new ≡ failed old)
  pub has_no_space : (old new : K) → asks old (Err (Unkept NoSpace)) new → KeepsAll (till old) (settling old) (till new) (settling new) × (failed new ≡ failed old)
  pub fails : (old new : K) → asks old (Err (Unkept Failed)) new → LosesAsk (till old) (settling old) (till new) (settling new) × (failed new ≡ true)
  pub hears_as : (old : K) (message : Message) (answered : Answered) (new : K) → hears old message answered new
      → HearsBoth (both_as (till old) (settling old)) (failed old) message (both_as (till new) (settling new)) (failed new)
  pub loses_as : (old new : K) → loses old new → both_as (till new) (settling new) ≡ take (both_as (till old) (settling old)) (Line Lost)
  pub malforms_as : (old new : K) → malforms old new
      → (both_as (till new) (settling new) ≡ take (both_as (till old) (settling old)) (Line Lost)) ⊎ (both_as (till new) (settling new) ≡ take (both_as (till old) (settling old)) (Line Malformed))
  pub rests_as : (keeper : K) → is_resting keeper ≡ both_rest (both_as (till keeper) (settling keeper))

-- a till that settles asks by itself
pub settling_is_asker : IsAsker settling_asks settling_hears settling_loses settling_malforms settling_rests till_inside settling_of never_fails
settling_is_asker = record {
  accepts = λ old bytes new accepted. (accepted, refl);
  refuses = λ old why new refused. (refused.0, refused.1, refl);
  has_no_space = λ old new never. absurd never;
  fails = λ old new never. absurd never;
  hears_as = λ old message answered new heard. inr (inl (heard.0, refl));
  loses_as = λ old new lost. lost.0;
  malforms_as = λ old new broke. inr broke.0;
  rests_as = λ keeper. refl;
}
