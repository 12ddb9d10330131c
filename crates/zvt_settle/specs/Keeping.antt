-- A till that settles, as one that orders are run with.
use Rattle.std.specs.Prelude.{◌≡◌, ◌⊎◌, ◌&&◌, Bool, true, false, Option, None, Some, Result, Ok, Err, refl}
use Rattle.std.proofs.Common.{inl, inr}
use Rattle.zvt_till.specs.declared.happenings.Happening.TheVariants.{Connected}
use Rattle.zvt_till.specs.declared.keeper.BookFault.{BookFault}
use Rattle.zvt_till.specs.declared.keeper.Untaken.{Untaken}
use Rattle.zvt_till.specs.declared.keeper.Untaken.TheVariants.{Order as Refused, Book as Unkept}
use Rattle.zvt_till.specs.declared.orders.Order.{Order}
use Rattle.zvt_till.specs.declared.orders.OrderRefusal.{OrderRefusal}
use Rattle.zvt_till.specs.declared.orders.Outgoing.{Outgoing}
use Rattle.zvt_till.specs.Keeping.{Accepts, Follows, IsRefusalOf}
use Rattle.zvt_till.specs.Line.{is_idle, till_rests}
use Rattle.zvt_till.specs.Till.{facts_of}
use Rattle.zvt_till.specs.View.{TillValue}
use Rattle.zvt_settle.specs.declared.settling.SettlingTill.{SettlingTill}
use Rattle.zvt_settle.specs.Inside.{both_of, connects_inside, settling_of, till_inside}
use Rattle.zvt_settle.specs.OnLine.{asks_nothing, settling_hears, settling_loses, settling_malforms, settling_rests}
use Rattle.zvt_settle.specs.Settling.{IsOrderRefusal, Line, Settling, sent, take}

-- there is no book that could fail
abbrev pub never_fails : SettlingTill → Bool
never_fails t = false

-- The till inside accepts an order while no ask runs. While one runs, the order is refused with Busy.
abbrev pub settling_orders : SettlingTill → Order → Result Outgoing Untaken → SettlingTill → Type 0
settling_orders old order (Ok outgoing) new = Accepts order outgoing old.till new.till × (settling_of new ≡ sent (settling_of old) order) × (old.asking ≡ None)
settling_orders old order (Err (Refused why)) new = IsOrderRefusal old.asking (facts_of old.till.state) old.till.spare order why × (new ≡ old)
settling_orders old order (Err (Unkept why)) new = ⊥

abbrev pub settling_connects : SettlingTill → Result Unit BookFault → SettlingTill → Type 0
settling_connects old (Ok up) new = (both_of new ≡ take (both_of old) (Line Connected)) × connects_inside old.till new.till
settling_connects old (Err why) new = ⊥

-- ---- what happens to it happens to its till

not_resting : (b : Bool) → (b && false) ≡ false
not_resting true = refl
not_resting false = refl

pub first_rests : (b c : Bool) → (b && c) ≡ true → b ≡ true
first_rests true c rests = refl
first_rests false c rests = rests

-- for a keeper that rests while neither an order nor an ask runs
pub refused_inside : (asking : Option Bool) (till : TillValue) (order : Order) (why : OrderRefusal) → IsOrderRefusal asking (facts_of till.state) till.spare order why
    → IsRefusalOf (is_idle till.state.running && asks_nothing asking) till order why
refused_inside None till order why refused = inl refused
refused_inside (Some positive) till order why busy = inr (busy, not_resting (is_idle till.state.running))

pub settling_follows : Follows settling_orders settling_hears settling_loses settling_malforms settling_rests till_inside never_fails
settling_follows = record {
  accepts = λ old order outgoing new taken. (taken.0, refl);
  refuses = λ old order why new refused. (refused_inside old.asking old.till order why refused.0, refused.1);
  has_no_space = λ old order new never. absurd never;
  fails = λ old order new never. absurd never;
  hears_as = λ old message answered new heard. inr (inl (heard.1, refl));
  loses_as = λ old new lost. lost.1;
  malforms_as = λ old new broke. inr broke.1;
  rests_as = λ keeper rests. first_rests (till_rests keeper.till) (asks_nothing keeper.asking) rests;
}
