-- What is known of an order: how it ended, and what an ask of the till settled later.
use Rattle.std.specs.Prelude.{◌≡◌, refl, ◌==◌, ℕ, Bool, true, false, if◌then◌else◌, List, [], ◌∷◌, ◌++◌, find, count_by, Option, Some, None, option_and_then, option_map, codes}
use Rattle.std.specs.List.{before_first}
use Rattle.zvt_till.specs.declared.orders.Order.{Order}
use Rattle.zvt_till.specs.declared.orders.Order.TheVariants.{Cancel, CloseDay, Pay, Register, Reverse}
use Rattle.zvt_till.specs.declared.outcomes.Outcome.{Outcome}
use Rattle.zvt_till.specs.declared.outcomes.Cause.TheVariants.{Line}
use Rattle.zvt_till.specs.declared.outcomes.Outcome.TheVariants.{Aborted, DayClosed, Declined, Paid as PaidOutcome, Refused, Registered, Reversed as ReversedOutcome, Unclear}
use Rattle.zvt_settle.specs.declared.deciding.Settlement.{Settlement}
use Rattle.zvt_settle.specs.declared.deciding.Settlement.TheVariants.{NotPaid as SettledNotPaid, NotReversed, Paid as SettledPaid, Reversed}
use Rattle.zvt_kept.specs.declared.past_orders.PastOrder.{PastOrder}
use Rattle.zvt_kept.specs.PastOrders.{first_noted, is_noted_as}
use Rattle.zvt_service.specs.declared.fates.Fate.{Fate}
use Rattle.zvt_service.specs.declared.fates.Fate.TheVariants.{Ended, Running, Settled}
use Rattle.zvt_service.specs.declared.fates.Verdict.{Verdict}
use Rattle.zvt_service.specs.declared.fates.Verdict.TheVariants.{NotPaid, Paid}

-- ---- settlements

-- a settlement is about the unclear payment at this index
abbrev pub is_about : (row : ℕ) → Settlement → Bool
is_about row (SettledPaid at trace receipt) = at == row
is_about row (SettledNotPaid at) = at == row
is_about row (Reversed entry) = false
is_about row (NotReversed entry) = false

abbrev pub verdict_of : Settlement → Option Verdict
verdict_of (SettledPaid at trace receipt) = Some (Paid trace receipt)
verdict_of (SettledNotPaid at) = Some NotPaid
verdict_of (Reversed entry) = None
verdict_of (NotReversed entry) = None

-- what was settled about the unclear payment at this index
abbrev pub verdict_in : (row : ℕ) → List Settlement → Option Verdict
verdict_in row settled = option_and_then verdict_of (find (is_about row) settled)

-- ---- rows

abbrev pub is_payment : Order → Bool
is_payment Register = false
is_payment (Pay amount) = true
is_payment (Reverse entry) = false
is_payment CloseDay = false
is_payment Cancel = false

abbrev pub is_unclear : Option Outcome → Bool
is_unclear None = false
is_unclear (Some Registered) = false
is_unclear (Some (PaidOutcome trace receipt)) = false
is_unclear (Some (Declined code)) = false
is_unclear (Some (Refused code)) = false
is_unclear (Some (Aborted code)) = false
is_unclear (Some (Unclear cause)) = true
is_unclear (Some ReversedOutcome) = false
is_unclear (Some DayClosed) = false

-- an order is a payment that ended as unclear
abbrev pub is_unclear_payment : PastOrder → Bool
is_unclear_payment past = if is_payment past.order then is_unclear past.outcome else false

abbrev pub unclear_payments : List PastOrder → ℕ
unclear_payments past = count_by is_unclear_payment past

-- The index among the till's unclear payments of the first order with this key, if it is one: the number of unclear
-- payments before it.
abbrev pub row_of : (key : List ℕ) → List PastOrder → ℕ
row_of key past = unclear_payments (before_first (is_noted_as key) past)

-- ---- fates

abbrev pub fate_as : Option Verdict → Option Outcome → Fate
fate_as (Some verdict) outcome = Settled verdict
fate_as None (Some outcome) = Ended outcome
fate_as None None = Running

-- What a book says about this order, the first with this key. An unclear payment may be settled.
abbrev pub fate_of : (key : List ℕ) → List PastOrder → List Settlement → PastOrder → Fate
fate_of key past settled one = fate_as (if is_unclear_payment one then verdict_in (row_of key past) settled else None) one.outcome

-- what a book says about the order with this key
abbrev pub fate_by : (key : List ℕ) → List PastOrder → List Settlement → Option Fate
fate_by key past settled = option_map (fate_of key past settled) (first_noted key past)

-- ---- rows worked by hand

abbrev an_unclear : (key : List ℕ) → Order → PastOrder
an_unclear key order = record { order = order; note = codes " ref " ++ key; outcome = Some (Unclear Line) }

abbrev some_orders : List PastOrder
some_orders =
    an_unclear (codes "sale-1") (Pay 500) ∷ an_unclear (codes "back-1") (Reverse 0) ∷ an_unclear (codes "sale-2") (Pay 700) ∷ an_unclear (codes "sale-3") (Pay 900) ∷ []

abbrev some_settled : List Settlement
some_settled = SettledNotPaid 1 ∷ NotReversed 0 ∷ SettledPaid 0 9 (Some (0 ∷ 7 ∷ [])) ∷ []

-- The first payment has the row 0, and the second has the row 1: the unclear reversal between them has none.
first_is_paid : fate_by (codes "sale-1") some_orders some_settled ≡ Some (Settled (Paid 9 (Some (0 ∷ 7 ∷ []))))
first_is_paid = refl

second_is_not_paid : fate_by (codes "sale-2") some_orders some_settled ≡ Some (Settled NotPaid)
second_is_not_paid = refl

-- nothing was settled about the third payment, and a reversal stays unclear
third_is_unclear : fate_by (codes "sale-3") some_orders some_settled ≡ Some (Ended (Unclear Line))
third_is_unclear = refl

reversal_is_unclear : fate_by (codes "back-1") some_orders some_settled ≡ Some (Ended (Unclear Line))
reversal_is_unclear = refl
