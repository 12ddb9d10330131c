-- Payments of one amount that follow each other with one card.
use Rattle.std.specs.Prelude.{◌≡◌, ℕ, ◌+◌, ◌-◌, ◌*◌, ◌==◌, nat_le, ◌&&◌, Bool, true, false, cond, List, [], ◌∷◌, ◌++◌, Option, Some, None, slice_get, refl}
use Rattle.std.specs.List.{cons_option}
use Rattle.std.specs.Option.{option_and_then}
use Rattle.std.specs.Str.{bytes_eq}
use Rattle.zvt_till.specs.declared.entries.Doubt.TheVariants.{No}
use Rattle.zvt_till.specs.declared.entries.Entry.{Entry}
use Rattle.zvt_till.specs.declared.happenings.Sent.{Sent}
use Rattle.zvt_till.specs.declared.happenings.Sent.TheVariants.{Pay}
use Rattle.zvt_till.specs.declared.outcomes.Outcome.{Outcome}
use Rattle.zvt_till.specs.declared.outcomes.Outcome.TheVariants.{Paid}
use Rattle.zvt_trace.specs.Marks.{moment}
use Rattle.zvt_trace.specs.declared.moment.Moment.{Moment}
use Rattle.zvt_report.specs.Cards.{card_number}
use Rattle.zvt_report.specs.Places.{counted, no_counts}
use Rattle.zvt_report.specs.declared.alike.Standing.{Standing}
use Rattle.zvt_report.specs.declared.cards.Card.{Card}
use Rattle.zvt_report.specs.declared.places.Counts.{Counts}
use Rattle.zvt_report.specs.declared.rows.OrderRow.{OrderRow}

-- the entry at this place is marked as reversed
abbrev pub is_marked : List Entry → (place : ℕ) → Bool
is_marked book place = elim (slice_get book place) [ None ↦ false | Some entry ↦ entry.reversed ]

-- ---- payments that stand

abbrev pub standing_by : (marked : Bool) → (amount : ℕ) → (number : Option (List ℕ)) → (time : Option Moment) → (order : ℕ) → Option Standing
standing_by true amount number time order = None
standing_by false amount None time order = None
standing_by false amount (Some number) time order = Some (record { number = number; amount = amount; time = time; order = order })

abbrev pub standing_as : Sent → Outcome → List Entry → Counts → OrderRow → Option Standing
standing_as (Pay amount) (Paid trace receipt) book c row = standing_by (is_marked book c.entries) amount (card_number row.card) row.time c.orders
standing_as _ _ book c row = None

-- a payment that is booked and not taken back, if the number of its card is known
abbrev pub standing : List Entry → Counts → OrderRow → Option Standing
standing book c row = standing_as row.order row.outcome book c row

-- ---- two of them

-- Seconds that grow with time. Each month counts as 31 days.
abbrev pub seconds : Moment → ℕ
seconds m = ((((m.year * 12 + m.month) * 31 + m.day) * 24 + m.hour) * 60 + m.minute) * 60 + m.second

-- not more than 15 minutes from each other, as far as is known
abbrev pub are_near : (before after : Option Moment) → Bool
are_near None after = true
are_near (Some before) None = true
are_near (Some before) (Some after) = nat_le (seconds after - seconds before) 900 && nat_le (seconds before - seconds after) 900

-- the last of these payments with this card, or else the one before
abbrev pub last_with : (number : List ℕ) → (before : Option Standing) → List Standing → Option Standing
last_with number before [] = before
last_with number before (one ∷ more) = last_with number (cond (bytes_eq one.number number) (Some one) before) more

abbrev pub repeated : (before : Option Standing) → Standing → Option ℕ
repeated None payment = None
repeated (Some before) payment = cond ((before.amount == payment.amount) && are_near before.time payment.time) (Some before.order) None

-- the place of the payment that this one repeats
abbrev pub repeats : (seen : List Standing) → Option Standing → Option ℕ
repeats seen None = None
repeats seen (Some payment) = repeated (last_with payment.number None seen) payment

-- for each row the place of the payment that it repeats, after these payments
abbrev pub repeated_from : List Entry → Counts → (seen : List Standing) → List OrderRow → List (Option ℕ)
repeated_from book c seen [] = []
repeated_from book c seen (row ∷ rows) =
    repeats seen (standing book c row) ∷ repeated_from book (counted c row) (seen ++ cons_option (standing book c row) []) rows

abbrev pub repeated_payments : List Entry → List OrderRow → List (Option ℕ)
repeated_payments book rows = repeated_from book no_counts [] rows

-- the payment that the order at this place repeats
abbrev pub repeated_at : List (Option ℕ) → (place : ℕ) → Option ℕ
repeated_at found place = option_and_then (λ (earlier : Option ℕ). earlier) (slice_get found place)

-- ---- rows worked by hand

abbrev an_entry : Bool → Entry
an_entry reversed = record { amount = 500; trace = 1; receipt = None; reversed = reversed; doubt = No }

abbrev a_payment : (amount card : ℕ) → (time : Option Moment) → OrderRow
a_payment amount card time =
    record { order = Pay amount; first = 1; last = 2; outcome = Paid 1 None; approval = None; time = time; card = Some (record { card_type = None; name = None; number = Some (card ∷ []) }) }

-- with another card between
paid_twice : repeated_payments (an_entry false ∷ an_entry false ∷ an_entry false ∷ []) (a_payment 500 1 None ∷ a_payment 500 2 None ∷ a_payment 500 1 None ∷ []) ≡ None ∷ None ∷ Some 0 ∷ []
paid_twice = refl

-- another amount between
other_between : repeated_payments (an_entry false ∷ an_entry false ∷ an_entry false ∷ []) (a_payment 500 1 None ∷ a_payment 700 1 None ∷ a_payment 500 1 None ∷ []) ≡ None ∷ None ∷ None ∷ []
other_between = refl

taken_back : repeated_payments (an_entry true ∷ an_entry false ∷ []) (a_payment 500 1 None ∷ a_payment 500 1 None ∷ []) ≡ None ∷ None ∷ []
taken_back = refl

abbrev at_minute : ℕ → Option Moment
at_minute minute = Some (moment 2026 11 28 9 minute 0 0)

after_a_while : repeated_payments (an_entry false ∷ an_entry false ∷ an_entry false ∷ []) (a_payment 500 1 (at_minute 1) ∷ a_payment 500 1 (at_minute 16) ∷ a_payment 500 1 (at_minute 32) ∷ []) ≡ None ∷ Some 0 ∷ None ∷ []
after_a_while = refl
