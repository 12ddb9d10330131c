-- Which orders explain that the terminal's total of a day is not the book's.
use Rattle.std.specs.Prelude.{◌≡◌, ℕ, zero, suc, ◌+◌, ◌==◌, nat_le, Bool, true, false, cond, List, [], ◌∷◌, ◌++◌, length, filter, map, sum_by, Option, Some, None, option_map, slice_get, refl}
use Rattle.std.specs.List.{list_any}
use Rattle.std.specs.Option.{option_and_then, option_or}
use Rattle.zvt_till.specs.declared.entries.Doubt.TheVariants.{No}
use Rattle.zvt_till.specs.declared.entries.Entry.{Entry}
use Rattle.zvt_till.specs.declared.happenings.Sent.{Sent}
use Rattle.zvt_till.specs.declared.happenings.Sent.TheVariants.{Pay, Reverse, Foreign}
use Rattle.zvt_till.specs.declared.outcomes.Cause.TheVariants.{Line}
use Rattle.zvt_till.specs.declared.outcomes.Outcome.{Outcome}
use Rattle.zvt_till.specs.declared.outcomes.Outcome.TheVariants.{Unclear, DayClosed, Aborted}
use Rattle.zvt_report.specs.Looks.{decides}
use Rattle.zvt_report.specs.declared.explaining.Explained.{Explained}
use Rattle.zvt_report.specs.declared.explaining.Explained.TheVariants.{Nothing, Empty, One, Two, Three, Several}
use Rattle.zvt_report.specs.declared.explaining.OpenItem.{OpenItem}
use Rattle.zvt_report.specs.declared.rows.Approval.{Approval}
use Rattle.zvt_report.specs.declared.rows.OrderMessage.{OrderMessage}
use Rattle.zvt_report.specs.declared.rows.OrderRow.{OrderRow}

-- ---- sets of open items

-- what these orders add to the terminal's total
abbrev pub added_by : OpenItem → ℕ
added_by item = cond item.adds item.amount 0

-- what they take from it
abbrev pub taken_by : OpenItem → ℕ
taken_by item = cond item.adds 0 item.amount

-- the book and the items of this set are the terminal's total
abbrev pub adds_up : (booked covered : ℕ) → List OpenItem → Bool
adds_up booked covered set = (booked + sum_by added_by set) == (covered + sum_by taken_by set)

-- the sets of at most so many of these items
abbrev pub sets : (most : ℕ) → List OpenItem → List (List OpenItem)
sets zero items = [] ∷ []
sets (suc most) [] = [] ∷ []
sets (suc most) (item ∷ items) = map (λ (set : List OpenItem). item ∷ set) (sets most items) ++ sets (suc most) items

-- the orders of a set, by their places
abbrev pub places_of : List OpenItem → Explained
places_of [] = Empty
places_of (a ∷ []) = One a.order
places_of (a ∷ b ∷ []) = Two a.order b.order
places_of (a ∷ b ∷ c ∷ []) = Three a.order b.order c.order
places_of (a ∷ b ∷ c ∷ d ∷ more) = Several

-- Only one set explains a difference.
abbrev pub only_set : List (List OpenItem) → Explained
only_set [] = Nothing
only_set (set ∷ []) = places_of set
only_set (set ∷ other ∷ more) = Several

-- the orders of the only set of at most so many items that adds up, if there is just one
abbrev pub explained_with : (most booked covered : ℕ) → List OpenItem → Explained
explained_with most booked covered items = only_set (filter (adds_up booked covered) (sets most items))

-- a set of at most three; a day with more than 64 open items is not explained
abbrev pub explain : (booked covered : ℕ) → List OpenItem → Explained
explain booked covered items = cond (nat_le (length items) 64) (explained_with 3 booked covered items) Nothing

-- ---- one item after another

abbrev pub at_once : (booked covered : ℕ) → Explained
at_once booked covered = cond (booked == covered) Empty Nothing

-- one more order, before those of a set
abbrev pub with_order : (order : ℕ) → Explained → Explained
with_order order Nothing = Nothing
with_order order Empty = One order
with_order order (One a) = Two order a
with_order order (Two a b) = Three order a b
with_order order (Three a b c) = Several
with_order order Several = Several

abbrev pub or_several : Explained → Explained → Explained
or_several found Nothing = found
or_several found _ = Several

-- what the sets of two lists explain together
abbrev pub joined : Explained → Explained → Explained
joined Nothing other = other
joined Empty other = or_several Empty other
joined (One a) other = or_several (One a) other
joined (Two a b) other = or_several (Two a b) other
joined (Three a b c) other = or_several (Three a b c) other
joined Several other = or_several Several other

-- ---- open items

-- the orders that move money beside the book, by their second control byte: what the terminal's total has more or less by them
abbrev pub money_sign : (high low : ℕ) → Option Bool
money_sign high low = cond (high == 0x06) (cond (low == 0x31) (Some false) (cond (list_any (λ (byte : ℕ). low == byte) (0x04 ∷ 0x09 ∷ 0x21 ∷ 0x24 ∷ [])) (Some true) None)) None

abbrev pub item_of : (adds : Bool) → (order : ℕ) → Option ℕ → Option OpenItem
item_of adds order amount = option_map (λ (a : ℕ). record { amount = a; adds = adds; order = order }) amount

abbrev pub money_item : OrderMessage → (order : ℕ) → Option Approval → Option OpenItem
money_item message order approval =
    option_and_then (λ (adds : Bool). item_of adds order (option_or message.amount (option_map (λ (a : Approval). a.amount) approval))) (money_sign message.high message.low)

-- an unclear reversal that no later one decided
abbrev pub reversal_item : List Entry → (later : List OrderRow) → (place order : ℕ) → Option OpenItem
reversal_item book later place order = cond (list_any (decides place) later) None (item_of false order (option_map (λ (e : Entry). e.amount) (slice_get book place)))

abbrev pub open_as : List Entry → OrderMessage → (order : ℕ) → (later : List OrderRow) → Option Approval → Sent → Outcome → Option OpenItem
open_as book message order later approval (Pay a) (Unclear cause) = Some (record { amount = a; adds = true; order = order })
open_as book message order later approval (Reverse e) (Unclear cause) = reversal_item book later e order
open_as book message order later approval Foreign (Unclear cause) = money_item message order approval
open_as book message order later approval Foreign DayClosed = money_item message order approval
open_as book message order later approval _ _ = None

-- the order with this row, if it may have changed the terminal's total but not the book: the payment or the reversal is unclear, or
-- the order moves money beside the book and was completed or is unclear
abbrev pub open_item : List Entry → OrderMessage → (order : ℕ) → OrderRow → (later : List OrderRow) → Option OpenItem
open_item book message order row later = open_as book message order later row.approval row.order row.outcome

-- ---- rows worked by hand

abbrev item : (amount : ℕ) → Bool → (order : ℕ) → OpenItem
item amount adds order = record { amount = amount; adds = adds; order = order }

-- 34.99 was charged, and 5.00 was refunded
paid_and_refunded : explain 15713 18712 (item 3499 true 5 ∷ item 500 false 8 ∷ item 2300 false 14 ∷ []) ≡ Two 5 8
paid_and_refunded = refl

-- either payment explains it
two_sets : explain 0 500 (item 500 true 1 ∷ item 500 true 2 ∷ []) ≡ Several
two_sets = refl

no_set : explain 0 400 (item 500 true 1 ∷ []) ≡ Nothing
no_set = refl

abbrev a_row : Sent → Outcome → OrderRow
a_row order outcome = record { order = order; first = 1; last = 2; outcome = outcome; approval = Some (record { line = 2; amount = 700; trace = None; receipt = None }); time = None; card = None }

abbrev a_message : (low : ℕ) → Option ℕ → OrderMessage
a_message low amount = record { high = 0x06; low = low; amount = amount; receipt = None }

a_refund : open_item [] (a_message 0x31 (Some 500)) 8 (a_row Foreign DayClosed) [] ≡ Some (item 500 false 8)
a_refund = refl

-- the amount is the one that the terminal approved
a_booking : open_item [] (a_message 0x24 None) 3 (a_row Foreign (Unclear Line)) [] ≡ Some (item 700 true 3)
a_booking = refl

-- a pre-authorisation moves no money yet
a_reservation : open_item [] (a_message 0x22 (Some 500)) 3 (a_row Foreign DayClosed) [] ≡ None
a_reservation = refl

aborted : open_item [] (a_message 0x31 (Some 500)) 3 (a_row Foreign (Aborted 0x6C)) [] ≡ None
aborted = refl
