-- The orders of a journal, and how each of them ended.
use Rattle.std.specs.Prelude.{◌≡◌, ◌+◌, ◌-◌, ℕ, Bool, true, false, cond, List, [], ◌∷◌, ◌++◌, All, length, map, slice_get, slice_set, Option, Some, None}
use Rattle.std.specs.List.{find}
use Rattle.zvt_till.specs.declared.orders.Order.{Order}
use Rattle.zvt_till.specs.declared.orders.Order.TheVariants.{Register, Pay, Reverse, CloseDay, Cancel}
use Rattle.zvt_till.specs.declared.outcomes.Outcome.{Outcome}
use Rattle.zvt_till.specs.declared.outcomes.Outcome.TheVariants.{Paid}
use Rattle.zvt_till.specs.Books.{Booked, booked_as}
use Rattle.zvt_till.specs.Laws.{row_of}
use Rattle.zvt_till.specs.Sending.{Settings}
use Rattle.zvt_till.specs.Till.{TillState}
use Rattle.zvt_kept.specs.declared.past_orders.PastOrder.{PastOrder}
use Rattle.zvt_kept.specs.Notes.{is_noted_by}
use Rattle.zvt_kept.specs.Records.{Kept, ordered, asked, heard, lost, kept_in}
use Rattle.zvt_kept.specs.RowNotes.{LivedThrough}

-- an order runs until it ends; a request to break off the running order does not
abbrev pub runs : Order → Bool
runs Register = true
runs (Pay amount) = true
runs (Reverse entry) = true
runs CloseDay = true
runs Cancel = false

-- a record starts an order
abbrev pub starts : Kept → Bool
starts (ordered order note) = runs order
starts (asked note) = false
starts (heard message) = false
starts lost = false

-- the number of orders that records start
abbrev pub count_starts : List Kept → ℕ
count_starts [] = 0
count_starts (one ∷ more) = cond (starts one) (1 + count_starts more) (count_starts more)

-- the records that start an order
abbrev pub starting : List Kept → List Kept
starting [] = []
starting (one ∷ more) = cond (starts one) (one ∷ starting more) (starting more)

-- the record of an order
abbrev pub record_of : PastOrder → Kept
record_of past = ordered past.order past.note

-- there are no records, or the first one starts an order
abbrev pub starts_at_once : List Kept → Bool
starts_at_once [] = true
starts_at_once (one ∷ more) = starts one

-- how the last order ended, or nothing while an order is running
abbrev pub ended : TillState → Option Outcome
ended state = elim state.running [ None ↦ state.last_outcome | Some running ↦ None ]

-- The order with this index, counted from 0, among the orders that records start. It ended as the till says that has
-- lived through the records up to the next order.
pub record IsPastOrder (settings : Settings) (kept : List Kept) (index : ℕ) (past : PastOrder) : Type 0 where
  pub before : List Kept
  pub during : List Kept
  pub after : List Kept
  pub is : kept ≡ before ++ ordered past.order past.note ∷ (during ++ after)
  pub runs : runs past.order ≡ true
  pub number : count_starts before ≡ index
  pub quiet : All (λ one. starts one ≡ false) during
  pub next : starts_at_once after ≡ true
  pub state : TillState
  pub lived : LivedThrough settings (before ++ ordered past.order past.note ∷ during) state
  pub outcome : past.outcome ≡ ended state

-- all orders that records start, in their order
pub record ArePast (settings : Settings) (kept : List Kept) (past : List PastOrder) : Type 0 where
  pub listed : map record_of past ≡ starting kept
  pub as_many : length past ≡ count_starts kept
  pub each : (index : ℕ) (one : PastOrder) → slice_get past index ≡ Some one → IsPastOrder settings kept index one

-- the orders of a text of records, whose line is lost after the last record
pub record HasOrders (settings : Settings) (text : List ℕ) (past : List PastOrder) : Type 0 where
  pub kept : List Kept
  pub read : kept_in text ≡ Some kept
  pub are : ArePast settings (kept ++ lost ∷ []) past

-- ---- one order more

-- an order that starts
abbrev pub started : List PastOrder → Order → (note : List ℕ) → List PastOrder
started past order note = past ++ record { order = order; note = note; outcome = None } ∷ []

-- the orders after a record, before the till has lived through it
abbrev pub held : List PastOrder → Kept → List PastOrder
held past (ordered order note) = cond (runs order) (started past order note) past
held past (asked note) = past
held past (heard message) = past
held past lost = past

-- the last order ended as this till says
abbrev pub followed : List PastOrder → TillState → List PastOrder
followed past state = elim (slice_get past (length past - 1)) [
  | None ↦ past
  | Some last ↦ slice_set past (length past - 1) (record last { outcome = ended state })
]

-- ---- references

abbrev pub is_noted_as : (reference : List ℕ) → PastOrder → Bool
is_noted_as reference past = is_noted_by reference past.note

-- the first order with this reference
abbrev pub first_noted : (reference : List ℕ) → List PastOrder → Option PastOrder
first_noted reference past = find (is_noted_as reference) past

-- ---- laws

-- an order keeps its words, and its outcome once it has ended
pub record StaysAs (old new : PastOrder) : Type 0 where
  pub order : new.order ≡ old.order
  pub note : new.note ≡ old.note
  pub outcome : (outcome : Outcome) → old.outcome ≡ Some outcome → new.outcome ≡ Some outcome

-- More records change nothing of an order that has ended.
abbrev pub PastOrdersStay : Type 0
PastOrdersStay =
    (settings : Settings) (kept more : List Kept) (old new : List PastOrder) → ArePast settings kept old → ArePast settings (kept ++ more) new
    → (index : ℕ) (one : PastOrder) → slice_get old index ≡ Some one → (later : PastOrder) × (slice_get new index ≡ Some later) × StaysAs one later

-- A payment that ended as paid has a row of its own in the till's book, with its amount and its numbers.
abbrev pub PaidAreBooked : Type 0
PaidAreBooked =
    (settings : Settings) (kept : List Kept) (state : TillState) (past : List PastOrder) → LivedThrough settings kept state → ArePast settings kept past
    → (index : ℕ) (one : PastOrder) → slice_get past index ≡ Some one → (amount trace : ℕ) (receipt : Option (List ℕ))
    → one.order ≡ Pay amount → one.outcome ≡ Some (Paid trace receipt)
    → (before after : List Booked) × (map row_of state.book ≡ before ++ booked_as amount trace receipt ∷ after)
