-- The laws of every payment, every reversal and every book.
use Rattle.std.specs.Prelude.{◌≡◌, ℕ, ◌⊎◌, true, IsTrue, nat_eq, List, [], ◌∷◌, ◌++◌, Option, Some, None, map, slice_get}
use Rattle.std.specs.List.{list_any, IsDistinct}
use Rattle.zvt_till.specs.declared.happenings.Happening.{Happening}
use Rattle.zvt_till.specs.declared.happenings.Sent.TheVariants.{Pay, Reverse}
use Rattle.zvt_till.specs.declared.entries.Doubt.{Doubt}
use Rattle.zvt_till.specs.declared.entries.Doubt.TheVariants.{No, Unclear, TakenBack}
use Rattle.zvt_till.specs.declared.entries.Entry.{Entry}
use Rattle.zvt_till.specs.declared.outcomes.Cause.{Cause}
use Rattle.zvt_till.specs.declared.messages.StatusFacts.{StatusFacts}
use Rattle.zvt_till.specs.declared.orders.Order.TheVariants.{Reverse as ReverseOrder}
use Rattle.zvt_till.specs.Outcomes.{demand_of}
use Rattle.zvt_till.specs.Statuses.{Demand, Good, approves, class_of, is_absent, is_declined}
use Rattle.zvt_till.specs.Segments.{Segment, Ended, end_of, statuses}
use Rattle.zvt_till.specs.Books.{Books, Booked, booked_as, charge_of, judge, is_finished}
use Rattle.zvt_till.specs.Doubts.{reversing, doubt_after}
use Rattle.zvt_till.specs.Marks.{reverses}
use Rattle.zvt_till.specs.Log.{IsLog}
use Rattle.zvt_till.specs.Sending.{Settings}
use Rattle.zvt_till.specs.Till.{facts_of, state_after}
use Rattle.zvt_till.specs.declared.settings.Rules.{Rules}

-- one row more: a payment of this amount, booked or unclear for good
abbrev pub AddsPayment : ℕ → Books → Books → Type 0
AddsPayment amount b c =
    ((row : Booked) × (row.amount ≡ amount) × (c ≡ record { booked = b.booked ++ row ∷ []; unclear = b.unclear }))
    ⊎ ((cause : Cause) × IsTrue (is_finished cause) × (c ≡ record { booked = b.booked; unclear = b.unclear ++ (amount, cause) ∷ [] }))

-- a payment that has ended, and that some status approved before its end, leaves an entry or an unclear row
abbrev pub NoApprovalDropped : Type 0
NoApprovalDropped =
    (b : Books) (s : Segment) (amount trace : ℕ) (e : Ended)
    → s.opening.order ≡ Pay amount → end_of s.answers ≡ Some e → IsTrue (list_any (approves (charge_of s.opening amount) trace) (statuses e.before))
    → AddsPayment amount b (judge b s)

-- The effect of a reversal that has ended: its row is marked; or all statuses were declines, and the doubt stays or the
-- terminal reported with B4 that it had reversed the payment before; or it is unclear for good.
abbrev pub SettlesReversal : ℕ → Booked → Doubt → Segment → Ended → Type 0
SettlesReversal place row before s e =
    ((reverses place row s ≡ true) × (doubt_after place row before s ≡ No))
    ⊎ ((IsTrue (is_declined (map (class_of (reversing s.opening row)) (statuses e.before))) × ((doubt_after place row before s ≡ before) ⊎ (doubt_after place row before s ≡ TakenBack)))
    ⊎ ((cause : Cause) × IsTrue (is_finished cause) × (doubt_after place row before s ≡ Unclear cause)))

-- no reversal with an end is forgotten: it is marked, or known to have done nothing by itself, or unclear
abbrev pub NoReversalDropped : Type 0
NoReversalDropped =
    (place : ℕ) (row : Booked) (before : Doubt) (s : Segment) (e : Ended)
    → s.opening.order ≡ Reverse place → end_of s.answers ≡ Some e → SettlesReversal place row before s e

-- the doubt about an entry does not change until a reversal of that entry ends
abbrev pub DoubtsStay : Type 0
DoubtsStay =
    (place : ℕ) (row : Booked) (before : Doubt) (s : Segment)
    → ((s.opening.order ≡ Reverse place → ⊥) ⊎ (end_of s.answers ≡ None)) → doubt_after place row before s ≡ before

abbrev pub trace_of : Entry → ℕ
trace_of entry = entry.trace

-- whatever happens, no trace number appears twice in the book
abbrev pub TracesStayDistinct : Type 0
TracesStayDistinct = (settings : Settings) (log : List Happening) → IsDistinct nat_eq (map trace_of (state_after settings log).book)

-- the same settings but for the rules
abbrev pub with_rules : Rules → Settings → Settings
with_rules rules settings = record settings { rules = rules }

-- If two tills agree on reversals by receipt number, the other rules change nothing but the outcome of an end of day: each
-- can have the logs of the other, with the same book, marks and unclear payments, and accepts the same orders.
abbrev pub RulesKeepBooks : Type 0
RulesKeepBooks =
    (settings : Settings) (rules : Rules) (log : List Happening)
    → rules.reversal_by_receipt ≡ settings.rules.reversal_by_receipt
    → IsLog settings log
    → IsLog (with_rules rules settings) log × (facts_of (state_after (with_rules rules settings) log) ≡ facts_of (state_after settings log))

-- A status that answers the reversal of an entry and names no payment is no late answer to another order of this book: the
-- rule is stated, each entry of its amount has another receipt number, and no payment of its amount is unclear.
abbrev pub NoRepeatReverses : Type 0
NoRepeatReverses =
    (rules : Rules) (currency : Option ℕ) (book : List Entry) (unclear : List (ℕ × Cause)) (e : ℕ) (row : Entry) (d : Demand) (s : StatusFacts) (t : Option ℕ)
    → slice_get book e ≡ Some row
    → demand_of rules currency book unclear (ReverseOrder e) ≡ Some d
    → class_of d s ≡ Good t
    → is_absent s.original ≡ true
    → (rules.reversal_by_receipt ≡ true)
    × (s.amount ≡ Some row.amount)
    × ((i : ℕ) (other : Entry) → slice_get book i ≡ Some other → other.amount ≡ row.amount → other.receipt ≡ s.receipt → ⊥)
    × ((i : ℕ) (lost : ℕ × Cause) → slice_get unclear i ≡ Some lost → lost.0 ≡ row.amount → ⊥)

-- an entry without its mark
abbrev pub row_of : Entry → Booked
row_of entry = booked_as entry.amount entry.trace entry.receipt

abbrev pub Grows : List Booked → List Booked → Type 0
Grows before after = (more : List Booked) × (after ≡ before ++ more)

-- whatever happens next, each entry keeps its index, its amount, its trace number and its receipt number
abbrev pub EntriesStay : Type 0
EntriesStay =
    (settings : Settings) (log more : List Happening)
    → Grows (map row_of (state_after settings log).book) (map row_of (state_after settings (log ++ more)).book)
