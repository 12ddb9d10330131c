-- How an order ends: by the outcome that the till inside sees, and by its whole chapter.
use Rattle.std.proofs.Common.{◌≡◌, ℕ, Bool, true, false, cond, ◌&&◌, List, [], ◌∷◌, ◌++◌, Option, Some, None, fold, slice_get, option_map, option_and_then, refl, ap, ap₂, ◌∙◌, filter_map}
use Rattle.std.specs.List.{list_all}
use Rattle.std.proofs.lemmas.List.Elements.{filter_map-append}
use Rattle.zvt_till.specs.declared.entries.Doubt.TheVariants.{No}
use Rattle.zvt_till.specs.declared.entries.Entry.{Entry}
use Rattle.zvt_till.specs.declared.happenings.Happening.{Happening}
use Rattle.zvt_till.specs.declared.happenings.Happening.TheVariants.{Connected, Sent as SentOut, Heard as HeardIn, Malformed, Lost}
use Rattle.zvt_till.specs.declared.happenings.Sent.{Sent}
use Rattle.zvt_till.specs.declared.happenings.Sent.TheVariants.{Register, Pay, Reverse, CloseDay, Cancel, Foreign}
use Rattle.zvt_till.specs.declared.messages.Heard.TheVariants.{Positive, Negative, Status, Passing, Completion, Abort, Strange}
use Rattle.zvt_till.specs.declared.messages.StatusFacts.{StatusFacts}
use Rattle.zvt_till.specs.declared.orders.Order.{Order}
use Rattle.zvt_till.specs.declared.orders.Order.TheVariants.{Register as RegisterOrder, Pay as PayOrder, Reverse as ReverseOrder, CloseDay as CloseDayOrder, Cancel as CancelOrder}
use Rattle.zvt_till.specs.declared.outcomes.Cause.TheVariants.{TraceUsed}
use Rattle.zvt_till.specs.declared.outcomes.Outcome.{Outcome}
use Rattle.zvt_till.specs.declared.outcomes.Outcome.TheVariants.{Registered, Paid, Declined, Refused as RefusedOutcome, Aborted, Unclear as UnclearOutcome, Reversed, DayClosed}
use Rattle.zvt_till.specs.declared.statuses.Statuses.{Statuses}
use Rattle.zvt_till.specs.declared.statuses.Statuses.TheVariants.{Nothing as NoStatuses, Good as AllGood, Declining as AllDeclining, Fault}
use Rattle.zvt_till.specs.Books.{Booked, Books, charge_of, traces, verdict_at, judge_end, settled}
use Rattle.zvt_till.specs.Doubts.{doubt_end}
use Rattle.zvt_till.specs.Marks.{reverses_end}
use Rattle.zvt_till.specs.Outcomes.{trace_used, completion_outcome, broken_outcome, outcome_by}
use Rattle.zvt_till.specs.Segments.{Opening, Segment, Ended, is_completion, status_of, statuses, end_of}
use Rattle.zvt_settle.specs.declared.deciding.Pending.{Pending}
use Rattle.zvt_settle.specs.declared.deciding.StatusSoFar.{StatusSoFar}
use Rattle.zvt_settle.specs.declared.deciding.StatusSoFar.TheVariants.{Nothing, One, Mixed}
use Rattle.zvt_settle.specs.Deciding.{same, if_numbered, status_after, one_status}
use Rattle.zvt_settle.specs.Settling.{pending_as, answer_by, so_far_in}
use Rattle.zvt_settle.specs.Story.{one_said, completed_with, Left, Known, Doubted, AsBefore, left_by_verdict, left_by_doubt, left_by_reversal, left_as, closes, last_left, registers, what_of, pending_after}
use Rattle.zvt_settle.proofs.Chapters.{Sum, add_order}

-- ---- the statuses so far

mixed-stays : (ss : List StatusFacts) → fold status_after Mixed ss ≡ Mixed
mixed-stays [] = refl
mixed-stays (s ∷ ss) = mixed-stays ss

one-stays : (first : StatusFacts) (ss : List StatusFacts) → one_status (fold status_after (One first) ss) ≡ cond (list_all (same first) ss) (if_numbered first) None
one-stays first [] = refl
one-stays first (s ∷ ss) = by_same (same first s) (one-stays first ss)
  where
    by_same : (b : Bool) → one_status (fold status_after (One first) ss) ≡ cond (list_all (same first) ss) (if_numbered first) None
        → one_status (fold status_after (cond b (One first) Mixed) ss) ≡ cond (b && list_all (same first) ss) (if_numbered first) None
    by_same true e = e
    by_same false e = ap one_status (mixed-stays ss)

pub one-of-all : (ss : List StatusFacts) → one_status (fold status_after Nothing ss) ≡ one_said ss
one-of-all [] = refl
one-of-all (s ∷ ss) = one-stays s ss

noted-option : (x : StatusSoFar) (ss : List StatusFacts) (o : Option StatusFacts) → fold status_after x (ss ++ filter_map (λ y. y) (o ∷ [])) ≡ so_far_in (fold status_after x ss) o
noted-option x [] None = refl
noted-option x [] (Some s) = refl
noted-option x (t ∷ ss) o = noted-option (status_after x t) ss o

pub noted-snoc : (hs : List Happening) (h : Happening) → fold status_after Nothing (statuses (hs ++ h ∷ [])) ≡ so_far_in (fold status_after Nothing (statuses hs)) (status_of h)
noted-snoc hs h = ap (fold status_after Nothing) (filter_map-append status_of hs (h ∷ [])) ∙ noted-option Nothing (statuses hs) (status_of h)

-- an answer is the one status before a completion
pub answer-said : (x : StatusSoFar) (h : Happening) → answer_by (so_far_in x (status_of h)) h ≡ cond (is_completion h) (one_status x) None
answer-said x Connected = refl
answer-said x (SentOut o) = refl
answer-said x (HeardIn Positive) = refl
answer-said x (HeardIn (Negative c)) = refl
answer-said x (HeardIn (Status s)) = refl
answer-said x (HeardIn Passing) = refl
answer-said x (HeardIn Completion) = refl
answer-said x (HeardIn (Abort c)) = refl
answer-said x (HeardIn Strange) = refl
answer-said x Malformed = refl
answer-said x Lost = refl

pub completion-silent : (x : StatusSoFar) (h : Happening) → is_completion h ≡ true → so_far_in x (status_of h) ≡ x
completion-silent x Connected e = refl
completion-silent x (SentOut o) e = refl
completion-silent x (HeardIn Positive) e = refl
completion-silent x (HeardIn (Negative c)) e = refl
completion-silent x (HeardIn (Status s)) e = absurd cc
completion-silent x (HeardIn Passing) e = refl
completion-silent x (HeardIn Completion) e = refl
completion-silent x (HeardIn (Abort c)) e = refl
completion-silent x (HeardIn Strange) e = refl
completion-silent x Malformed e = refl
completion-silent x Lost e = refl

-- ---- the outcomes that each order can have

abbrev pub left_of : Outcome → Left
left_of Registered = AsBefore
left_of (Paid t r) = Known
left_of (Declined c) = AsBefore
left_of (RefusedOutcome c) = AsBefore
left_of (Aborted c) = AsBefore
left_of (UnclearOutcome cause) = Doubted
left_of Reversed = Known
left_of DayClosed = AsBefore

abbrev Pays : Order → Type 0
Pays RegisterOrder = ⊥
Pays (PayOrder a) = Unit {0}
Pays (ReverseOrder e) = ⊥
Pays CloseDayOrder = ⊥
Pays CancelOrder = ⊥

abbrev Reverses : Order → Type 0
Reverses RegisterOrder = ⊥
Reverses (PayOrder a) = ⊥
Reverses (ReverseOrder e) = Unit {0}
Reverses CloseDayOrder = ⊥
Reverses CancelOrder = ⊥

-- only a payment is paid, and only a reversal reversed, both by a completion
abbrev pub Proper : Order → Happening → Outcome → Type 0
Proper order h Registered = Unit {0}
Proper order h (Paid t r) = Pays order × (is_completion h ≡ true)
Proper order h (Declined c) = Unit {0}
Proper order h (RefusedOutcome c) = Unit {0}
Proper order h (Aborted c) = Unit {0}
Proper order h (UnclearOutcome cause) = Unit {0}
Proper order h Reversed = Reverses order × (is_completion h ≡ true)
Proper order h DayClosed = Unit {0}

proper-completed : (book : List Entry) (order : Order) (st : Statuses) → Proper order (HeardIn Completion) (completion_outcome book order st)
proper-completed book RegisterOrder st = tt
proper-completed book (PayOrder a) NoStatuses = tt
proper-completed book (PayOrder a) (AllGood None r) = tt
proper-completed book (PayOrder a) (AllGood (Some t) r) = by_use (trace_used t book)
  where
    by_use : (b : Bool) → Proper (PayOrder a) (HeardIn Completion) (cond b (UnclearOutcome TraceUsed) (Paid t r))
    by_use true = tt
    by_use false = (tt, refl)
proper-completed book (PayOrder a) (AllDeclining c) = tt
proper-completed book (PayOrder a) (Fault cause) = tt
proper-completed book (ReverseOrder e) NoStatuses = tt
proper-completed book (ReverseOrder e) (AllGood t r) = (tt, refl)
proper-completed book (ReverseOrder e) (AllDeclining c) = tt
proper-completed book (ReverseOrder e) (Fault cause) = tt
proper-completed book CloseDayOrder NoStatuses = tt
proper-completed book CloseDayOrder (AllGood t r) = tt
proper-completed book CloseDayOrder (AllDeclining c) = tt
proper-completed book CloseDayOrder (Fault cause) = tt
proper-completed book CancelOrder NoStatuses = tt
proper-completed book CancelOrder (AllGood t r) = tt
proper-completed book CancelOrder (AllDeclining c) = tt
proper-completed book CancelOrder (Fault cause) = tt

proper-broken : (order : Order) (h : Happening) (st : Statuses) (out : Outcome) → Proper order h out → Proper order h (broken_outcome st out)
proper-broken order h NoStatuses out p = p
proper-broken order h (AllGood t r) out p = tt
proper-broken order h (AllDeclining c) out p = p
proper-broken order h (Fault cause) out p = tt

pub proper : (book : List Entry) (order : Order) (st : Statuses) (h : Happening) → Proper order h (outcome_by book order st h)
proper book order st Connected = tt
proper book order st (SentOut o) = tt
proper book order st (HeardIn Positive) = tt
proper book order st (HeardIn (Negative c)) = proper-broken order (HeardIn (Negative c)) st (RefusedOutcome c) tt
proper book order st (HeardIn (Status s)) = tt
proper book order st (HeardIn Passing) = tt
proper book order st (HeardIn Completion) = proper-completed book order st
proper book order st (HeardIn (Abort c)) = proper-broken order (HeardIn (Abort c)) st (Aborted c) tt
proper book order st (HeardIn Strange) = tt
proper book order st Malformed = tt
proper book order st Lost = tt

pub known-completes : (order : Order) (h : Happening) (out : Outcome) → Proper order h out → left_of out ≡ Known → is_completion h ≡ true
known-completes order h Registered p e = absurd cc
known-completes order h (Paid t r) p e = p.1
known-completes order h (Declined c) p e = absurd cc
known-completes order h (RefusedOutcome c) p e = absurd cc
known-completes order h (Aborted c) p e = absurd cc
known-completes order h (UnclearOutcome cause) p e = absurd cc
known-completes order h Reversed p e = p.1
known-completes order h DayClosed p e = absurd cc

-- ---- a chapter by its end

abbrev pub left_end_reversal : (entry : ℕ) → Opening → Option Ended → Option Booked → Left
left_end_reversal entry op end None = AsBefore
left_end_reversal entry op end (Some row) = cond (reverses_end entry row op end) Known (left_by_doubt (doubt_end entry row No op end))

abbrev pub left_end : Sent → Books → Opening → Option Ended → Left
left_end (Register c) b op end = AsBefore
left_end (Pay a) b op end = left_by_verdict (verdict_at (charge_of op a) (traces b.booked) end)
left_end (Reverse e) b op end = left_end_reversal e op end (slice_get b.booked e)
left_end CloseDay b op end = AsBefore
left_end Cancel b op end = AsBefore
left_end Foreign b op end = AsBefore

abbrev pub last_end : Left → Option StatusFacts → Sent → Option Ended → Option StatusFacts
last_end Known last o end = completed_with end
last_end Doubted last o end = None
last_end AsBefore last o end = cond (closes o) None last

abbrev pub pending_end : Left → Books → Option StatusFacts → Sent → Option Pending
pending_end Known b last o = None
pending_end Doubted b last o = option_and_then (λ what. option_map (pending_as what) last) (what_of o b)
pending_end AsBefore b last o = None

abbrev pub order_end : Sum → Opening → Option Ended → Sum
order_end s op end =
    record {
      books = judge_end s.books op end;
      last = last_end (left_end op.order s.books op end) s.last op.order end;
      pending = cond (registers op.order) s.pending (pending_end (left_end op.order s.books op end) s.books s.last op.order);
      settled = s.settled;
      asks = false;
    }

abbrev seg : Opening → List Happening → Segment
seg op hs = record { opening = op; answers = hs }

reversal-alike : (entry : ℕ) (op : Opening) (hs : List Happening) (row : Option Booked) → left_by_reversal entry (seg op hs) row ≡ left_end_reversal entry op (end_of hs) row
reversal-alike entry op hs None = refl
reversal-alike entry op hs (Some row) = refl

left-alike : (o : Sent) (b : Books) (op : Opening) (hs : List Happening) → left_as o b (seg op hs) ≡ left_end o b op (end_of hs)
left-alike (Register c) b op hs = refl
left-alike (Pay a) b op hs = refl
left-alike (Reverse e) b op hs = reversal-alike e op hs (slice_get b.booked e)
left-alike CloseDay b op hs = refl
left-alike Cancel b op hs = refl
left-alike Foreign b op hs = refl

last-alike : (left : Left) (last : Option StatusFacts) (op : Opening) (hs : List Happening) → last_left left last (seg op hs) ≡ last_end left last op.order (end_of hs)
last-alike Known last op hs = refl
last-alike Doubted last op hs = refl
last-alike AsBefore last op hs = refl

pending-alike : (left : Left) (b : Books) (last : Option StatusFacts) (op : Opening) (hs : List Happening) → pending_after left b last (seg op hs) ≡ pending_end left b last op.order
pending-alike Known b last op hs = refl
pending-alike Doubted b last op hs = refl
pending-alike AsBefore b last op hs = refl

pub add-ended : (s : Sum) (op : Opening) (hs : List Happening) (end : Option Ended) → end_of hs ≡ end → add_order s (seg op hs) ≡ order_end s op end
add-ended s op hs end e =
    let left = left-alike op.order s.books op hs in
    ap₂ (λ last pending. record { books = judge_end s.books op (end_of hs); last = last; pending = cond (registers op.order) s.pending pending; settled = s.settled; asks = false })
    (last-alike (left_as op.order s.books (seg op hs)) s.last op hs ∙ ap (λ x. last_end x s.last op.order (end_of hs)) left)
    (pending-alike (left_as op.order s.books (seg op hs)) s.books s.last op hs ∙ ap (λ x. pending_end x s.books s.last op.order) left)
    ∙ ap (order_end s op) e
