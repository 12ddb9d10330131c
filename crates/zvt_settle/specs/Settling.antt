-- A till that settles as a small state machine. The till inside makes its own steps.
use Rattle.std.specs.Prelude.{◌≡◌, ℕ, Bool, false, cond, not, ◌||◌, nat_eq, List, [], ◌∷◌, ◌++◌, length, Option, Some, None, map, fold, filter, option_map, option_and_then, option_to_list}
use Rattle.zvt_till.specs.declared.entries.Entry.{Entry}
use Rattle.zvt_till.specs.declared.happenings.Happening.{Happening}
use Rattle.zvt_till.specs.declared.happenings.Happening.TheVariants.{Connected, Sent as SentOut, Heard as HeardIn, Malformed, Lost}
use Rattle.zvt_till.specs.declared.messages.Heard.TheVariants.{Positive, Negative, Status, Passing, Completion, Abort, Strange}
use Rattle.zvt_till.specs.declared.messages.StatusFacts.{StatusFacts}
use Rattle.zvt_till.specs.declared.orders.Order.{Order}
use Rattle.zvt_till.specs.declared.orders.Order.TheVariants.{Register as RegisterOrder, Pay as PayOrder, Reverse as ReverseOrder, CloseDay as CloseDayOrder, Cancel as CancelOrder}
use Rattle.zvt_till.specs.declared.orders.OrderRefusal.{OrderRefusal}
use Rattle.zvt_till.specs.declared.orders.OrderRefusal.TheVariants.{Busy}
use Rattle.zvt_till.specs.declared.outcomes.Outcome.{Outcome}
use Rattle.zvt_till.specs.declared.outcomes.Outcome.TheVariants.{Registered, Paid as PaidOutcome, Declined, Refused, Aborted, Unclear, Reversed as ReversedOutcome, DayClosed}
use Rattle.zvt_till.specs.Laws.{trace_of}
use Rattle.zvt_till.specs.Outcomes.{trace_used}
use Rattle.zvt_till.specs.Refusals.{Facts, line_refusal, order_in}
use Rattle.zvt_till.specs.Segments.{ends, is_positive, status_of}
use Rattle.zvt_till.specs.Sending.{Settings}
use Rattle.zvt_till.specs.View.{IsRefusedAs}
use Rattle.zvt_till.specs.Till.{TillState, new_till, step, outcome_at}
use Rattle.zvt_settle.specs.declared.deciding.Pending.{Pending}
use Rattle.zvt_settle.specs.declared.deciding.Settlement.{Settlement}
use Rattle.zvt_settle.specs.declared.deciding.Settlement.TheVariants.{Paid, NotPaid, Reversed, NotReversed}
use Rattle.zvt_settle.specs.declared.deciding.StatusSoFar.{StatusSoFar}
use Rattle.zvt_settle.specs.declared.deciding.StatusSoFar.TheVariants.{Nothing}
use Rattle.zvt_settle.specs.declared.deciding.What.{What}
use Rattle.zvt_settle.specs.declared.deciding.What.TheVariants.{Payment, Reversal}
use Rattle.zvt_settle.specs.Deciding.{status_after, one_status, decision}

-- something happens on the line, or the till asks
pub data Note : Type 0 where
  Line : (h : Happening) → Note
  Asked : Note

-- what it knows beside the state of the till inside
pub record Settling : Type 0 where
  -- whether the terminal has accepted the running ask, if one is running
  pub asking : Option Bool
  pub so_far : StatusSoFar
  -- the status of the terminal's last transaction, if it is known
  pub last : Option StatusFacts
  pub pending : Option Pending
  pub settled : List Settlement

pub record Both : Type 0 where
  pub till : TillState
  pub settling : Settling

abbrev pub new_settling : Settling
new_settling = record { asking = None; so_far = Nothing; last = None; pending = None; settled = [] }

abbrev pub new_both : Settings → Both
new_both settings = record { till = new_till settings; settling = new_settling }

-- the trace number that a settlement counts
abbrev pub counted : Settlement → List ℕ
counted (Paid row trace receipt) = trace ∷ []
counted (NotPaid row) = []
counted (Reversed entry) = []
counted (NotReversed entry) = []

-- a settlement counts a payment with this number
abbrev pub counts : ℕ → Settlement → Bool
counts t (Paid row trace receipt) = nat_eq trace t
counts t (NotPaid row) = false
counts t (Reversed entry) = false
counts t (NotReversed entry) = false

abbrev pub paid_traces : List Settlement → List ℕ
paid_traces [] = []
paid_traces (s ∷ more) = counted s ++ paid_traces more

-- the trace numbers of the book and of the payments that were settled as paid
abbrev pub used_traces : List Entry → List Settlement → List ℕ
used_traces book settled = map trace_of book ++ paid_traces settled

-- the numbers of the payments that were settled as paid, unless an entry of the book has the number
abbrev pub standing : List Entry → List Settlement → List ℕ
standing book settled = filter (λ t. not (trace_used t book)) (paid_traces settled)

-- ---- orders

-- After an order, earlier statuses no longer count. After a payment, a reversal or an end of day, nothing is pending.
abbrev pub sent : Settling → Order → Settling
sent s RegisterOrder = record s { so_far = Nothing }
sent s (PayOrder a) = record s { so_far = Nothing; pending = None }
sent s (ReverseOrder e) = record s { so_far = Nothing; pending = None }
sent s CloseDayOrder = record s { so_far = Nothing; last = None; pending = None }
sent s CancelOrder = s

abbrev pub sent_if : Settling → Option Order → Settling
sent_if s None = s
sent_if s (Some order) = sent s order

-- what an unclear order leaves to settle; a payment stands at this index of the unclear payments
abbrev pub opened_by : Order → (place : ℕ) → Option What
opened_by RegisterOrder place = None
opened_by (PayOrder a) place = Some (Payment place a)
opened_by (ReverseOrder e) place = Some (Reversal e)
opened_by CloseDayOrder place = None
opened_by CancelOrder place = None

abbrev pub pending_as : What → StatusFacts → Pending
pending_as what before = record { what = what; before = before }

-- an unclear order can be settled if the last status before it is known; then the last status is unknown
abbrev pub opened : Settling → Option What → Settling
opened s None = s
opened s (Some what) = record s { last = None; pending = option_map (pending_as what) s.last }

-- after an order with this outcome
abbrev pub ended : Settling → Order → Outcome → (place : ℕ) → Settling
ended s order Registered place = s
ended s order (PaidOutcome t receipt) place = record s { last = one_status s.so_far }
ended s order (Declined c) place = s
ended s order (Refused c) place = s
ended s order (Aborted c) place = s
ended s order (Unclear cause) place = opened s (opened_by order place)
ended s order ReversedOutcome place = record s { last = one_status s.so_far }
ended s order DayClosed place = s

-- ---- asks

-- a completion after one status, which names a trace number, answers an ask
abbrev pub answer_by : StatusSoFar → Happening → Option StatusFacts
answer_by so_far Connected = None
answer_by so_far (SentOut o) = None
answer_by so_far (HeardIn Positive) = None
answer_by so_far (HeardIn (Negative c)) = None
answer_by so_far (HeardIn (Status s)) = None
answer_by so_far (HeardIn Passing) = None
answer_by so_far (HeardIn Completion) = one_status so_far
answer_by so_far (HeardIn (Abort c)) = None
answer_by so_far (HeardIn Strange) = None
answer_by so_far Malformed = None
answer_by so_far Lost = None

abbrev pub decided : TillState → List Settlement → StatusFacts → Option Pending → Option Settlement
decided till settled s pending = option_and_then (λ o. decision till.settings.currency till.book (used_traces till.book settled) o s) pending

-- An answer settles what is pending, or leaves it unclear for good.
abbrev pub answered : TillState → Settling → Option StatusFacts → Settling
answered till s None = record s { asking = None }
answered till s (Some a) = record s { asking = None; last = Some a; pending = None; settled = s.settled ++ option_to_list (decided till s.settled a s.pending) }

-- ---- what happens

abbrev pub so_far_in : StatusSoFar → Option StatusFacts → StatusSoFar
so_far_in so_far None = so_far
so_far_in so_far (Some s) = status_after so_far s

abbrev pub noted : Settling → Happening → Settling
noted s h = record s { so_far = so_far_in s.so_far (status_of h) }

-- while an ask runs
abbrev pub asked : TillState → Settling → Bool → Happening → Settling
asked till s positive h = cond (ends positive h) (answered till s (answer_by s.so_far h)) (record s { asking = Some (positive || is_positive h) })

abbrev pub ended_as : Settling → Option Order → Option Outcome → (place : ℕ) → Settling
ended_as s None outcome place = s
ended_as s (Some order) None place = s
ended_as s (Some order) (Some outcome) place = ended s order outcome place

-- while none runs
abbrev pub unasked : TillState → Settling → Happening → Settling
unasked till s h = ended_as s (option_map (λ r. r.order) till.running) (outcome_at till h) (length till.unclear)

abbrev pub met : TillState → Settling → Option Bool → Happening → Settling
met till s None h = unasked till s h
met till s (Some positive) h = asked till s positive h

abbrev pub meets : TillState → Settling → Happening → Settling
meets till s h = met till (noted s h) s.asking h

-- before the step of the till inside
abbrev pub settles : TillState → Settling → Happening → Settling
settles till s Connected = s
settles till s (SentOut o) = sent_if s (order_in o)
settles till s (HeardIn m) = cond till.line_up (meets till s (HeardIn m)) s
settles till s Malformed = meets till s Malformed
settles till s Lost = meets till s Lost

-- an ask is sent
abbrev pub asks : Settling → Settling
asks s = record s { asking = Some false; so_far = Nothing }

abbrev pub take : Both → Note → Both
take b (Line h) = record { till = step b.till h; settling = settles b.till b.settling h }
take b Asked = record b { settling = asks b.settling }

abbrev pub both_after : Settings → List Note → Both
both_after settings notes = fold take (new_both settings) notes

-- An ask is refused like an end of day: the line is down, the till is not registered, or an order runs. It is also refused
-- while another ask runs.
abbrev pub ask_refusal : Facts → Option Bool → Option OrderRefusal
ask_refusal f asking = elim asking [ None ↦ line_refusal f CloseDayOrder | Some positive ↦ Some Busy ]

-- the message of an ask: 06 20 with the password
abbrev pub ask_bytes : List ℕ → List ℕ
ask_bytes password = 6 ∷ 32 ∷ 3 ∷ password

-- an order is refused as the till inside refuses it, and with Busy while an ask runs
abbrev pub IsOrderRefusal : Option Bool → Facts → (spare : ℕ) → Order → OrderRefusal → Type 0
IsOrderRefusal None f spare order why = IsRefusedAs f spare order why
IsOrderRefusal (Some positive) f spare order why = why ≡ Busy
