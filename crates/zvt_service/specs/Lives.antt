-- The lives of a service: its calls, the ends of its process during a call and between calls, and what was sent.
use Rattle.std.specs.Prelude.{◌≡◌, ℕ, true, false, cond, List, [], ◌∷◌, ◌++◌, All, map, Option, Some, None, Result, Ok, Err}
use Rattle.std.specs.List.{IsDistinct}
use Rattle.std.specs.Str.{bytes_eq}
use Rattle.zvt_apdu.specs.Message.{Message}
use Rattle.zvt_stream.specs.Answered.{Answered}
use Rattle.zvt_till.specs.declared.keeper.BookFault.{BookFault}
use Rattle.zvt_till.specs.declared.keeper.Untaken.{Untaken}
use Rattle.zvt_till.specs.declared.orders.Order.{Order}
use Rattle.zvt_till.specs.declared.orders.Order.TheVariants.{Pay}
use Rattle.zvt_till.specs.declared.outcomes.Outcome.TheVariants.{Paid}
use Rattle.zvt_till.specs.Books.{Booked, booked_as}
use Rattle.zvt_till.specs.Laws.{row_of}
use Rattle.zvt_till.specs.declared.orders.Outgoing.{Outgoing}
use Rattle.zvt_journal.specs.Text.{recovered}
use Rattle.zvt_kept.specs.declared.past_orders.PastOrder.{PastOrder}
use Rattle.zvt_kept.specs.KeptTill.{IsKept, both_in, has_failed}
use Rattle.zvt_kept.specs.Notes.{reference_in}
use Rattle.zvt_kept.specs.PastOrders.{StaysAs, first_noted, runs}
use Rattle.zvt_service.specs.declared.service.Ungiven.{Ungiven}
use Rattle.zvt_service.specs.declared.fates.Fate.TheVariants.{Settled}
use Rattle.zvt_service.specs.declared.fates.Verdict.{Verdict}
use Rattle.zvt_service.specs.Books.{OrderIn}
use Rattle.zvt_service.specs.Service.{Asks, Connects, Gives, Hears, IsServed, Loses, ServiceValue, found_by, is_known, state_of}

-- A call of a service. An order and an ask have a note.
pub data Call : Type 0 where
  gives : (order : Order) → (note : List ℕ) → Call
  asks : (note : List ℕ) → Call
  hears : Call
  loses : Call
  connects : Call

abbrev pub one_or_none : Option (List ℕ) → List (List ℕ)
one_or_none None = []
one_or_none (Some key) = key ∷ []

-- the key in a note, if it has one
abbrev pub keys_in : (note : List ℕ) → List (List ℕ)
keys_in note = one_or_none (reference_in note)

-- The key of an order whose message was returned. The caller sends a message only if it was returned. A request to break
-- off the running order is sent for no key.
abbrev pub keys_of : Order → (note : List ℕ) → Result Outgoing Ungiven → List (List ℕ)
keys_of order note (Ok outgoing) = cond (runs order) (keys_in note) []
keys_of order note (Err why) = []

-- an order of some book has this key
abbrev pub IsKnown : {D : Type 0} (key : List ℕ) → ServiceValue D → Type 0
IsKnown key service = is_known key service ≡ true

-- An order stays the same, and its outcome too once it has ended. It stays in its book.
pub record StaysIn (old new : OrderIn) : Type 0 where
  pub past : StaysAs old.past new.past
  pub book : new.is_own ≡ old.is_own

-- What happens: a call returns, or the process ends during a call, or between calls. After its end a new process opens
-- the book that the old one left.
pub data Move : Type 0 where
  returns : (call : Call) → Move
  ends_in : (call : Call) → Move
  ends : Move

module _ {D : Type 0} (seen : D → List ℕ) (may_leave : D → List ℕ → Type 0) (moment : D → ℕ) (left_since : D → ℕ → List ℕ → Type 0) (faults : D → ℕ) where
  -- a call returned, with the keys of the orders that it hands out
  abbrev pub Returns : Call → (old new : ServiceValue D) → (sent : List (List ℕ)) → Type 0
  Returns (gives order note) old new sent = (result : Result Outgoing Ungiven) × Gives seen may_leave moment left_since faults order note old result new × (sent ≡ keys_of order note result)
  Returns (asks note) old new sent = (result : Result (List ℕ) Untaken) × Asks seen may_leave moment left_since faults note old result new × (sent ≡ [])
  Returns hears old new sent = (message : Message) × (answered : Answered) × Hears seen may_leave moment left_since faults old message answered new × (sent ≡ [])
  Returns loses old new sent = Loses seen may_leave moment left_since faults old new × (sent ≡ [])
  Returns connects old new sent = (result : Result Unit BookFault) × Connects seen may_leave moment left_since faults old result new × (sent ≡ [])

  -- a service whose journal has not failed: it is kept, and its orders are those of the journal
  pub record IsWhole (service : ServiceValue D) : Type 0 where
    pub whole : has_failed service.kept ≡ false
    pub kept : IsKept false (seen service.kept.standing.device) (may_leave service.kept.standing.device) service.kept.standing.gate (both_in service.kept.standing)
    pub served : IsServed seen service.kept service.past

  -- The process ended at a moment since the first of these services, and by the last of them. A new one, with the same
  -- settings and the same books of earlier days, opened the file that this left.
  pub record Reopens (since by new : ServiceValue D) : Type 0 where
    pub file : List ℕ
    pub left : left_since by.kept.standing.device (moment since.kept.standing.device) file
    pub found : recovered (seen new.kept.standing.device) ≡ recovered file
    pub settings : (state_of new.kept).settings ≡ (state_of since.kept).settings
    pub earlier : new.earlier ≡ since.earlier
    pub down : (state_of new.kept).line_up ≡ false
    pub is_whole : IsWhole new

  abbrev pub Moves : Move → (old new : ServiceValue D) → (sent : List (List ℕ)) → Type 0
  Moves (returns call) old new sent = Returns call old new sent × IsWhole new
  Moves (ends_in call) old new sent = (last : ServiceValue D) × (unsent : List (List ℕ)) × Returns call old last unsent × Reopens old last new × (sent ≡ [])
  Moves ends old new sent = Reopens old old new × (sent ≡ [])

  -- one move after another
  abbrev pub Lives : List Move → (old new : ServiceValue D) → (sent : List (List ℕ)) → Type 0
  Lives [] old new sent = (old ≡ new) × (sent ≡ [])
  Lives (move ∷ more) old new sent =
      (middle : ServiceValue D) × (first rest : List (List ℕ)) × Moves move old middle first × Lives more middle new rest × (sent ≡ first ++ rest)

  -- Whatever clients ask, however often, and whenever the process ends: no order is sent twice for a key, and none for
  -- a key that the service's own book or an earlier one knew before. Each key that was sent is known.
  abbrev pub SentOnce : Type 0
  SentOnce =
      (moves : List Move) (old new : ServiceValue D) (sent : List (List ℕ))
      → IsWhole old → Lives moves old new sent
      → IsDistinct bytes_eq sent × All (λ key. IsKnown key new) sent × All (λ key. IsKnown key old → ⊥) sent

  -- A key whose payment was answered as paid has a row of its own in the till's book, with that amount and those numbers.
  abbrev pub PaidIsBooked : Type 0
  PaidIsBooked =
      (service : ServiceValue D) (key : List ℕ) (one : PastOrder) (amount trace : ℕ) (receipt : Option (List ℕ))
      → IsWhole service → first_noted key service.past ≡ Some one → one.order ≡ Pay amount → one.outcome ≡ Some (Paid trace receipt)
      → (before after : List Booked) × (map row_of (state_of service.kept).book ≡ before ++ booked_as amount trace receipt ∷ after)

  -- How an order ended stays: whatever happens later, a client that asks again with the same key gets the same answer.
  abbrev pub AnswersStay : Type 0
  AnswersStay =
      (moves : List Move) (old new : ServiceValue D) (sent : List (List ℕ)) (key : List ℕ) (one : OrderIn)
      → IsWhole old → Lives moves old new sent → found_by key old ≡ Some one
      → (later : OrderIn) × (found_by key new ≡ Some later) × StaysIn one later

  -- A verdict, once there, stays: what was settled about a payment is told again, whatever happens later.
  abbrev pub VerdictsStay : Type 0
  VerdictsStay =
      (moves : List Move) (old new : ServiceValue D) (sent : List (List ℕ)) (key : List ℕ) (one : OrderIn) (verdict : Verdict)
      → IsWhole old → Lives moves old new sent → found_by key old ≡ Some one → one.fate ≡ Settled verdict
      → (later : OrderIn) × (found_by key new ≡ Some later) × (later.fate ≡ Settled verdict)
