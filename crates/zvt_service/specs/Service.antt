-- A till with a book whose orders have keys, and what each of its calls does.
use Rattle.std.specs.Prelude.{◌≡◌, ◌⊎◌, ℕ, Bool, true, false, cond, List, [], ◌∷◌, ◌++◌, Option, Some, None, is_some, Result, Ok, Err}
use Rattle.zvt_apdu.specs.Message.{Message}
use Rattle.zvt_stream.specs.Answered.{Answered}
use Rattle.zvt_till.specs.declared.keeper.BookFault.{BookFault}
use Rattle.zvt_till.specs.declared.keeper.Untaken.{Untaken}
use Rattle.zvt_till.specs.declared.orders.Order.{Order}
use Rattle.zvt_till.specs.declared.orders.Outgoing.{Outgoing}
use Rattle.zvt_till.specs.Sending.{Settings}
use Rattle.zvt_till.specs.Till.{TillState}
use Rattle.zvt_journal.specs.Text.{recovered}
use Rattle.zvt_kept.specs.declared.past_orders.PastOrder.{PastOrder}
use Rattle.zvt_kept.specs.declared.recovery.Recovered.{Recovered}
use Rattle.zvt_kept.specs.Keeping.{kept_asks, kept_connects, kept_orders}
use Rattle.zvt_kept.specs.KeptTill.{Hears as KeptHears, KeptValue, LosesLine, both_in, has_failed, kept_rests, no_answer, with_note}
use Rattle.zvt_kept.specs.Notes.{reference_in}
use Rattle.zvt_kept.specs.PastOrders.{ArePast, followed, held}
use Rattle.zvt_kept.specs.Records.{Kept, ordered, lost, kept_in}
use Rattle.zvt_service.specs.declared.service.Ungiven.{Ungiven}
use Rattle.zvt_service.specs.declared.service.Ungiven.TheVariants.{Known, Memory, Till as TillRefused}
use Rattle.zvt_service.specs.Books.{OrderIn, in_books}

-- a service, as contracts see it: its till with a journal, the orders of the journal, and the books of earlier days
pub record ServiceValue (D : Type 0) : Type 0 where
  pub kept : KeptValue D
  pub past : List PastOrder
  pub earlier : List Recovered

abbrev pub state_of : {D : Type 0} → KeptValue D → TillState
state_of kept = kept.standing.till.state

-- a service is at rest while neither an order nor an ask is running
abbrev pub rests : {D : Type 0} → ServiceValue D → Bool
rests service = kept_rests service.kept

-- after the last record the line was lost, if it is down
abbrev pub unless_lost : (up : Bool) → List Kept
unless_lost up = cond up [] (lost ∷ [])

-- The records of a text start these orders, and each ended as they say.
pub record HasPast (settings : Settings) (text : List ℕ) (up : Bool) (past : List PastOrder) : Type 0 where
  pub kept : List Kept
  pub read : kept_in text ≡ Some kept
  pub are : ArePast settings (kept ++ unless_lost up) past

-- The orders are those of the journal, unless it failed.
abbrev pub IsServed : {D : Type 0} (seen : D → List ℕ) → KeptValue D → List PastOrder → Type 0
IsServed seen kept past = has_failed kept ≡ false → HasPast (state_of kept).settings (recovered (seen kept.standing.device)) (state_of kept).line_up past

-- ---- keys

-- the order with this key
abbrev pub found_by : {D : Type 0} (key : List ℕ) → ServiceValue D → Option OrderIn
found_by key service = in_books key (both_in service.kept.standing) service.past service.earlier

-- an order of some book has this key
abbrev pub is_known : {D : Type 0} (key : List ℕ) → ServiceValue D → Bool
is_known key service = is_some (found_by key service)

abbrev pub is_any_known : {D : Type 0} (key : Option (List ℕ)) → ServiceValue D → Bool
is_any_known None service = false
is_any_known (Some key) service = is_known key service

-- The key of an order is the reference in its note. An order of some book has the key of this note, if it has one.
abbrev pub is_held : {D : Type 0} (note : List ℕ) → ServiceValue D → Bool
is_held note service = is_any_known (reference_in note) service

-- ---- calls

-- the orders once the till has lived on, unless the journal failed
abbrev pub unless_failed : (failed : Bool) (past next : List PastOrder) → List PastOrder
unless_failed failed past next = cond failed past next

module _ {D : Type 0} (seen : D → List ℕ) (may_leave : D → List ℕ → Type 0) (moment : D → ℕ) (left_since : D → ℕ → List ℕ → Type 0) (faults : D → ℕ) where
  -- The till was given an order with this note. It is not given one whose key an earlier order has.
  abbrev pub Gives : Order → (note : List ℕ) → (old : ServiceValue D) → Result Outgoing Ungiven → (new : ServiceValue D) → Type 0
  Gives order note old (Ok outgoing) new =
      (is_held note old ≡ false) × kept_orders seen may_leave moment left_since faults (with_note old.kept note) order (Ok outgoing) new.kept
      × (new.past ≡ followed (held old.past (ordered order note)) (state_of new.kept)) × (new.earlier ≡ old.earlier)
  Gives order note old (Err Known) new = (is_held note old ≡ true) × (new ≡ old)
  Gives order note old (Err Memory) new = (is_held note old ≡ false) × (new ≡ old)
  Gives order note old (Err (TillRefused why)) new =
      (is_held note old ≡ false) × kept_orders seen may_leave moment left_since faults (with_note old.kept note) order (Err why) new.kept × (new.past ≡ old.past)
      × (new.earlier ≡ old.earlier)

  -- The till asked its terminal.
  abbrev pub Asks : (note : List ℕ) → (old : ServiceValue D) → Result (List ℕ) Untaken → (new : ServiceValue D) → Type 0
  Asks note old (Ok bytes) new =
      kept_asks seen may_leave moment left_since faults (with_note old.kept note) (Ok bytes) new.kept × (new.past ≡ followed old.past (state_of new.kept)) × (new.earlier ≡ old.earlier)
  Asks note old (Err why) new =
      kept_asks seen may_leave moment left_since faults (with_note old.kept note) (Err why) new.kept × (new.past ≡ old.past) × (new.earlier ≡ old.earlier)

  -- The till heard a message. Nothing is heard on a line that is down.
  abbrev pub Hears : (old : ServiceValue D) → Message → Answered → (new : ServiceValue D) → Type 0
  Hears old message answered new =
      (((state_of old.kept).line_up ≡ false) × (new ≡ old) × (answered ≡ no_answer seen may_leave moment left_since faults))
      ⊎ (((state_of old.kept).line_up ≡ true) × KeptHears seen may_leave moment left_since faults old.kept message answered new.kept
      × (new.past ≡ unless_failed (has_failed new.kept) old.past (followed old.past (state_of new.kept))) × (new.earlier ≡ old.earlier))

  -- The line was lost. Nothing changes if it was down.
  abbrev pub Loses : (old new : ServiceValue D) → Type 0
  Loses old new =
      (((state_of old.kept).line_up ≡ false) × (new ≡ old))
      ⊎ (((state_of old.kept).line_up ≡ true) × LosesLine seen may_leave moment left_since faults old.kept new.kept × (new.past ≡ followed old.past (state_of new.kept))
      × (new.earlier ≡ old.earlier))

  -- A line is up.
  abbrev pub Connects : (old : ServiceValue D) → Result Unit BookFault → (new : ServiceValue D) → Type 0
  Connects old result new = kept_connects seen may_leave moment left_since faults old.kept result new.kept × (new.past ≡ old.past) × (new.earlier ≡ old.earlier)
