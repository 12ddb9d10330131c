-- A till that settles and its journal, and what each of their steps makes durable.
use Rattle.std.specs.Prelude.{◌≡◌, ◌⊎◌, ◌<◌, ◌≤◌, ◌^◌, ℕ, ◌+◌, Bool, true, false, cond, List, [], ◌∷◌, ◌++◌, Option, Some, None, is_some, Result, Ok, Err, IfOk, IfErr, OnErr}
use Rattle.zvt_apdu.specs.Message.{Message}
use Rattle.zvt_stream.specs.Answered.{Answered}
use Rattle.zvt_till.specs.declared.happenings.Happening.{Happening}
use Rattle.zvt_till.specs.declared.happenings.Happening.TheVariants.{Connected, Sent as SentOut, Lost}
use Rattle.zvt_till.specs.declared.keeper.BookFault.TheVariants.{NoSpace, Failed as BookFailed}
use Rattle.zvt_till.specs.declared.keeper.Untaken.{Untaken}
use Rattle.zvt_till.specs.declared.keeper.Untaken.TheVariants.{Order as Refused, Book as Unkept}
use Rattle.zvt_till.specs.declared.orders.Order.{Order}
use Rattle.zvt_till.specs.declared.orders.Outgoing.{Outgoing}
use Rattle.zvt_till.specs.Events.{hears}
use Rattle.zvt_till.specs.Line.{till_hears, till_loses}
use Rattle.zvt_till.specs.Numbers.{numbers_begun}
use Rattle.zvt_till.specs.Refusals.{refusal, sent_as}
use Rattle.zvt_till.specs.Sending.{Settings, message_of}
use Rattle.zvt_till.specs.Till.{accept, facts_of, step}
use Rattle.zvt_till.specs.TillHistory.{Stands}
use Rattle.zvt_till.specs.View.{TillValue, KeepsHeard}
use Rattle.zvt_settle.specs.declared.settling.SettlingTill.{SettlingTill}
use Rattle.zvt_settle.specs.Askers.{AcceptsAsk, IsAskRefusedAs, LosesAsk, both_as, both_rest}
use Rattle.zvt_settle.specs.Inside.{settling_of}
use Rattle.zvt_settle.specs.Settling.{Both, Line, Note, Settling, ask_refusal, both_after, sent, take, IsOrderRefusal}
use Rattle.zvt_journal.specs.Text.{recovered, IsSettled, IsWithOrWithout}
use Rattle.zvt_journal.specs.Device.{LeavesOnly}
use Rattle.zvt_journal.specs.Files.{IsRepairable}
use Rattle.zvt_journal.specs.declared.device.DeviceError.{DeviceError}
use Rattle.zvt_journal.specs.declared.device.DeviceError.TheVariants.{Memory, Failed, Full}
use Rattle.zvt_kept.specs.Records.{Kept, IsRecordOf, ask_record, asked, heard, kept_in, lost, order_record, ordered}
use Rattle.zvt_kept.specs.Logs.{MeanAll, StandsFor, on_line, opening_of}

-- a till and what it settles, and the device and the gate of its journal
pub record Standing (D : Type 0) : Type 0 where
  pub till : TillValue
  pub settling : Settling
  pub device : D
  pub gate : ℕ

abbrev pub standing_of : {D : Type 0} → SettlingTill → (device : D) → (gate : ℕ) → Standing D
standing_of till device gate = record { till = till.till; settling = settling_of till; device = device; gate = gate }

abbrev pub both_in : {D : Type 0} → Standing D → Both
both_in k = both_as k.till k.settling

-- a till with a journal, as contracts see it
pub record KeptValue (D : Type 0) : Type 0 where
  pub standing : Standing D
  -- why the journal failed, if it did
  pub failure : Option DeviceError
  -- the note of the next order
  pub note : List ℕ

-- the till, without its journal
abbrev pub till_of : {D : Type 0} → KeptValue D → TillValue
till_of kept = kept.standing.till

abbrev pub settling_in : {D : Type 0} → KeptValue D → Settling
settling_in kept = kept.standing.settling

abbrev pub with_note : {D : Type 0} → KeptValue D → List ℕ → KeptValue D
with_note kept note = record kept { note = note }

-- a till with a journal is at rest while neither an order nor an ask is running
abbrev pub kept_rests : {D : Type 0} → KeptValue D → Bool
kept_rests kept = both_rest (both_in kept.standing)

abbrev pub has_failed : {D : Type 0} → KeptValue D → Bool
has_failed kept = is_some kept.failure

-- the events of a till beyond its journal's log: the loss of its line, while that is down
abbrev pub unless_up : Bool → List Happening
unless_up up = cond up [] (Lost ∷ [])

-- A till that settles has the state after these records and, if its line is down, after losing it.
abbrev pub Settles : Settings → (text : List ℕ) → Both → Type 0
Settles settings text both =
    (kept : List Kept) (notes : List Note) → kept_in text ≡ Some kept → MeanAll settings.currency kept notes → both ≡ both_after settings ((Line Connected ∷ notes) ++ on_line (unless_up both.till.line_up))

-- The file is completely on the disk and represents this log. The till has the state after the log and, if its line is
-- down, after losing it. What it has settled follows from the records.
pub record Keeps (settings : Settings) (log : List Happening) (seen : List ℕ) (may_leave : List ℕ → Type 0) (gate : ℕ) (both : Both) : Type 0 where
  pub settled : IsSettled seen may_leave gate
  pub recorded : StandsFor settings (recovered seen) log
  pub stands : Stands settings (log ++ unless_up both.till.line_up) both.till
  pub settles : Settles settings (recovered seen) both

-- the journal keeps some log of the till
abbrev pub KeepsSome : (seen : List ℕ) → (may_leave : List ℕ → Type 0) → (gate : ℕ) → Both → Type 0
KeepsSome seen may_leave gate both = (log : List Happening) × Keeps both.till.settings log seen may_leave gate both

-- The journal contains the events and the asks of the till. Once it has failed, the line is down and stays down.
abbrev pub IsKept : (failed : Bool) → (seen : List ℕ) → (may_leave : List ℕ → Type 0) → (gate : ℕ) → Both → Type 0
IsKept false seen may_leave gate both = KeepsSome seen may_leave gate both
IsKept true seen may_leave gate both = both.till.line_up ≡ false

-- a crash leaves a file that represents the log before, or that log and the new events
abbrev pub LeavesLogs : Settings → (before happened : List Happening) → List ℕ → Type 0
LeavesLogs settings before happened file =
    StandsFor settings (recovered file) before ⊎ StandsFor settings (recovered file) (before ++ happened)

-- The cause of a record that was not made durable: the disk failed once more, or the journal has 2^60 bytes. An
-- allocation may always fail.
abbrev pub HasCause : DeviceError → (faults_before faults_after gate : ℕ) → Type 0
HasCause Failed before after gate = before < after
HasCause Full before after gate = 2 ^ 60 ≤ gate
HasCause Memory before after gate = Unit {0}

-- the records were extended by the record of an order, with this note
abbrev pub HasNoted : {D : Type 0} (seen : D → List ℕ) → Order → (note : List ℕ) → (old new : D) → Type 0
HasNoted seen order note old new = (sent : List ℕ) × (recovered (seen new) ≡ recovered (seen old) ++ order_record order note sent)

module _ {D : Type 0} (seen : D → List ℕ) (may_leave : D → List ℕ → Type 0) (moment : D → ℕ) (left_since : D → ℕ → List ℕ → Type 0) (faults : D → ℕ) where
  -- A text was to be made durable. A crash at any moment leaves the text before, with this one or without, in a file that opening
  -- repairs.
  pub record Adds (added : List ℕ) (old new : D) (gate_before gate : ℕ) (result : Result Unit DeviceError) : Type 0 where
    pub durable : IfOk result (λ _. (recovered (seen new) ≡ recovered (seen old) ++ added) × IsSettled (seen new) (may_leave new) gate)
    pub leaves : LeavesOnly moment left_since old new (IsWithOrWithout (recovered (seen old)) added)
    pub repairable : LeavesOnly moment left_since old new IsRepairable
    pub later : faults old ≤ faults new
    pub cause : IfErr result (λ why. HasCause why (faults old) (faults new) gate)
    -- the gate, which is the size of the records, stays the same after an error
    pub stays : OnErr result (gate ≡ gate_before)

  -- A record was to be made durable.
  pub record Recorded (one : Kept) (old new : D) (gate_before gate : ℕ) (result : Result Unit DeviceError) : Type 0 where
    pub added : List ℕ
    pub is : IsRecordOf one added
    pub adds : Adds added old new gate_before gate result

  -- A journal was begun on a device without records, which became the other device. A crash at any moment leaves no
  -- record, or the opening, in a file that opening repairs.
  pub record Begins (settings : Settings) (old new : D) : Type 0 where
    pub leaves : LeavesOnly moment left_since old new (IsWithOrWithout [] (opening_of settings))
    pub repairable : LeavesOnly moment left_since old new IsRepairable

  -- The journal fails only by a fault of its disk between the two, or by its bound.
  abbrev pub FailsOnlyBy : DeviceError → (old new : Standing D) → Type 0
  FailsOnlyBy why old new = HasCause why (faults old.device) (faults new.device) new.gate

  -- the journal keeps this log of the till
  abbrev pub HasLog : Settings → List Happening → Standing D → Type 0
  HasLog settings log k = Keeps settings log (seen k.device) (may_leave k.device) k.gate (both_in k)

  -- A crash at any moment from old to new leaves the log, or the log and the new events.
  abbrev pub Outlives : (Settings → List Happening) → (old new : Standing D) → Type 0
  Outlives happened old new =
      (settings : Settings) (log : List Happening) → HasLog settings log old → LeavesOnly moment left_since old.device new.device (LeavesLogs settings log (happened settings))

  -- the events are in the journal's log
  abbrev pub Logs : (Settings → List Happening) → (old new : Standing D) → Type 0
  Logs happened old new = (settings : Settings) (log : List Happening) → HasLog settings log old → HasLog settings (log ++ happened settings) new

  abbrev pub order_sent : Order → Settings → List Happening
  order_sent order settings = SentOut (sent_as settings.currency order) ∷ []

  abbrev pub message_heard : Message → Settings → List Happening
  message_heard message settings = hears message ∷ []

  abbrev pub no_event : Settings → List Happening
  no_event settings = []

  abbrev pub line_changed : Settings → List Happening
  line_changed settings = Lost ∷ Connected ∷ []

  -- A record was to be made durable by one step of the till.
  abbrev pub Writes : Kept → (old new : Standing D) → Result Unit DeviceError → Type 0
  Writes one old new result = Recorded one old.device new.device old.gate new.gate result

  -- The record of some message was to be made durable.
  abbrev pub WritesMessage : (old new : Standing D) → Result Unit DeviceError → Type 0
  WritesMessage old new result = (bytes : List ℕ) × Writes (heard bytes) old new result

  -- An order was accepted, and its record is durable.
  pub record Ordered (order : Order) (outgoing : Outgoing) (old new : Standing D) : Type 0 where
    pub taken : refusal (facts_of old.till.state) order ≡ None
    pub message : message_of old.till.state.settings old.till.state.book order ≡ Some outgoing
    pub runs : new.till.state ≡ accept old.till.state order
    pub idle : old.settling.asking ≡ None
    pub settling : new.settling ≡ sent old.settling order
    pub room : old.till.spare ≤ new.till.spare
    pub numbers : new.till.numbers ≡ numbers_begun old.till.numbers order
    pub heard : new.till.heard ≡ old.till.heard
    pub logs : Logs (order_sent order) old new
    pub outlives : Outlives (order_sent order) old new
    pub later : faults old.device ≤ faults new.device

  -- An order was accepted, and the journal failed. The till is notified of a lost line.
  pub record OrderLost (order : Order) (why : DeviceError) (old new : Standing D) : Type 0 where
    pub cause : FailsOnlyBy why old new
    pub stays : new.gate ≡ old.gate
    pub taken : refusal (facts_of old.till.state) order ≡ None
    pub lost : new.till.state ≡ step (accept old.till.state order) Lost
    pub both : both_in new ≡ take (record { till = accept old.till.state order; settling = sent old.settling order }) (Line Lost)
    pub room : old.till.spare ≤ new.till.spare + 1
    pub numbers : new.till.numbers ≡ numbers_begun old.till.numbers order
    pub heard : KeepsHeard old.till new.till
    pub outlives : Outlives (order_sent order) old new

  -- The disk has no room for records: the file and the records in it are as before, at each moment.
  pub record IsFull (old new : Standing D) : Type 0 where
    pub cause : faults old.device < faults new.device
    pub file : seen new.device ≡ seen old.device
    pub settled : IsSettled (seen new.device) (may_leave new.device) new.gate
    pub leaves : LeavesOnly moment left_since old.device new.device (λ file. file ≡ seen old.device)
    pub stays : new.gate ≡ old.gate

  -- An order would be accepted, but the disk has no room for its records. It has no effect: the till is as before,
  -- apart from capacity that it may have gained.
  pub record FindsNoSpace (order : Order) (old new : Standing D) : Type 0 where
    pub taken : refusal (facts_of old.till.state) order ≡ None
    pub state : new.till.state ≡ old.till.state
    pub settling : new.settling ≡ old.settling
    pub room : old.till.spare ≤ new.till.spare
    pub numbers : new.till.numbers ≡ old.till.numbers
    pub heard : new.till.heard ≡ old.till.heard
    pub full : IsFull old new

  -- The result of an order, and why the journal failed before and after it, if it did.
  abbrev pub Orders : Order → (note : List ℕ) → (old new : Standing D) → (was is : Option DeviceError) → Result Outgoing Untaken → Type 0
  Orders order note old new was is (Ok outgoing) = Ordered order outgoing old new × (is ≡ was) × HasNoted seen order note old.device new.device × Writes (ordered order note) old new (Ok tt)
  Orders order note old new was is (Err (Refused why)) = IsOrderRefusal old.settling.asking (facts_of old.till.state) old.till.spare order why × (new ≡ old) × (is ≡ was)
  Orders order note old new was is (Err (Unkept NoSpace)) = FindsNoSpace order old new × (is ≡ was)
  Orders order note old new was is (Err (Unkept BookFailed)) = (why : DeviceError) × (is ≡ Some why) × OrderLost order why old new × Writes (ordered order note) old new (Err why)

  -- An ask was accepted, and its record is durable. It is no event of the log.
  pub record AskKept (bytes note : List ℕ) (old new : Standing D) : Type 0 where
    pub accepts : AcceptsAsk bytes old.till old.settling new.till new.settling
    pub logs : Logs no_event old new
    pub outlives : Outlives no_event old new
    pub later : faults old.device ≤ faults new.device
    pub noted : recovered (seen new.device) ≡ recovered (seen old.device) ++ ask_record note

  -- An ask was accepted, and the journal failed. The till is notified of a lost line.
  pub record AskLost (why : DeviceError) (old new : Standing D) : Type 0 where
    pub cause : FailsOnlyBy why old new
    pub stays : new.gate ≡ old.gate
    pub loses : LosesAsk old.till old.settling new.till new.settling
    pub outlives : Outlives no_event old new

  -- An ask would be accepted, but the disk has no room for its records. It has no effect.
  pub record AskFindsNoSpace (old new : Standing D) : Type 0 where
    pub taken : ask_refusal (facts_of old.till.state) old.settling.asking ≡ None
    pub inside : new.till ≡ old.till
    pub settling : new.settling ≡ old.settling
    pub full : IsFull old new

  -- The result of an ask, and why the journal failed before and after it, if it did.
  abbrev pub Asks : (note : List ℕ) → (old new : Standing D) → (was is : Option DeviceError) → Result (List ℕ) Untaken → Type 0
  Asks note old new was is (Ok bytes) = AskKept bytes note old new × (is ≡ was) × Writes (asked note) old new (Ok tt)
  Asks note old new was is (Err (Refused why)) = IsAskRefusedAs (facts_of old.till.state) old.settling.asking why × (new ≡ old) × (is ≡ was)
  Asks note old new was is (Err (Unkept NoSpace)) = AskFindsNoSpace old new × (is ≡ was)
  Asks note old new was is (Err (Unkept BookFailed)) = (why : DeviceError) × (is ≡ Some why) × AskLost why old new × Writes (asked note) old new (Err why)

  -- A till whose line is up processed a message, and its record is durable.
  pub record HeardKept (message : Message) (answered : Answered) (old new : Standing D) : Type 0 where
    pub up : old.till.state.line_up ≡ true
    pub heard : till_hears old.till message answered new.till
    pub both : both_in new ≡ take (both_in old) (Line (hears message))
    pub logs : Logs (message_heard message) old new
    pub outlives : Outlives (message_heard message) old new
    pub later : faults old.device ≤ faults new.device
    pub recorded : WritesMessage old new (Ok tt)

  -- The journal failed as a message came. The till is told as of a lost line.
  pub record MessageLost (message : Message) (why : DeviceError) (old new : Standing D) : Type 0 where
    pub cause : FailsOnlyBy why old new
    pub stays : new.gate ≡ old.gate
    pub up : old.till.state.line_up ≡ true
    pub lost : till_loses old.till new.till
    pub both : both_in new ≡ take (both_in old) (Line Lost)
    pub outlives : Outlives (message_heard message) old new
    pub recorded : WritesMessage old new (Err why)

  abbrev pub Takes : Message → (old new : Standing D) → Result Answered DeviceError → Type 0
  Takes message old new (Ok answered) = HeardKept message answered old new
  Takes message old new (Err why) = MessageLost message why old new

  abbrev pub no_answer : Answered
  no_answer = record { bytes = []; count = 0 }

  -- A till with a journal processes a message while its line is up, or the journal fails.
  abbrev pub Hears : KeptValue D → Message → Answered → KeptValue D → Type 0
  Hears old message answered new =
      ((old.standing.till.state.line_up ≡ false) × (new ≡ old) × (answered ≡ no_answer))
      ⊎ ((new.failure ≡ old.failure) × HeardKept message answered old.standing new.standing)
      ⊎ ((why : DeviceError) × (new.failure ≡ Some why) × (answered ≡ no_answer) × MessageLost message why old.standing new.standing)

  -- A line was lost. The journal records this when the next line is up.
  abbrev pub LosesLine : (old new : KeptValue D) → Type 0
  LosesLine old new =
      till_loses old.standing.till new.standing.till × (new.standing.device ≡ old.standing.device) × (new.standing.gate ≡ old.standing.gate) × (new.failure ≡ old.failure)
      × (both_in new.standing ≡ take (both_in old.standing) (Line Lost))

  -- A line is up, and that an earlier one was lost is durable.
  pub record NewLine (old new : Standing D) : Type 0 where
    pub state : new.till.state ≡ step old.till.state Connected
    pub settling : new.settling ≡ old.settling
    pub numbers : new.till.numbers ≡ old.till.numbers
    pub heard : new.till.heard ≡ old.till.heard
    pub logs : Logs line_changed old new
    pub outlives : Outlives line_changed old new
    pub later : faults old.device ≤ faults new.device
    pub recorded : Writes lost old new (Ok tt)

  -- Whether a line is up, and that an earlier one was lost is durable. Once the journal failed nothing changes.
  abbrev pub Connects : (old new : KeptValue D) → Result Unit DeviceError → Type 0
  Connects old new (Ok done) = ((old.standing.till.state.line_up ≡ true) × (new ≡ old)) ⊎ ((has_failed old ≡ false) × (has_failed new ≡ false) × NewLine old.standing new.standing)
  Connects old new (Err why) =
      ((has_failed old ≡ true) × (why ≡ Failed) × (new ≡ old))
      ⊎ ((has_failed old ≡ false) × (new.failure ≡ Some why) × (new.standing.till ≡ old.standing.till) × (new.standing.settling ≡ old.standing.settling) × FailsOnlyBy why old.standing new.standing
      × (new.standing.gate ≡ old.standing.gate) × Outlives line_changed old.standing new.standing × Writes lost old.standing new.standing (Err why))
