-- A till on a line: its reply to a message, and one order from start to end.
use Rattle.std.specs.Prelude.{◌≡◌, ◌⊎◌, ℕ, ◌+◌, ◌≤◌, Bool, true, false, cond, List, [], Option, Some, None, IsSome, Result, Ok, Err}
use Rattle.std.specs.Io.KnownBytes.{Appends}
use Rattle.zvt_apdu.specs.Message.{Message}
use Rattle.zvt_stream.specs.Apdus.{Spells}
use Rattle.zvt_stream.specs.StreamState.{StreamState}
use Rattle.zvt_stream.specs.Answered.{Answered}
use Rattle.zvt_stream.specs.LineRun.{Pumped, Broken, Reported, failed_reads, failed_writes}
use Rattle.zvt_stream.specs.Turns.{Ends, Falters, line_state, line_ends}
use Rattle.zvt_stream.specs.declared.line.LineFault.{LineFault}
use Rattle.zvt_stream.specs.declared.line.LineFault.TheVariants.{Write}
use Rattle.zvt_stream.specs.declared.line.Until.TheVariants.{Rest}
use Rattle.zvt_till.specs.declared.happenings.Happening.TheVariants.{Heard as HeardIn, Malformed, Lost}
use Rattle.zvt_till.specs.declared.line.RunFault.{RunFault}
use Rattle.zvt_till.specs.declared.line.RunFault.TheVariants.{Order as OrderFault, Line, Book as BookBroke}
use Rattle.zvt_till.specs.declared.keeper.BookFault.TheVariants.{NoSpace, Failed}
use Rattle.zvt_till.specs.declared.keeper.Untaken.{Untaken}
use Rattle.zvt_till.specs.declared.keeper.Untaken.TheVariants.{Order as Refused, Book as Unkept}
use Rattle.zvt_till.specs.declared.orders.Order.{Order}
use Rattle.zvt_till.specs.declared.orders.Outgoing.{Outgoing}
use Rattle.zvt_till.specs.declared.outcomes.Outcome.{Outcome}
use Rattle.zvt_till.specs.declared.statuses.Running.{Running}
use Rattle.zvt_till.specs.Hearing.{heard_as}
use Rattle.zvt_till.specs.Numbers.{numbers_after}
use Rattle.zvt_till.specs.Sending.{reply_to}
use Rattle.zvt_till.specs.Till.{TillState, step}
use Rattle.zvt_till.specs.View.{TillValue, KeepsHeard, KeepsRoom}
use Rattle.zvt_till.specs.Events.{message_out}

-- no message, or the spelling of one
abbrev pub Answers : Option Outgoing → Answered → Type 0
Answers None answered = answered ≡ record { bytes = []; count = 0 }
Answers (Some outgoing) answered = Spells (message_out outgoing) answered.bytes × (answered.count ≡ 1)

-- a message is processed while the line is up, and gets its reply at once
abbrev pub till_hears : TillValue → Message → Answered → TillValue → Type 0
till_hears old message answered new =
    (new.state ≡ step old.state (HeardIn (heard_as message))) × Answers (cond old.state.line_up (reply_to (heard_as message)) None) answered × KeepsRoom old new
    × (new.numbers ≡ numbers_after old.state old.numbers (HeardIn (heard_as message)))
    × KeepsHeard old new

abbrev pub till_loses : TillValue → TillValue → Type 0
till_loses old new = (new.state ≡ step old.state Lost) × KeepsRoom old new × (new.numbers ≡ old.numbers) × KeepsHeard old new

abbrev pub till_malforms : TillValue → TillValue → Type 0
till_malforms old new = (new.state ≡ step old.state Malformed) × KeepsRoom old new × (new.numbers ≡ old.numbers) × KeepsHeard old new

abbrev pub is_idle : Option Running → Bool
is_idle None = true
is_idle (Some running) = false

-- a till is at rest while no order is running
abbrev pub till_rests : TillValue → Bool
till_rests till = is_idle till.state.running

-- ---- one order of a till, alone or with a book

module _ {K : Type 0} (orders : K → Order → Result Outgoing Untaken → K → Type 0) where
  -- An order was accepted, and its message was written.
  pub record Sends (order : Order) (old new : K) (first last : Option (List ℕ)) : Type 0 where
    pub outgoing : Outgoing
    pub bytes : List ℕ
    pub ordered : orders old order (Ok outgoing) new
    pub spelled : Spells (message_out outgoing) bytes
    pub appended : Appends first last bytes

  module _ (loses : K → K → Type 0) where
    -- An order was refused, or its book could not be kept; or it was accepted and could not be written, and the till
    -- lost its line.
    abbrev pub NotSent : RunFault → Order → (old new : K) → (first last : Option (List ℕ)) → Type 0
    NotSent (OrderFault why) order old new first last = orders old order (Err (Refused why)) new × (last ≡ first)
    NotSent (BookBroke why) order old new first last = orders old order (Err (Unkept why)) new × (last ≡ first)
    NotSent (Line fault) order old new first last = (fault ≡ Write) × (outgoing : Outgoing) × (taken : K) × orders old order (Ok outgoing) taken × loses taken new

  module _ (hears : K → Message → Answered → K → Type 0) (is_resting : K → Bool) (failed : K → Bool) where
    -- An order was sent, and the line went on until the till rested.
    pub record Comes (order : Order) (before after : StreamState) (old new : K) (coming left first last : Option (List ℕ)) (turns reads_before reads_after : ℕ) : Type 0 where
      pub sent_till : K
      pub between : Option (List ℕ)
      pub answered : Bool
      pub sends : Sends order old sent_till first between
      pub pumped : Pumped hears before after sent_till new coming left between last answered
      pub ends : Ends hears is_resting Rest turns reads_before reads_after (line_state before sent_till coming between) (line_ends after new left last)
      pub rests : is_resting new ≡ true

    -- This became of the order, and the book has it.
    pub record Runs (till : K → TillValue) (order : Order) (outcome : Outcome) (before after : StreamState) (old new : K) (coming left first last : Option (List ℕ)) (turns reads_before reads_after : ℕ) : Type 0 where
      pub comes : Comes order before after old new coming left first last turns reads_before reads_after
      pub came : (till new).state.last_outcome ≡ Some outcome
      pub whole : failed new ≡ false

    module _ (loses malforms : K → K → Type 0) where
      -- An order was sent, and then the line broke, and the till was notified.
      pub record BreaksOff (fault : LineFault) (order : Order) (before after : StreamState) (old new : K) (coming left first last : Option (List ℕ)) (turns reads_before reads_after : ℕ) : Type 0 where
        pub sent_till : K
        pub between : Option (List ℕ)
        pub middle : K
        pub sends : Sends order old sent_till first between
        pub broken : Broken hears fault before after sent_till middle coming left between last
        pub falters : Falters hears is_resting Rest fault turns reads_before reads_after (line_state before sent_till coming between) (line_ends after middle left last)
        pub reported : Reported loses malforms fault middle new

      -- An order was not sent, and nothing was read; or the line broke, or the book failed while the replies were
      -- processed.
      abbrev pub Fails : RunFault → Order → (before after : StreamState) → (old new : K) → (coming left first last : Option (List ℕ)) → (turns reads_before reads_after : ℕ) → Type 0
      Fails fault order before after old new coming left first last turns reads_before reads_after =
          (NotSent loses fault order old new first last × (after ≡ before) × (left ≡ coming) × (reads_after ≡ reads_before))
          ⊎ ((broken : LineFault) × (fault ≡ Line broken) × BreaksOff broken order before after old new coming left first last turns reads_before reads_after)
          ⊎ ((fault ≡ BookBroke Failed) × (failed new ≡ true) × Comes order before after old new coming left first last turns reads_before reads_after)

-- the fault of an order that was not accepted
abbrev pub fault_of : Untaken → RunFault
fault_of (Refused why) = OrderFault why
fault_of (Unkept why) = BookBroke why

-- the numbers of failed reads and writes of the line
abbrev pub reads_failed : RunFault → ℕ
reads_failed (OrderFault why) = 0
reads_failed (Line fault) = failed_reads fault
reads_failed (BookBroke why) = 0

abbrev pub writes_failed : RunFault → ℕ
writes_failed (OrderFault why) = 0
writes_failed (Line fault) = failed_writes fault
writes_failed (BookBroke why) = 0

-- no order is running, the line is down, and the outcome of the order is known
abbrev pub IsEnded : TillState → Type 0
IsEnded state = (state.running ≡ None) × (state.line_up ≡ false) × IsSome state.last_outcome

-- this holds after a broken line and after a book that failed
abbrev pub IsOver : RunFault → TillState → Type 0
IsOver (OrderFault why) state = Unit {0}
IsOver (Line fault) state = IsEnded state
IsOver (BookBroke NoSpace) state = Unit {0}
IsOver (BookBroke Failed) state = IsEnded state
