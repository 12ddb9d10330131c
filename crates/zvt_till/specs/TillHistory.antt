-- The effect of orders on a line on the till's log.
use Rattle.std.specs.Prelude.{◌≡◌, ◌⊎◌, ℕ, List, [], ◌∷◌, ◌++◌, Option, map, Result, Ok, Err, MatchResult}
use Rattle.zvt_apdu.specs.Message.{Message}
use Rattle.zvt_stream.specs.LineReading.{SpelledBy}
use Rattle.zvt_stream.specs.StreamState.{StreamState}
use Rattle.zvt_stream.specs.declared.line.LineFault.{LineFault}
use Rattle.zvt_stream.specs.declared.line.LineFault.TheVariants as faults
use Rattle.zvt_till.specs.declared.happenings.Happening.{Happening}
use Rattle.zvt_till.specs.declared.happenings.Happening.TheVariants.{Connected, Sent as SentOut, Heard as HeardIn, Malformed, Lost}
use Rattle.zvt_till.specs.declared.happenings.Sent.{Sent}
use Rattle.zvt_till.specs.declared.line.RunFault.{RunFault}
use Rattle.zvt_till.specs.declared.line.RunFault.TheVariants.{Order as OrderFault, Line, Book as BookBroke}
use Rattle.zvt_till.specs.declared.orders.Order.{Order}
use Rattle.zvt_till.specs.declared.outcomes.Outcome.{Outcome}
use Rattle.zvt_till.specs.Refusals.{sent_as}
use Rattle.zvt_till.specs.Sending.{Settings}
use Rattle.zvt_till.specs.Till.{TillState, state_after, step, facts_of}
use Rattle.zvt_till.specs.View.{TillValue}
use Rattle.zvt_till.specs.Log.{IsLog, facts_in}
use Rattle.zvt_till.specs.Events.{hears}
use Rattle.zvt_till.specs.Keeping.{BreaksOffAlone, FailsAlone, NotSentAlone, RunsAlone}

-- a till that this log leads to
abbrev pub Stands : Settings → List Happening → TillState → Type 0
Stands settings log state = IsLog settings log × (state ≡ state_after settings log)

-- an order that ran to its end adds itself and the messages of the bytes that were read
abbrev pub RunsAreLogged : Type 0
RunsAreLogged =
    (settings : Settings) (log : List Happening) (order : Order) (outcome : Outcome) (before after : StreamState) (old new : TillValue) (coming left first last : Option (List ℕ)) (turns reads_before reads_after : ℕ)
    → Stands settings log old.state
    → (runs : RunsAlone order outcome before after old new coming left first last turns reads_before reads_after)
    → Stands settings (log ++ SentOut (sent_as settings.currency order) ∷ map hears runs.comes.pumped.course.heard.messages) new.state

-- the event that a fault is in a till's log
abbrev pub reported_as : LineFault → Happening
reported_as (faults.Malformed place why) = Malformed
reported_as faults.Stopped = Malformed
reported_as faults.Read = Lost
reported_as faults.Write = Lost
reported_as (faults.Ended have) = Lost
reported_as faults.Turns = Lost
reported_as faults.Memory = Lost

-- an order whose line broke adds itself, messages of a prefix of the bytes that were read, and the report of the fault
abbrev pub FaultsAreLogged : Type 0
FaultsAreLogged =
    (settings : Settings) (log : List Happening) (fault : LineFault) (order : Order) (before after : StreamState) (old new : TillValue) (coming left first last : Option (List ℕ)) (turns reads_before reads_after : ℕ)
    → Stands settings log old.state
    → (breaks : BreaksOffAlone fault order before after old new coming left first last turns reads_before reads_after)
    → (messages : List Message) × (rest : List ℕ) × SpelledBy before.reading (before.held ++ breaks.broken.read) messages rest
    × Stands settings (log ++ SentOut (sent_as settings.currency order) ∷ (map hears messages ++ reported_as fault ∷ [])) new.state

-- an accepted order whose message could not be written is in the log as sent, and then the connection was lost
abbrev pub UnsentAreLogged : Type 0
UnsentAreLogged =
    (settings : Settings) (log : List Happening) (fault : LineFault) (order : Order) (old new : TillValue) (first last : Option (List ℕ))
    → Stands settings log old.state
    → NotSentAlone (Line fault) order old new first last
    → Stands settings (log ++ SentOut (sent_as settings.currency order) ∷ Lost ∷ []) new.state

-- The effect of an order on a line, by its result.
pub record Takes (order : Order) (answer : Result Outcome RunFault) (old new : TillValue) : Type 0 where
  pub before : StreamState
  pub after : StreamState
  pub coming : Option (List ℕ)
  pub left : Option (List ℕ)
  pub first : Option (List ℕ)
  pub last : Option (List ℕ)
  pub turns : ℕ
  pub reads_before : ℕ
  pub reads_after : ℕ
  pub went :
      MatchResult answer
      (λ outcome. RunsAlone order outcome before after old new coming left first last turns reads_before reads_after)
      (λ fault. FailsAlone fault order before after old new coming left first last turns reads_before reads_after)

-- a till keeps its line, or has a new one
abbrev pub Readies : TillValue → TillValue → Type 0
Readies old new = (new ≡ old) ⊎ (new.state ≡ step old.state Connected)

-- orders one after another, each with its result, on the line of the one before or on a new one
abbrev pub TakesAll : TillValue → List (Order × Result Outcome RunFault) → TillValue → Type 0
TakesAll old [] new = old ≡ new
TakesAll old (taken ∷ more) new = (ready : TillValue) × (next : TillValue) × Readies old ready × Takes taken.0 taken.1 ready next × TakesAll next more new

-- a refused order is not sent, and a till alone has no book that could fail
abbrev pub sent_by : ℕ → Order → Result Outcome RunFault → List Sent
sent_by own order (Ok outcome) = sent_as own order ∷ []
sent_by own order (Err (Line fault)) = sent_as own order ∷ []
sent_by own order (Err (OrderFault why)) = []
sent_by own order (Err (BookBroke why)) = []

-- the orders of a till of this currency
abbrev pub sent_by_all : ℕ → List (Order × Result Outcome RunFault) → List Sent
sent_by_all own [] = []
sent_by_all own (taken ∷ more) = sent_by own taken.0 taken.1 ++ sent_by_all own more

-- the orders of a log
abbrev pub sent_in : List Happening → List Sent
sent_in [] = []
sent_in (Connected ∷ log) = sent_in log
sent_in (SentOut order ∷ log) = order ∷ sent_in log
sent_in (HeardIn m ∷ log) = sent_in log
sent_in (Malformed ∷ log) = sent_in log
sent_in (Lost ∷ log) = sent_in log

-- However its orders end, a till that runs them one after another has the book, the marks and the unclear payments of a
-- log that continues its own, and the orders in that log are exactly the orders that were not refused.
abbrev pub OrdersAreLogged : Type 0
OrdersAreLogged =
    (settings : Settings) (log : List Happening) (taken : List (Order × Result Outcome RunFault)) (old new : TillValue)
    → Stands settings log old.state
    → TakesAll old taken new
    → (more : List Happening) × Stands settings (log ++ more) new.state × (facts_of new.state ≡ facts_in settings.rules (log ++ more)) × (sent_in more ≡ sent_by_all settings.currency taken)
