-- The journals that a crash at any moment leaves while a till's orders run.
use Rattle.std.specs.Prelude.{◌≡◌, ◌⊎◌, ℕ, true, false, List, [], ◌∷◌, ◌++◌, map, Option, Result, Ok, Err}
use Rattle.zvt_apdu.specs.Message.{Message}
use Rattle.zvt_stream.specs.Answered.{Answered}
use Rattle.zvt_stream.specs.Hearing.{Hears as HearsAll}
use Rattle.zvt_stream.specs.EndState.{EndState}
use Rattle.zvt_stream.specs.StreamState.{StreamState}
use Rattle.zvt_till.specs.declared.happenings.Happening.{Happening}
use Rattle.zvt_till.specs.declared.happenings.Happening.TheVariants.{Connected, Sent as SentOut, Lost}
use Rattle.zvt_settle.specs.Settling.{Both, Line as on, take}
use Rattle.zvt_till.specs.declared.line.RunFault.{RunFault}
use Rattle.zvt_till.specs.declared.orders.Order.{Order}
use Rattle.zvt_till.specs.declared.outcomes.Outcome.{Outcome}
use Rattle.zvt_till.specs.Events.{hears}
use Rattle.zvt_till.specs.Log.{IsLog}
use Rattle.zvt_till.specs.Refusals.{sent_as}
use Rattle.zvt_till.specs.Sending.{Settings}
use Rattle.zvt_till.specs.Till.{TillState, state_after, step}
use Rattle.zvt_till.specs.View.{TillValue}
use Rattle.zvt_journal.specs.Device.{LeavesOnly}
use Rattle.zvt_journal.specs.declared.device.DeviceError.{DeviceError}
use Rattle.zvt_journal.specs.Text.{recovered}
use Rattle.zvt_kept.specs.Logs.{StandsFor}
use Rattle.zvt_kept.specs.Recovery.{HasSettled, Recovers}
use Rattle.zvt_settle.specs.AskRuns.{AskRuns}
use Rattle.zvt_kept.specs.Keeping.{kept_asks}
use Rattle.zvt_kept.specs.KeptTill.{Connects, HasLog, Hears, IsKept, KeptValue, LosesLine, both_in, has_failed, kept_rests, with_note}
use Rattle.zvt_kept.specs.Runs.{RanKept}
use Rattle.zvt_kept.specs.declared.recovery.RecoveryError.{RecoveryError}
use Rattle.zvt_kept.specs.declared.recovery.RecoveryError.TheVariants.{Memory}

-- A file represents a log that contains all of the first events, and then a prefix of the later ones.
pub record IsBetween (settings : Settings) (first happened : List Happening) (file : List ℕ) : Type 0 where
  pub part : List Happening
  pub rest : List Happening
  pub is_part : happened ≡ part ++ rest
  pub recorded : StandsFor settings (recovered file) (first ++ part)

-- a call of a till with its journal: it runs an order or an ask, with a note that it may have been given, has a line, or
-- loses it
pub data KeptStep : Type 0 where
  runs : (order : Order) → KeptStep
  asks : KeptStep
  connects : KeptStep
  loses : KeptStep

-- the events that a call may cause
abbrev pub HappensIn : (currency : ℕ) → KeptStep → List Happening → Type 0
HappensIn currency (runs order) happened = (happened ≡ []) ⊎ ((messages : List Message) × (happened ≡ SentOut (sent_as currency order) ∷ map hears messages))
HappensIn currency asks happened = (messages : List Message) × (happened ≡ map hears messages)
HappensIn currency connects happened = (happened ≡ []) ⊎ (happened ≡ Lost ∷ Connected ∷ [])
HappensIn currency loses happened = happened ≡ []

abbrev pub HappenInAll : (currency : ℕ) → List KeptStep → List Happening → Type 0
HappenInAll currency [] happened = happened ≡ []
HappenInAll currency (step ∷ more) happened =
    (first rest : List Happening) × HappensIn currency step first × HappenInAll currency more rest × (happened ≡ first ++ rest)

-- recovery restored this till after losing its line, or memory ran out
abbrev pub IsLostTill : TillState → Result TillValue RecoveryError → Type 0
IsLostTill state (Ok till) = till.state ≡ step state Lost
IsLostTill state (Err Memory) = Unit {0}
IsLostTill state result = ⊥

module _ {D : Type 0} (seen : D → List ℕ) (may_leave : D → List ℕ → Type 0) (moment : D → ℕ) (left_since : D → ℕ → List ℕ → Type 0) (faults : D → ℕ) where
  -- A till whose line is up processes messages. A crash at any moment leaves a journal of the till's log and a prefix
  -- of these messages. At the end the journal contains all of them, unless it failed.
  abbrev pub HearingsOutlive : Type 0
  HearingsOutlive =
      (settings : Settings) (log : List Happening) (old new : KeptValue D) (messages : List Message) (answers : List Answered)
      → HasLog seen may_leave moment left_since faults settings log old.standing → old.standing.till.state.line_up ≡ true
      → HearsAll (Hears seen may_leave moment left_since faults) old messages answers new
      → LeavesOnly moment left_since old.standing.device new.standing.device (IsBetween settings log (map hears messages))
      × (has_failed new ≡ false → HasLog seen may_leave moment left_since faults settings (log ++ map hears messages) new.standing)

  -- A till runs an order. A crash at any moment leaves a journal of the till's log, possibly followed by the order and
  -- then by a prefix of the messages that were read.
  abbrev pub RunsOutlive : Type 0
  RunsOutlive =
      (settings : Settings) (log : List Happening) (order : Order) (before after : StreamState) (old new : KeptValue D) (coming left first last : Option (List ℕ)) (turns reads_before reads_after : ℕ) (result : Result Outcome RunFault)
      → HasLog seen may_leave moment left_since faults settings log old.standing → RanKept seen may_leave moment left_since faults order before after old new coming left first last turns reads_before reads_after result
      → (messages : List Message) × LeavesOnly moment left_since old.standing.device new.standing.device (IsBetween settings log (SentOut (sent_as settings.currency order) ∷ map hears messages))

  -- ---- many orders

  -- the effect of one call on a till with a journal
  abbrev pub Did : KeptStep → (old new : KeptValue D) → Type 0
  Did (runs order) old new =
      (note : List ℕ) × (before after : StreamState) × (coming left first last : Option (List ℕ)) × (turns reads_before reads_after : ℕ) × (result : Result Outcome RunFault) × RanKept seen may_leave moment left_since faults order before after (with_note old note) new coming left first last turns reads_before reads_after result
  Did asks old new =
      (note : List ℕ) × (before after : EndState) × (turns : ℕ) × (result : Result Unit RunFault)
      × AskRuns (kept_asks seen may_leave moment left_since faults) (Hears seen may_leave moment left_since faults) kept_rests turns (LosesLine seen may_leave moment left_since faults) (LosesLine seen may_leave moment left_since faults) has_failed result before after (with_note old note) new
  Did connects old new = (result : Result Unit DeviceError) × Connects seen may_leave moment left_since faults old new result
  Did loses old new = LosesLine seen may_leave moment left_since faults old new

  -- the calls one after another, each of a till with its journal
  abbrev pub DidAll : List KeptStep → (old new : KeptValue D) → Type 0
  DidAll [] old new = old ≡ new
  DidAll (step ∷ more) old new =
      IsKept (has_failed old) (seen old.standing.device) (may_leave old.standing.device) old.standing.gate (both_in old.standing) × (middle : KeptValue D) × Did step old middle × DidAll more middle new

  -- Over any number of orders, asks and lines, a crash at any moment leaves a journal of the till's log and a prefix of the
  -- events of these calls. At the end the journal contains all of them, unless it failed.
  abbrev pub CallsOutlive : Type 0
  CallsOutlive =
      (settings : Settings) (log : List Happening) (steps : List KeptStep) (old new : KeptValue D)
      → HasLog seen may_leave moment left_since faults settings log old.standing → has_failed old ≡ false → DidAll steps old new
      → (happened : List Happening) × HappenInAll settings.currency steps happened
      × LeavesOnly moment left_since old.standing.device new.standing.device (IsBetween settings log happened)
      × (has_failed new ≡ false → HasLog seen may_leave moment left_since faults settings (log ++ happened) new.standing)

  -- Recovery restores a till with a journal: the same till after losing its line, unless memory runs out.
  abbrev pub TillsAreRecovered : Type 0
  TillsAreRecovered =
      (settings : Settings) (log : List Happening) (kept : KeptValue D) (result : Result TillValue RecoveryError)
      → HasLog seen may_leave moment left_since faults settings log kept.standing → Recovers settings (recovered (seen kept.standing.device)) result → IsLostTill kept.standing.till.state result

  -- It also restores what the till has settled and what is pending: an ask that was running ended with the line.
  abbrev pub SettlingIsRecovered : Type 0
  SettlingIsRecovered =
      (settings : Settings) (log : List Happening) (kept : KeptValue D) (both : Both)
      → HasLog seen may_leave moment left_since faults settings log kept.standing → HasSettled settings (recovered (seen kept.standing.device)) both → both ≡ take (both_in kept.standing) (on Lost)

-- Recovery restored the till of this log after losing its line, or memory ran out.
abbrev pub IsRecoveredAs : Settings → List Happening → Result TillValue RecoveryError → Type 0
IsRecoveredAs settings log (Ok till) = till.state ≡ state_after settings (log ++ Lost ∷ [])
IsRecoveredAs settings log (Err Memory) = Unit {0}
IsRecoveredAs settings log result = ⊥

-- A journal of a till's log recovers to the till of that log.
abbrev pub LogsAreRecovered : Type 0
LogsAreRecovered =
    (settings : Settings) (text : List ℕ) (log : List Happening) (result : Result TillValue RecoveryError)
    → StandsFor settings text log → IsLog settings log → Recovers settings text result → IsRecoveredAs settings log result
