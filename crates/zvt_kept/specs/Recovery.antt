-- The till of a journal's records.
use Rattle.std.specs.Prelude.{◌≡◌, ◌+◌, fold, Bool, true, false, ℕ, List, [], ◌∷◌, ◌++◌, Some, None, length, Result, Ok, Err}
use Rattle.zvt_till.specs.declared.happenings.Happening.{Happening}
use Rattle.zvt_till.specs.declared.happenings.Happening.TheVariants.{Connected, Lost}
use Rattle.zvt_till.specs.Log.{IsLog}
use Rattle.zvt_till.specs.Sending.{Settings}
use Rattle.zvt_till.specs.Till.{TillState}
use Rattle.zvt_till.specs.TillHistory.{Stands}
use Rattle.zvt_till.specs.View.{TillValue}
use Rattle.zvt_settle.specs.Settling.{Note, Line, Both, both_after, take}
use Rattle.zvt_kept.specs.Checks.{IsFirstWrongCheck}
use Rattle.zvt_kept.specs.Records.{Kept, kept_in}
use Rattle.zvt_kept.specs.Logs.{CanAsk, CanTakeAll, Happens, HappenAll, HasOpening, Means, StandsFor}
use Rattle.zvt_kept.specs.Reading.{IsFirstWrong}
use Rattle.zvt_kept.specs.declared.recovery.RecoveryError.{RecoveryError}
use Rattle.zvt_kept.specs.declared.recovery.RecoveryError.TheVariants.{Opening, Check, Line, Record, Memory}

-- The records represent this log, and the till has the state after the log and a lost line.
pub record IsRecovered (settings : Settings) (text : List ℕ) (state : TillState) : Type 0 where
  pub log : List Happening
  pub recorded : StandsFor settings text log
  pub stands : Stands settings (log ++ Lost ∷ []) state

-- A till that settles has the state after these records and a lost line: what was settled, what is pending, and the
-- status of the terminal's last transaction.
pub record HasSettled (settings : Settings) (text : List ℕ) (both : Both) : Type 0 where
  pub kept : List Kept
  pub read : kept_in text ≡ Some kept
  pub asks : CanAsk settings kept
  pub is : both ≡ both_after settings ((Line Connected ∷ asks.notes) ++ Line Lost ∷ [])

-- a till with these settings can have these records, and make their asks
abbrev pub IsLife : Settings → List Kept → Type 0
IsLife settings kept = (happened : List Happening) × HappenAll settings.currency kept happened × IsLog settings (Connected ∷ happened) × CanAsk settings kept

-- The record with this number, counted from 1, is the first one that no till can have after the records before it.
pub record IsFirstForeign (settings : Settings) (text : List ℕ) (number : ℕ) : Type 0 where
  pub before : List Kept
  pub one : Kept
  pub after : List Kept
  pub read : kept_in text ≡ Some (before ++ one ∷ after)
  pub number_is : number ≡ length before + 1
  pub good : IsLife settings before
  pub wrong : IsLife settings (before ++ one ∷ []) → ⊥

abbrev pub Recovers : Settings → (text : List ℕ) → Result TillValue RecoveryError → Type 0
Recovers settings text (Ok till) = IsRecovered settings text till.state
Recovers settings text (Err Opening) = HasOpening settings text → ⊥
Recovers settings text (Err (Line number)) = (kept_in text ≡ None) × IsFirstWrong text number
Recovers settings text (Err (Check number)) = (kept_in text ≡ None) × IsFirstWrongCheck text number
Recovers settings text (Err (Record number)) = IsFirstForeign settings text number
Recovers settings text (Err Memory) = Unit {0}

-- a till with some log, whose line is up, replayed a record; or it cannot have the events of this record
abbrev pub Relives : Bool → Kept → (old new : TillState) → Type 0
Relives true one old new =
    (settings : Settings) (log : List Happening) → Stands settings log old → old.line_up ≡ true
    → (happened : List Happening) × Happens settings.currency one happened × Stands settings (log ++ happened) new × (new.line_up ≡ true)
Relives false one old new =
    (settings : Settings) (log happened : List Happening) → Stands settings log old → Happens settings.currency one happened → IsLog settings (log ++ happened) → ⊥

-- A till that settles replayed a record; or no till can have this record.
abbrev pub Replays : Bool → Kept → (before after : Both) → Type 0
Replays true one before after =
    Relives true one before.till after.till × ((currency : ℕ) → (notes : List Note) × Means currency one notes × CanTakeAll before notes × (after ≡ fold take before notes))
Replays false one before after =
    (settings : Settings) (log happened : List Happening) (notes : List Note) → Stands settings log before.till
    → Happens settings.currency one happened → IsLog settings (log ++ happened) → Means settings.currency one notes → CanTakeAll before notes → ⊥
