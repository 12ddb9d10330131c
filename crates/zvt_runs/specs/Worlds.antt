-- The calls of a till with its journal, as moves of both ends of its line.
use Rattle.std.specs.Prelude.{◌≡◌, ℕ, false, List, [], ◌∷◌, ◌++◌, Ok}
use Rattle.zvt_till.specs.declared.happenings.Happening.{Happening}
use Rattle.zvt_till.specs.Sending.{Settings}
use Rattle.zvt_till.specs.View.{TillValue}
use Rattle.zvt_journal.specs.Device.{LeavesOnly}
use Rattle.zvt_journal.specs.Text.{recovered}
use Rattle.zvt_kept.specs.KeptTill.{HasLog, KeptValue, has_failed}
use Rattle.zvt_kept.specs.Outliving.{DidAll, HappenInAll, KeptStep}
use Rattle.zvt_kept.specs.Recovery.{Recovers}
use Rattle.zvt_runs.specs.Crashes.{KeptMove, crashes, kept_world}

-- The file represents a prefix of the events. If moves of both ends log that prefix, recovery restores the till that a
-- crash after these moves leaves.
pub record IsOfWorld (settings : Settings) (all : List KeptMove) (happened : List Happening) (file : List ℕ) : Type 0 where
  pub part : List Happening
  pub rest : List Happening
  pub is_part : happened ≡ part ++ rest
  pub same_till : (more : List KeptMove) (till : TillValue) → (kept_world settings (all ++ more)).log ≡ (kept_world settings all).log ++ part
      → Recovers settings (recovered file) (Ok till) → till.state ≡ (kept_world settings ((all ++ more) ++ crashes ∷ [])).ends.till

module _ {D : Type 0} (seen : D → List ℕ) (may_leave : D → List ℕ → Type 0) (moment : D → ℕ) (left_since : D → ℕ → List ℕ → Type 0) (faults : D → ℕ) where
  -- The calls of a till whose journal contains the log of both ends are moves of these ends: whenever a crash happens,
  -- recovery restores the till that both ends have after a crash.
  abbrev pub CallsAreMoves : Type 0
  CallsAreMoves =
      (settings : Settings) (all : List KeptMove) (steps : List KeptStep) (old new : KeptValue D)
      → HasLog seen may_leave moment left_since faults settings (kept_world settings all).log old.standing → has_failed old ≡ false → DidAll seen may_leave moment left_since faults steps old new
      → (happened : List Happening) × HappenInAll settings.currency steps happened
      × LeavesOnly moment left_since old.standing.device new.standing.device (IsOfWorld settings all happened)
