-- The calls of a till with its journal as moves of both ends of its line.
use Rattle.std.proofs.Common.{◌≡◌, ℕ, false, List, ◌++◌, sym, subst}
use Rattle.zvt_till.specs.declared.happenings.Happening.{Happening}
use Rattle.zvt_till.specs.Sending.{Settings}
use Rattle.zvt_journal.specs.Text.{recovered}
use Rattle.zvt_runs.specs.Crashes.{KeptMove, kept_world}
use Rattle.zvt_kept.specs.KeptTill.{HasLog, KeptValue, has_failed}
use Rattle.zvt_kept.specs.Logs.{StandsFor}
use Rattle.zvt_kept.specs.Outliving.{IsBetween}
use Rattle.zvt_runs.specs.Worlds.{CallsAreMoves, IsOfWorld}
use Rattle.zvt_kept.proofs.CallsOutlived.{calls_outlive}
use Rattle.zvt_runs.proofs.Crashed.{files_are_worlds}
use Rattle.zvt_kept.proofs.Logged.{weaker}
use Rattle.zvt_kept.proofs.Made.{records_are_kept}

of_world : (settings : Settings) (all : List KeptMove) (happened : List Happening) (file : List ℕ) → IsBetween settings (kept_world settings all).log happened file → IsOfWorld settings all happened file
of_world settings all happened file b = record {
  part = b.part;
  rest = b.rest;
  is_part = b.is_part;
  same_till = λ more till same recovers. files_are_worlds settings (all ++ more) file till (subst (λ l. StandsFor settings (recovered file) l) (sym same) b.recorded) recovers;
}

module _ {D : Type 0} (seen : D → List ℕ) (may_leave : D → List ℕ → Type 0) (moment : D → ℕ) (left_since : D → ℕ → List ℕ → Type 0) (faults : D → ℕ) (only_now : (device : D) (file : List ℕ) → left_since device (moment device) file → may_leave device file) where
  pub calls_are_moves : CallsAreMoves seen may_leave moment left_since faults
  calls_are_moves settings all steps old new has whole did =
      let log = (kept_world settings all).log in
      let r = calls_outlive seen may_leave moment left_since faults only_now settings log steps old new has whole did in
      (r.0, r.1, weaker records_are_kept seen may_leave moment left_since faults old.standing.device new.standing.device (IsBetween settings log r.0) (IsOfWorld settings all r.0) r.2 (λ file. of_world settings all r.0 file))
