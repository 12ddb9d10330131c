-- The runs of a till that the command line asks for.
use Rattle.std.specs.Prelude.{◌≡◌, ◌+◌, ℕ, Bool, List, [], ◌∷◌, length, Option, Some, None, Result}
use Rattle.zvt_apdu.specs.Message.{Message}
use Rattle.zvt_stream.specs.Answered.{Answered}
use Rattle.zvt_stream.specs.LineReading.{reading_as}
use Rattle.zvt_settle.specs.declared.settling.SettlingTill.{SettlingTill}
use Rattle.zvt_settle.specs.Askers.{settling_asks}
use Rattle.zvt_settle.specs.Inside.{both_of, settling_of, till_inside}
use Rattle.zvt_settle.specs.Keeping.{never_fails, settling_connects, settling_orders}
use Rattle.zvt_settle.specs.OnLine.{settling_hears, settling_loses, settling_malforms, settling_rests}
use Rattle.zvt_settle.specs.Settling.{Settling, new_both}
use Rattle.zvt_till.specs.Sending.{Settings}
use Rattle.zvt_till.specs.View.{TillValue}
use Rattle.zvt_till.specs.declared.entries.Entry.{Entry}
use Rattle.zvt_till.specs.declared.keeper.BookFault.{BookFault}
use Rattle.zvt_till.specs.declared.keeper.Untaken.{Untaken}
use Rattle.zvt_till.specs.declared.orders.Order.{Order}
use Rattle.zvt_till.specs.declared.orders.Outgoing.{Outgoing}
use Rattle.zvt_journal.specs.Calls.{failed_among, left_since_after}
use Rattle.zvt_journal.specs.Files.{file_may_leave, file_seen}
use Rattle.zvt_journal.specs.declared.file.FileDevice.{FileDevice}
use Rattle.zvt_kept.specs.Keeping.{kept_asks, kept_connects, kept_orders}
use Rattle.zvt_kept.specs.KeptTill.{Hears, KeptValue, LosesLine, has_failed, kept_rests, settling_in, till_of, with_note}
use Rattle.zvt_runs.specs.BothEnds.{BeginsHere, MakesHere}
use Rattle.zvt_runs.specs.OverTcp.{AnswersOverTcp}
use Rattle.zvt_runs.specs.Reporting.{ReportsNothing, ReportsRun}
use Rattle.zvt_runs.specs.Runs.{noting}
use Rattle.zvt_runs.specs.TillEnd.{BeginsThere, MakesThere}
use Rattle.zvt_runs.specs.TillRuns.{forgets}
use Rattle.zvt_runs.specs.declared.fault.EndFault.{EndFault}
use Rattle.zvt.specs.declared.ends.TillSteps.{TillSteps}
use Rattle.zvt.specs.declared.ends.TillSteps.TheVariants.{There, Here}

module _ {K : Type 0} (connects : K → Result Unit BookFault → K → Type 0) (orders : K → Order → Result Outgoing Untaken → K → Type 0) (hears : K → Message → Answered → K → Type 0) (is_resting failed : K → Bool) (till : K → TillValue) (loses malforms : K → K → Type 0) (asks : K → Result (List ℕ) Untaken → K → Type 0) (settling : K → Settling) (noted : K → List ℕ → K) where
  -- What the run of these steps returns and writes: with a terminal elsewhere, or with one in this process.
  abbrev pub MakesSteps : TillSteps → (old new : K) → (first last : Option (List ℕ)) → (Reported : List ℕ → List Entry → Type 0) → (Quiet : Type 0) → Result Unit EndFault → Type 0
  MakesSteps (There run) old new first last Reported Quiet result =
      AnswersOverTcp connects failed till (noting noted (MakesThere orders hears is_resting failed till loses malforms asks settling)) (BeginsThere (reading_as run.line)) run.options run.plan.now old new first last Reported Quiet result
  MakesSteps (Here run) old new first last Reported Quiet result =
      AnswersOverTcp connects failed till (noting noted (MakesHere orders hears is_resting failed till loses malforms)) BeginsHere run.options run.plan.now old new first last Reported Quiet result

  -- The run returns this, whatever its output and its reports had before.
  abbrev pub RunsSteps : TillSteps → (old : K) → Result Unit EndFault → Type 0
  RunsSteps run old result =
      (new : K) × (first last report_first report_last : Option (List ℕ)) × (before after : ℕ)
      × MakesSteps run old new first last (ReportsRun report_first report_last before after) (ReportsNothing report_first report_last before after) result

-- the run of a new till with these settings, which keeps no book
abbrev pub RunsAlone : TillSteps → Settings → Result Unit EndFault → Type 0
RunsAlone run settings result =
    (old : SettlingTill) × (both_of old ≡ new_both settings)
    × RunsSteps settling_connects settling_orders settling_hears settling_rests never_fails till_inside settling_loses settling_malforms settling_asks settling_of forgets run old result

-- ---- a till whose book is in a file

abbrev pub file_moment : FileDevice → ℕ
file_moment device = length device.calls.made

abbrev pub file_left_since : FileDevice → ℕ → List ℕ → Type 0
file_left_since device = left_since_after device.calls.start device.calls.made

abbrev pub file_faults : FileDevice → ℕ
file_faults device = failed_among device.calls.made

-- the run of this till, which keeps its book in a file
abbrev pub RunsKept : TillSteps → KeptValue FileDevice → Result Unit EndFault → Type 0
RunsKept run old result =
    RunsSteps (kept_connects file_seen file_may_leave file_moment file_left_since file_faults) (kept_orders file_seen file_may_leave file_moment file_left_since file_faults)
    (Hears file_seen file_may_leave file_moment file_left_since file_faults) kept_rests has_failed till_of (LosesLine file_seen file_may_leave file_moment file_left_since file_faults)
    (LosesLine file_seen file_may_leave file_moment file_left_since file_faults) (kept_asks file_seen file_may_leave file_moment file_left_since file_faults) settling_in with_note run old result

-- the run of the till that keeps a book, or of a new till with these settings
abbrev pub RunsEither : TillSteps → Settings → Option (KeptValue FileDevice) → Result Unit EndFault → Type 0
RunsEither run settings None result = RunsAlone run settings result
RunsEither run settings (Some kept) result = RunsKept run kept result
