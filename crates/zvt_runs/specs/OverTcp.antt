-- The results of a run over TCP.
use Rattle.std.specs.Prelude.{◌≡◌, ◌⊎◌, ℕ, Bool, List, Option, Result, Ok, Err}
use Rattle.std.specs.Io.KnownBytes.{Keeps}
use Rattle.zvt_runs.specs.declared.plans.StepOptions.{StepOptions}
use Rattle.zvt_till.specs.declared.entries.Entry.{Entry}
use Rattle.zvt_till.specs.declared.keeper.BookFault.{BookFault}
use Rattle.zvt_till.specs.Sending.{Settings}
use Rattle.zvt_stream.specs.declared.line.LineFault.{LineFault}
use Rattle.zvt_till.specs.View.{TillValue}
use Rattle.zvt_settle.specs.declared.settling.SettlingTill.{SettlingTill}
use Rattle.zvt_runs.specs.Runs.{Law, StepLaw}
use Rattle.zvt_runs.specs.RunsPlan.{RunsPlan}
use Rattle.zvt_runs.specs.TillRuns.{AnswersPlan}
use Rattle.zvt_runs.specs.declared.fault.EndFault.{EndFault}
use Rattle.zvt_runs.specs.declared.fault.EndFault.TheVariants.{Line as LineBroke, Memory, Net, Silent, Trace, Unsuccessful, Write}
use Rattle.zvt_runs.specs.declared.plans.Planned.{Planned}
use Rattle.zvt_runs.specs.Traced.{AnswersTraced, by_silence, by_trace}

module _ {L K : Type 0} (connects : K → Result Unit BookFault → K → Type 0) (failed : K → Bool) (seen : K → TillValue) (makes : Law L K) (begins : L → Type 0) where
  -- there was no connection, or no memory for a trace
  abbrev pub IsUnbegun : Result Unit EndFault → Type 0
  IsUnbegun (Err Memory) = Unit {0}
  IsUnbegun (Err (Net why)) = Unit {0}
  IsUnbegun result = ⊥

  -- nothing was sent, written, reported or recorded
  pub record NotBegun (old new : K) (first last : Option (List ℕ)) (Quiet : Type 0) (result : Result Unit EndFault) : Type 0 where
    pub unbegun : IsUnbegun result
    pub unchanged : new ≡ old
    pub unwritten : Keeps first last
    pub quiet : Quiet

  -- The steps were made on a line, possibly with a trace, which may be incomplete. A read of the terminal may have
  -- timed out.
  pub record TracesRun (options : StepOptions) (plan : List Planned) (old new : K) (first last : Option (List ℕ)) (Reported : List ℕ → List Entry → Type 0) (Quiet : Type 0) (result : Result Unit EndFault) : Type 0 where
    pub ended : Result Unit EndFault
    pub lacks : Bool
    pub waited : Option ℕ
    pub answers : AnswersPlan connects failed seen makes begins options plan old new first last Reported Quiet ended
    pub is : result ≡ by_silence waited (by_trace lacks ended)

  -- The result of a run of these steps over TCP.
  abbrev pub AnswersOverTcp : StepOptions → List Planned → (old new : K) → (first last : Option (List ℕ)) → (Reported : List ℕ → List Entry → Type 0) → (Quiet : Type 0) → Result Unit EndFault → Type 0
  AnswersOverTcp options plan old new first last Reported Quiet result = TracesRun options plan old new first last Reported Quiet result ⊎ NotBegun old new first last Quiet result

-- ---- a new till alone

-- The result of a run of these steps, possibly with a trace. Without a connection nothing is written or reported. The
-- words of the steps were parsed before, so none of them is wrong.
abbrev pub AnswersRun : {L : Type 0} → StepLaw L SettlingTill → (L → Type 0) → Settings → StepOptions → List Planned → (old new : Option (List ℕ)) → (Reported : List ℕ → List Entry → Type 0) → (Quiet : Type 0) → Result Unit EndFault → Type 0
AnswersRun makes begins settings options plan old new Reported Quiet (Ok done) = AnswersTraced (RunsPlan makes begins settings options plan old new Reported) (Ok done)
AnswersRun makes begins settings options plan old new Reported Quiet (Err (LineBroke fault)) = AnswersTraced (RunsPlan makes begins settings options plan old new Reported) (Err (LineBroke fault))
AnswersRun makes begins settings options plan old new Reported Quiet (Err (Silent seconds)) = (fault : LineFault) × AnswersTraced (RunsPlan makes begins settings options plan old new Reported) (Err (LineBroke fault))
AnswersRun makes begins settings options plan old new Reported Quiet (Err Trace) = AnswersTraced (RunsPlan makes begins settings options plan old new Reported) (Err Trace)
AnswersRun makes begins settings options plan old new Reported Quiet (Err Unsuccessful) = AnswersTraced (RunsPlan makes begins settings options plan old new Reported) (Err Unsuccessful)
AnswersRun makes begins settings options plan old new Reported Quiet (Err Write) = AnswersTraced (RunsPlan makes begins settings options plan old new Reported) (Err Write)
AnswersRun makes begins settings options plan old new Reported Quiet (Err Memory) = (Keeps old new × Quiet) ⊎ AnswersTraced (RunsPlan makes begins settings options plan old new Reported) (Err Memory)
AnswersRun makes begins settings options plan old new Reported Quiet (Err (Net why)) = Keeps old new × Quiet
AnswersRun makes begins settings options plan old new Reported Quiet result = ⊥
