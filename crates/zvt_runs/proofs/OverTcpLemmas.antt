-- Runs over TCP of a till, alone or with a book.
use Rattle.std.proofs.Common.{◌≡◌, ◌∙◌, ap, ℕ, List, Option, Some, None, Bool, true, false, Result, Ok, Err, refl, subst, inl}
use Rattle.zvt_stream.specs.LineReading.{LineReading}
use Rattle.zvt_stream.specs.EndState.{EndState}
use Rattle.zvt_runs.specs.declared.plans.StepOptions.{StepOptions}
use Rattle.zvt_till.specs.View.{TillValue}
use Rattle.zvt_till.specs.declared.entries.Entry.{Entry}
use Rattle.zvt_till.specs.declared.keeper.BookFault.{BookFault}
use Rattle.zvt_runs.specs.declared.fault.EndFault.{EndFault}
use Rattle.zvt_runs.specs.declared.fault.EndFault.TheVariants.{BadStep, Book, Line, Memory, Net, Silent, Trace, Unsuccessful, Write}
use Rattle.zvt_runs.specs.declared.plans.Planned.{Planned}
use Rattle.zvt_runs.specs.Runs.{Law}
use Rattle.zvt_runs.specs.TillEnd.{BeginsThere}
use Rattle.zvt_runs.specs.TillRuns.{AnswersPlan}
use Rattle.zvt_runs.specs.OverTcp.{AnswersOverTcp}
use Rattle.zvt_runs.specs.Traced.{by_silence, by_trace}

module _ {L K : Type 0} (connects : K → Result Unit BookFault → K → Type 0) (failed : K → Bool) (seen : K → TillValue) (makes : Law L K) (begins : L → Type 0)
    (options : StepOptions) (plan : List Planned) (old new : K) (first last : Option (List ℕ)) (Reported : List ℕ → List Entry → Type 0) (Quiet : Type 0) where
  -- a run over TCP, with a trace perhaps
  pub traced : (lacks : Bool) (ended result : Result Unit EndFault) → result ≡ by_trace lacks ended → AnswersPlan connects failed seen makes begins options plan old new first last Reported Quiet ended
      → AnswersOverTcp connects failed seen makes begins options plan old new first last Reported Quiet result
  traced lacks ended result is answers = inl (record { ended = ended; lacks = lacks; waited = None; answers = answers; is = is })

  -- the same where the terminal was silent for too long, or was not
  pub silenced : (lacks : Bool) (waited : Option ℕ) (ended whole result : Result Unit EndFault) → whole ≡ by_trace lacks ended → result ≡ by_silence waited whole
      → AnswersPlan connects failed seen makes begins options plan old new first last Reported Quiet ended → AnswersOverTcp connects failed seen makes begins options plan old new first last Reported Quiet result
  silenced lacks waited ended whole result is silent answers = inl (record { ended = ended; lacks = lacks; waited = waited; answers = answers; is = silent ∙ ap (by_silence waited) is })

-- a run on a line whose stream has that reading
pub begun_there : {K : Type 0} (connects : K → Result Unit BookFault → K → Type 0) (failed : K → Bool) (seen : K → TillValue) (makes : Law EndState K) (r k : LineReading)
    (options : StepOptions) (plan : List Planned) (old new : K) (first last : Option (List ℕ)) (Reported : List ℕ → List Entry → Type 0) (Quiet : Type 0) (result : Result Unit EndFault)
    → r ≡ k → AnswersPlan connects failed seen makes (BeginsThere r) options plan old new first last Reported Quiet result → AnswersPlan connects failed seen makes (BeginsThere k) options plan old new first last Reported Quiet result
begun_there connects failed seen makes r k options plan old new first last Reported Quiet result e = subst (λ (x : LineReading). AnswersPlan connects failed seen makes (BeginsThere x) options plan old new first last Reported Quiet result) e

-- a trace or a silence makes no run one whose text could not be written

pub traced_write : (lacks : Bool) (ended : Result Unit EndFault) → by_trace lacks ended ≡ Err Write → ended ≡ Err Write
traced_write false ended is = is
traced_write true (Ok done) is = absurd (cc)
traced_write true (Err (Line fault)) is = absurd (cc)
traced_write true (Err Unsuccessful) is = absurd (cc)
traced_write true (Err Trace) is = absurd (cc)
traced_write true (Err Book) is = absurd (cc)
traced_write true (Err Write) is = refl
traced_write true (Err Memory) is = absurd (cc)
traced_write true (Err (BadStep at)) is = absurd (cc)
traced_write true (Err (Net why)) is = absurd (cc)
traced_write true (Err (Silent seconds)) is = absurd (cc)

pub silenced_write : (waited : Option ℕ) (ended : Result Unit EndFault) → by_silence waited ended ≡ Err Write → ended ≡ Err Write
silenced_write None ended is = is
silenced_write (Some seconds) (Ok done) is = absurd (cc)
silenced_write (Some seconds) (Err (Line fault)) is = absurd (cc)
silenced_write (Some seconds) (Err Unsuccessful) is = absurd (cc)
silenced_write (Some seconds) (Err Trace) is = absurd (cc)
silenced_write (Some seconds) (Err Book) is = absurd (cc)
silenced_write (Some seconds) (Err Write) is = refl
silenced_write (Some seconds) (Err Memory) is = absurd (cc)
silenced_write (Some seconds) (Err (BadStep at)) is = absurd (cc)
silenced_write (Some seconds) (Err (Net why)) is = absurd (cc)
silenced_write (Some seconds) (Err (Silent before)) is = absurd (cc)
