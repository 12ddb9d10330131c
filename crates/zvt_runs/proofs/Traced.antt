-- A run whose trace broke, or did not.
use Rattle.std.proofs.Common.{◌≡◌, ℕ, List, Option, Some, None, Bool, true, false, Result, Ok, Err, inl, inr, subst, sym}
use Rattle.zvt_runs.specs.declared.plans.StepOptions.{StepOptions}
use Rattle.zvt_till.specs.declared.entries.Entry.{Entry}
use Rattle.zvt_till.specs.Sending.{Settings}
use Rattle.zvt_runs.specs.RunsPlan.{RunsPlan}
use Rattle.zvt_settle.specs.declared.settling.SettlingTill.{SettlingTill}
use Rattle.zvt_settle.specs.Inside.{both_of, till_inside}
use Rattle.zvt_settle.specs.Keeping.{never_fails, settling_connects}
use Rattle.zvt_settle.specs.Settling.{new_both}
use Rattle.zvt_runs.specs.Runs.{StepLaw, noting}
use Rattle.zvt_runs.specs.TillRuns.{forgets}
use Rattle.zvt_runs.proofs.Alone.{HasNoBook}
use Rattle.zvt_runs.proofs.Seen.{ran_alone}
use Rattle.zvt_runs.specs.declared.plans.Planned.{Planned}
use Rattle.zvt_runs.specs.OverTcp.{AnswersOverTcp, AnswersRun}
use Rattle.zvt_runs.specs.Traced.{AnswersTraced, by_silence, by_trace}
use Rattle.zvt_runs.specs.declared.fault.EndFault.{EndFault}
use Rattle.zvt_runs.specs.declared.fault.EndFault.TheVariants.{BadStep, Book, Line, Memory, Net, Silent, Trace, Unsuccessful, Write}

whole : (Answers : Result Unit EndFault → Type 0) (result : Result Unit EndFault) → (Answers (Err Trace) → ⊥) → Answers result → AnswersTraced Answers result
whole Answers (Ok done) never a = a
whole Answers (Err Trace) never a = absurd (never a)
whole Answers (Err Book) never a = a
whole Answers (Err Unsuccessful) never a = a
whole Answers (Err (Line fault)) never a = a
whole Answers (Err Write) never a = a
whole Answers (Err Memory) never a = a
whole Answers (Err (BadStep at)) never a = a
whole Answers (Err (Net why)) never a = a
whole Answers (Err (Silent seconds)) never a = a

traced : (Answers : Result Unit EndFault → Type 0) (broken : Bool) (result : Result Unit EndFault) → (Answers (Err Trace) → ⊥) → Answers result
    → AnswersTraced Answers (by_trace broken result)
traced Answers false result never a = whole Answers result never a
traced Answers true (Ok done) never a = (Ok done, tt, a)
traced Answers true (Err Trace) never a = absurd (never a)
traced Answers true (Err (Line fault)) never a = (Err (Line fault), tt, a)
traced Answers true (Err Unsuccessful) never a = (Err Unsuccessful, tt, a)
traced Answers true (Err Book) never a = a
traced Answers true (Err Write) never a = a
traced Answers true (Err Memory) never a = a
traced Answers true (Err (BadStep at)) never a = a
traced Answers true (Err (Net why)) never a = a
traced Answers true (Err (Silent seconds)) never a = a

-- no run of a till alone ends for its book
bookless : {L : Type 0} (makes : StepLaw L SettlingTill) (begins : L → Type 0) (settings : Settings) (options : StepOptions) (plan : List Planned) (old new : Option (List ℕ)) (Reported : List ℕ → List Entry → Type 0)
    → HasNoBook makes → RunsPlan makes begins settings options plan old new Reported (Err Book) → ⊥
bookless makes begins settings options plan old new Reported never run =
    let b = run.answers.made in
    never b.middle.line b.middle.till b.planned.step b.result run.after.line run.after.till b.breaks b.stops

-- what a run of steps answers
answers : {L : Type 0} (makes : StepLaw L SettlingTill) (begins : L → Type 0) (settings : Settings) (options : StepOptions) (plan : List Planned) (old new : Option (List ℕ)) (Reported : List ℕ → List Entry → Type 0) (Quiet : Type 0) (result : Result Unit EndFault)
    → HasNoBook makes → AnswersTraced (RunsPlan makes begins settings options plan old new Reported) result → AnswersRun makes begins settings options plan old new Reported Quiet result
answers makes begins settings options plan old new Reported Quiet (Ok done) never runs = runs
answers makes begins settings options plan old new Reported Quiet (Err (Line fault)) never runs = runs
answers makes begins settings options plan old new Reported Quiet (Err Trace) never runs = runs
answers makes begins settings options plan old new Reported Quiet (Err Unsuccessful) never runs = runs
answers makes begins settings options plan old new Reported Quiet (Err Book) never runs = absurd (bookless makes begins settings options plan old new Reported never runs)
answers makes begins settings options plan old new Reported Quiet (Err Write) never runs = runs
answers makes begins settings options plan old new Reported Quiet (Err Memory) never runs = inr runs
answers makes begins settings options plan old new Reported Quiet (Err (BadStep at)) never runs = absurd runs.answers
answers makes begins settings options plan old new Reported Quiet (Err (Net why)) never runs = absurd runs.answers
answers makes begins settings options plan old new Reported Quiet (Err (Silent seconds)) never runs = absurd runs.answers

-- the terminal was silent for too long, or was not
silenced : {L : Type 0} (makes : StepLaw L SettlingTill) (begins : L → Type 0) (settings : Settings) (options : StepOptions) (plan : List Planned) (old new : Option (List ℕ)) (Reported : List ℕ → List Entry → Type 0) (Quiet : Type 0) (waited : Option ℕ) (result : Result Unit EndFault)
    → AnswersRun makes begins settings options plan old new Reported Quiet result → AnswersRun makes begins settings options plan old new Reported Quiet (by_silence waited result)
silenced makes begins settings options plan old new Reported Quiet None result runs = runs
silenced makes begins settings options plan old new Reported Quiet (Some seconds) (Ok done) runs = runs
silenced makes begins settings options plan old new Reported Quiet (Some seconds) (Err (Line fault)) runs = (fault, runs)
silenced makes begins settings options plan old new Reported Quiet (Some seconds) (Err (Silent before)) runs = runs
silenced makes begins settings options plan old new Reported Quiet (Some seconds) (Err Trace) runs = runs
silenced makes begins settings options plan old new Reported Quiet (Some seconds) (Err Unsuccessful) runs = runs
silenced makes begins settings options plan old new Reported Quiet (Some seconds) (Err Book) runs = runs
silenced makes begins settings options plan old new Reported Quiet (Some seconds) (Err Write) runs = runs
silenced makes begins settings options plan old new Reported Quiet (Some seconds) (Err Memory) runs = runs
silenced makes begins settings options plan old new Reported Quiet (Some seconds) (Err (BadStep at)) runs = runs
silenced makes begins settings options plan old new Reported Quiet (Some seconds) (Err (Net why)) runs = runs

-- a run of a new till alone, whose trace is whole or broke, and whose terminal was silent for too long or was not
pub alone : {L : Type 0} (makes : StepLaw L SettlingTill) (begins : L → Type 0) (settings : Settings) (options : StepOptions) (plan : List Planned) (till left : SettlingTill) (old new : Option (List ℕ)) (Reported : List ℕ → List Entry → Type 0) (Quiet : Type 0) (result : Result Unit EndFault)
    → HasNoBook makes → both_of till ≡ new_both settings → AnswersOverTcp settling_connects never_fails till_inside (noting forgets makes) begins options plan till left old new Reported Quiet result
    → AnswersRun makes begins settings options plan old new Reported Quiet result
alone makes begins settings options plan till left old new Reported Quiet result never is_new (inl run) =
    let ran = ran_alone makes begins settings options plan till left old new Reported Quiet run.ended is_new run.answers in
    let whole = answers makes begins settings options plan old new Reported Quiet (by_trace run.lacks run.ended) never (traced (RunsPlan makes begins settings options plan old new Reported) run.lacks run.ended (λ r. r.answers) ran) in
    subst (λ (r : Result Unit EndFault). AnswersRun makes begins settings options plan old new Reported Quiet r) (sym run.is) (silenced makes begins settings options plan old new Reported Quiet run.waited (by_trace run.lacks run.ended) whole)
alone makes begins settings options plan till left old new Reported Quiet (Err Memory) never is_new (inr none) = inl (none.unwritten, none.quiet)
alone makes begins settings options plan till left old new Reported Quiet (Err (Net why)) never is_new (inr none) = (none.unwritten, none.quiet)
alone makes begins settings options plan till left old new Reported Quiet (Ok done) never is_new (inr none) = absurd none.unbegun
alone makes begins settings options plan till left old new Reported Quiet (Err (Line fault)) never is_new (inr none) = absurd none.unbegun
alone makes begins settings options plan till left old new Reported Quiet (Err Trace) never is_new (inr none) = absurd none.unbegun
alone makes begins settings options plan till left old new Reported Quiet (Err Unsuccessful) never is_new (inr none) = absurd none.unbegun
alone makes begins settings options plan till left old new Reported Quiet (Err Book) never is_new (inr none) = absurd none.unbegun
alone makes begins settings options plan till left old new Reported Quiet (Err Write) never is_new (inr none) = absurd none.unbegun
alone makes begins settings options plan till left old new Reported Quiet (Err (BadStep at)) never is_new (inr none) = absurd none.unbegun
alone makes begins settings options plan till left old new Reported Quiet (Err (Silent seconds)) never is_new (inr none) = absurd none.unbegun
