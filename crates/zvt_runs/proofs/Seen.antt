-- A run, by what contracts see of its line, and by what was reported of it.
use Rattle.std.proofs.Common.{◌≡◌, ◌∙◌, Bool, ℕ, List, [], ◌∷◌, Option, Some, None, Result, Ok, Err, ap, inl, inr, subst, sym}
use Rattle.zvt_runs.specs.declared.plans.StepOptions.{StepOptions}
use Rattle.zvt_till.specs.declared.entries.Entry.{Entry}
use Rattle.zvt_till.specs.declared.keeper.BookFault.{BookFault}
use Rattle.zvt_runs.specs.declared.asking.Ended.{Ended}
use Rattle.zvt_till.specs.declared.line.RunFault.{RunFault}
use Rattle.zvt_settle.specs.declared.settling.SettlingTill.{SettlingTill}
use Rattle.zvt_settle.specs.Inside.{both_of, till_inside}
use Rattle.zvt_settle.specs.Keeping.{never_fails, settling_connects}
use Rattle.zvt_settle.specs.Settling.{Both, Line, new_both, take}
use Rattle.zvt_till.specs.Sending.{Settings}
use Rattle.zvt_till.specs.View.{TillValue}
use Rattle.zvt_till.specs.declared.happenings.Happening.TheVariants.{Connected}
use Rattle.zvt_runs.specs.declared.fault.EndFault.{EndFault}
use Rattle.zvt_runs.specs.declared.fault.EndFault.TheVariants.{BadStep, Book, Line as LineBroke, Memory, Net, Silent, Trace, Unsuccessful, Write}
use Rattle.zvt_runs.specs.declared.plans.Planned.{Planned}
use Rattle.zvt_runs.specs.Made.{Made}
use Rattle.zvt_runs.specs.Notes.{notes_text}
use Rattle.zvt_runs.specs.Reporting.{Reports, ReportsReversals, ReportsRun}
use Rattle.zvt_runs.specs.Runs.{Answers, EndsInStep, EndsInTotal, Law, MakesAll, MakesTo, Ran, RunsOut, Standing, StepLaw, by_step, noting, standing}
use Rattle.zvt_runs.specs.RunsPlan.{RunsPlan}
use Rattle.zvt_runs.specs.TillRuns.{AnswersPlan, forgets}

-- ---- a line that contracts see as something else

abbrev pub as_seen : {L S T : Type 0} → (L → S) → Standing L T → Standing S T
as_seen seen s = standing (seen s.line) s.till

-- what a step does by the one law, it does by the other on the line that is seen
abbrev pub IsSeen : {L S T : Type 0} → (L → S) → Law L T → Law S T → Type 0
IsSeen {L} {S} {T} seen from to =
    (line : L) (till : T) (planned : Planned) (result : Result Ended RunFault) (left : L) (new : T) → from line till planned result left new → to (seen line) till planned result (seen left) new

module _ {L S T : Type 0} (look : T → TillValue) (seen : L → S) (from : Law L T) (to : Law S T) (is : IsSeen seen from to) where
  all_seen : (plan : List Planned) (before after : Standing L T) (all : List Made) → MakesAll look from plan before after all → MakesAll look to plan (as_seen seen before) (as_seen seen after) all
  all_seen [] before after all made = (ap (as_seen seen) made.0, made.1)
  all_seen (planned ∷ plan) before after all made =
      (made.0, as_seen seen made.1, made.2, is before.line before.till planned made.0 made.1.line made.1.till made.3, made.4, all_seen plan made.1 after made.2 made.5, made.6)

  to_seen : (plan : List Planned) (broken : Option EndFault) (before after : Standing L T) (all : List Made) → MakesTo look from plan broken before after all → MakesTo look to plan broken (as_seen seen before) (as_seen seen after) all
  to_seen plan None before after all made = all_seen plan before after all made
  to_seen plan (Some fault) before after all b = record {
    done = b.done;
    planned = b.planned;
    later = b.later;
    middle = as_seen seen b.middle;
    result = b.result;
    earlier = b.earlier;
    cut = b.cut;
    made = all_seen b.done before b.middle b.earlier b.made;
    breaks = is b.middle.line b.middle.till b.planned b.result after.line after.till b.breaks;
    stops = b.stops;
    whole = b.whole;
  }

  module _ (options : StepOptions) (Noted Told : List ℕ → Type 0) (told : (text : List ℕ) → Noted text → Told text) where
    step_seen : (plan : List Planned) (before after : Standing L T) (old new : Option (List ℕ))
        → EndsInStep look from options Noted plan before after old new → EndsInStep look to options Told plan (as_seen seen before) (as_seen seen after) old new
    step_seen plan before after old new s = record {
      done = s.done;
      planned = s.planned;
      later = s.later;
      middle = as_seen seen s.middle;
      result = s.result;
      earlier = s.earlier;
      between = s.between;
      cut = s.cut;
      all = all_seen s.done before s.middle s.earlier s.all;
      made = is s.middle.line s.middle.till s.planned s.result after.line after.till s.made;
      appended = s.appended;
      partly = s.partly;
      noted = told _ s.noted;
    }

    out_seen : (plan : List Planned) (before after : Standing L T) (old new : Option (List ℕ))
        → RunsOut look from options Noted plan before after old new → RunsOut look to options Told plan (as_seen seen before) (as_seen seen after) old new
    out_seen plan before after old new s = record {
      done = s.done;
      planned = s.planned;
      later = s.later;
      middle = as_seen seen s.middle;
      result = s.result;
      earlier = s.earlier;
      cut = s.cut;
      all = all_seen s.done before s.middle s.earlier s.all;
      made = is s.middle.line s.middle.till s.planned s.result after.line after.till s.made;
      appended = s.appended;
      noted = told _ s.noted;
    }

    total_seen : (Part : List ℕ → List ℕ → Type 0) (plan : List Planned) (before after : Standing L T) (old new : Option (List ℕ))
        → EndsInTotal look from options Noted Part plan before after old new → EndsInTotal look to options Told Part plan (as_seen seen before) (as_seen seen after) old new
    total_seen Part plan before after old new t = record {
      broken = t.broken;
      all = t.all;
      between = t.between;
      made = to_seen plan t.broken before after t.all t.made;
      appended = t.appended;
      partly = t.partly;
      noted = told _ t.noted;
    }

    ran_seen : (plan : List Planned) (broken : Option EndFault) (before after : Standing L T) (old new : Option (List ℕ))
        → Ran look from options Noted plan broken before after old new → Ran look to options Told plan broken (as_seen seen before) (as_seen seen after) old new
    ran_seen plan broken before after old new run = record { all = run.all; made = to_seen plan broken before after run.all run.made; appended = run.appended; noted = told (notes_text run.all) run.noted }

    pub answers_seen : (plan : List Planned) (before after : Standing L T) (old new : Option (List ℕ)) (result : Result Unit EndFault)
        → Answers look from options Noted plan before after old new result → Answers look to options Told plan (as_seen seen before) (as_seen seen after) old new result
    unfolding ran_seen
    answers_seen plan before after old new (Ok done) run = (ran_seen plan None before after old new run.0, run.1)
    answers_seen plan before after old new (Err Unsuccessful) run = (ran_seen plan None before after old new run.0, run.1, run.2)
    answers_seen plan before after old new (Err (LineBroke fault)) run = ran_seen plan (Some (LineBroke fault)) before after old new run
    answers_seen plan before after old new (Err Book) run = ran_seen plan (Some Book) before after old new run
    answers_seen plan before after old new (Err Write) (inl run) = inl (step_seen plan before after old new run)
    answers_seen plan before after old new (Err Write) (inr run) = inr (total_seen _ plan before after old new run)
    answers_seen plan before after old new (Err Memory) (inl run) = inl (out_seen plan before after old new run)
    answers_seen plan before after old new (Err Memory) (inr run) = inr (total_seen _ plan before after old new run)
    answers_seen plan before after old new (Err (BadStep at)) run = absurd run
    answers_seen plan before after old new (Err (Net why)) run = absurd run
    answers_seen plan before after old new (Err (Silent seconds)) run = absurd run
    answers_seen plan before after old new (Err Trace) run = absurd run

-- ---- a run

-- the notes of a run were reported, and something after them
pub answers_told : {L T : Type 0} (look : T → TillValue) (law : Law L T) (options : StepOptions) (Noted Told : List ℕ → Type 0) (told : (text : List ℕ) → Noted text → Told text) (plan : List Planned) (before after : Standing L T) (old new : Option (List ℕ)) (result : Result Unit EndFault)
    → Answers look law options Noted plan before after old new result → Answers look law options Told plan before after old new result
answers_told look law options Noted Told told plan before after old new result run = answers_seen look (λ l. l) law law (λ line till planned r left after_till made. made) options Noted Told told plan before after old new result run

-- the notes of a run were reported, and then the unclear reversals of its book
pub then_reversals : (old between new : Option (List ℕ)) (before failures after : ℕ) (book : List Entry) → ReportsReversals between new failures after book
    → (notes : List ℕ) → Reports notes old between before failures → ReportsRun old new before after notes book
then_reversals old between new before failures after book reversals notes noted = record { between = between; failures = failures; noted = noted; reversals = reversals }

-- a run of a till on a line that contracts see as something else
pub plan_seen : {L S K : Type 0} (connects : K → Result Unit BookFault → K → Type 0) (failed : K → Bool) (look : K → TillValue) (noted : K → List ℕ → K) (seen : L → S) (law : StepLaw S K) (begins : S → Type 0) (start : L)
    (options : StepOptions) (plan : List Planned) (old new : K) (first last : Option (List ℕ)) (Reported : List ℕ → List Entry → Type 0) (Quiet : Type 0) (result : Result Unit EndFault)
    → begins (seen start) → AnswersPlan connects failed look (noting noted (λ line till made r left after. law (seen line) till made r (seen left) after)) (λ begun. begun ≡ start) options plan old new first last Reported Quiet result
    → AnswersPlan connects failed look (noting noted law) begins options plan old new first last Reported Quiet result
plan_seen connects failed look noted seen law begins start options plan old new first last Reported Quiet result begun (inl run) = inl (record {
  before = seen run.before;
  after = seen run.after;
  connected = run.connected;
  ended = run.ended;
  begun = subst (λ l. begins (seen l)) (sym run.begun) begun;
  up = run.up;
  answers = answers_seen look seen (noting noted (λ line till made r left after. law (seen line) till made r (seen left) after)) (noting noted law) (λ line till planned r left after made. made) options
      (λ notes. Reported notes (look new).state.book) (λ notes. Reported notes (look new).state.book) (λ notes told. told) plan (standing run.before run.connected) (standing run.after new) first last run.ended run.answers;
  is = run.is;
})
plan_seen connects failed look noted seen law begins start options plan old new first last Reported Quiet result begun (inr none) = inr (record {
  why = none.why;
  broke = none.broke;
  unwritten = none.unwritten;
  quiet = none.quiet;
  is = none.is;
})

-- a new till alone made the steps
pub ran_alone : {L : Type 0} (law : StepLaw L SettlingTill) (begins : L → Type 0) (settings : Settings) (options : StepOptions) (plan : List Planned) (old new : SettlingTill) (first last : Option (List ℕ)) (Reported : List ℕ → List Entry → Type 0) (Quiet : Type 0) (result : Result Unit EndFault)
    → both_of old ≡ new_both settings → AnswersPlan settling_connects never_fails till_inside (noting forgets law) begins options plan old new first last Reported Quiet result → RunsPlan law begins settings options plan first last Reported result
ran_alone law begins settings options plan old new first last Reported Quiet result is_new (inl run) = record {
  before = standing run.before run.connected;
  after = standing run.after new;
  begun = run.begun;
  connected = run.up.0 ∙ ap (λ (b : Both). take b (Line Connected)) is_new;
  answers = subst (λ (r : Result Unit EndFault). Answers till_inside (by_step law) options (λ notes. Reported notes (till_inside new).state.book) plan (standing run.before run.connected) (standing run.after new) first last r) (sym run.is)
      (answers_seen till_inside (λ l. l) (noting forgets law) (by_step law) (λ line till planned r left after made. made.2) options (λ notes. Reported notes (till_inside new).state.book) (λ notes. Reported notes (till_inside new).state.book) (λ notes told. told)
      plan (standing run.before run.connected) (standing run.after new) first last run.ended run.answers);
}
ran_alone law begins settings options plan old new first last Reported Quiet result is_new (inr none) = absurd none.broke
