-- The result of a till's run on a line, alone or with a book.
use Rattle.std.specs.Prelude.{◌≡◌, ◌⊎◌, ℕ, Bool, List, Option, Result, Ok, Err}
use Rattle.std.specs.Io.KnownBytes.{Keeps}
use Rattle.zvt_till.specs.View.{TillValue}
use Rattle.zvt_till.specs.declared.entries.Entry.{Entry}
use Rattle.zvt_till.specs.declared.keeper.BookFault.{BookFault}
use Rattle.zvt_runs.specs.declared.fault.EndFault.{EndFault}
use Rattle.zvt_runs.specs.declared.fault.EndFault.TheVariants.{Book}
use Rattle.zvt_runs.specs.declared.plans.Planned.{Planned}
use Rattle.zvt_runs.specs.declared.plans.StepOptions.{StepOptions}
use Rattle.zvt_runs.specs.Faults.{by_book}
use Rattle.zvt_runs.specs.Runs.{Answers, Law, standing}

-- a till alone has no book that could keep a note
abbrev pub forgets : {K : Type 0} → K → List ℕ → K
forgets till note = till

module _ {L K : Type 0} (connects : K → Result Unit BookFault → K → Type 0) (failed : K → Bool) (seen : K → TillValue) (makes : Law L K) (begins : L → Type 0) where
  -- The line is up and recorded in the book, if there is one, and the steps were made. `Reported` holds for the notes
  -- on them and for the till's entries.
  pub record RunsTill (options : StepOptions) (plan : List Planned) (old new : K) (first last : Option (List ℕ)) (Reported : List ℕ → List Entry → Type 0) (result : Result Unit EndFault) : Type 0 where
    pub before : L
    pub after : L
    pub connected : K
    pub ended : Result Unit EndFault
    pub begun : begins before
    pub up : connects old (Ok tt) connected
    pub answers : Answers seen makes options (λ notes. Reported notes (seen new).state.book) plan (standing before connected) (standing after new) first last ended
    pub is : result ≡ by_book (failed new) ended

  -- The book could not be kept before a step. Nothing was sent, written or reported.
  pub record NoLine (old new : K) (first last : Option (List ℕ)) (Quiet : Type 0) (result : Result Unit EndFault) : Type 0 where
    pub why : BookFault
    pub broke : connects old (Err why) new
    pub unwritten : Keeps first last
    pub quiet : Quiet
    pub is : result ≡ Err Book

  -- The result of a run of these steps on a line.
  abbrev pub AnswersPlan : StepOptions → List Planned → (old new : K) → (first last : Option (List ℕ)) → (Reported : List ℕ → List Entry → Type 0) → (Quiet : Type 0) → Result Unit EndFault → Type 0
  AnswersPlan options plan old new first last Reported Quiet result = RunsTill options plan old new first last Reported result ⊎ NoLine old new first last Quiet result
