-- The steps that a run makes, and the text that it writes and reports.
use Rattle.std.specs.Prelude.{◌≡◌, ◌⊎◌, ◌&&◌, ℕ, true, false, List, [], ◌∷◌, ◌++◌, Option, Some, None, Result, Ok, Err}
use Rattle.std.specs.Io.KnownBytes.{Appends}
use Rattle.std.specs.String.{string_bytes}
use Rattle.zvt_io.specs.Devices.{IsPrefix}
use Rattle.zvt_runs.specs.declared.plans.StepOptions.{StepOptions}
use Rattle.zvt_till.specs.Marks.{total}
use Rattle.zvt_till.specs.View.{TillValue}
use Rattle.zvt_till.specs.declared.line.RunFault.{RunFault}
use Rattle.zvt_runs.specs.declared.asking.Ended.{Ended}
use Rattle.zvt_runs.specs.declared.fault.EndFault.{EndFault}
use Rattle.zvt_runs.specs.declared.fault.EndFault.TheVariants.{Book, Line as LineBroke, Memory, Unsuccessful, Write}
use Rattle.zvt_runs.specs.declared.plans.Planned.{Planned}
use Rattle.zvt_runs.specs.declared.arguments.Step.{Step}
use Rattle.zvt_runs.specs.Made.{Made, made_line, made_lines, some_short, stop_of, wants_memory}
use Rattle.zvt_runs.specs.Notes.{notes_text}
use Rattle.zvt_runs.specs.Objects.{total_line}
use Rattle.zvt_runs.specs.Words.{IsNoteOf}

-- the next step is made
abbrev pub GoesOn : Result Ended RunFault → Type 0
GoesOn result = (stop_of result ≡ None) × (wants_memory result ≡ false)

-- a line and its till
pub record Standing (L T : Type 0) : Type 0 where
  pub line : L
  pub till : T

abbrev pub standing : {L T : Type 0} → L → T → Standing L T
standing line till = record { line = line; till = till }

-- the result of a step that a till, alone or with a book, makes on a line
abbrev pub StepLaw : Type 0 → Type 0 → Type 1
StepLaw L T = L → T → Step → Result Ended RunFault → L → T → Type 0

-- the result of a step that a word names
abbrev pub Law : Type 0 → Type 0 → Type 1
Law L T = L → T → Planned → Result Ended RunFault → L → T → Type 0

-- the step itself counts, and the rest of the word does not
abbrev pub by_step : {L T : Type 0} → StepLaw L T → Law L T
by_step makes line till planned result left new = makes line till planned.step result left new

-- the till's next order has the note of the step's word
abbrev pub noting : {L T : Type 0} → (noted : T → List ℕ → T) → StepLaw L T → Law L T
noting noted makes line till planned result left new =
    (note : List ℕ) × IsNoteOf (string_bytes planned.word) note × makes line (noted till note) planned.step result left new

-- a step that was made, with the till after it as contracts see it
abbrev pub made_of : {T : Type 0} → (T → TillValue) → Planned → Result Ended RunFault → T → Made
made_of seen planned result till = record { planned = planned; result = result; till = seen till }

-- These steps were made one after another. None stopped the run, and memory sufficed for each order.
abbrev pub MakesAll : {L T : Type 0} → (T → TillValue) → Law L T → List Planned → Standing L T → Standing L T → List Made → Type 0
MakesAll seen makes [] before after all = (after ≡ before) × (all ≡ [])
MakesAll {L} {T} seen makes (planned ∷ plan) before after all =
    (result : Result Ended RunFault) × (middle : Standing L T) × (later : List Made)
    × makes before.line before.till planned result middle.line middle.till × GoesOn result × MakesAll seen makes plan middle after later
    × (all ≡ made_of seen planned result middle.till ∷ later)

-- A step stopped the run with this fault, and no step after it was made.
pub record BreaksIn {L T : Type 0} (seen : T → TillValue) (makes : Law L T) (plan : List Planned) (fault : EndFault) (before after : Standing L T) (all : List Made) : Type 0 where
  pub done : List Planned
  pub planned : Planned
  pub later : List Planned
  pub middle : Standing L T
  pub result : Result Ended RunFault
  pub earlier : List Made
  pub cut : plan ≡ done ++ planned ∷ later
  pub made : MakesAll seen makes done before middle earlier
  pub breaks : makes middle.line middle.till planned result after.line after.till
  pub stops : stop_of result ≡ Some fault
  pub whole : all ≡ earlier ++ made_of seen planned result after.till ∷ []

-- All steps were made, or the steps up to the one that stopped the run.
abbrev pub MakesTo : {L T : Type 0} → (T → TillValue) → Law L T → List Planned → Option EndFault → Standing L T → Standing L T → List Made → Type 0
MakesTo seen makes plan None before after all = MakesAll seen makes plan before after all
MakesTo seen makes plan (Some fault) before after all = BreaksIn seen makes plan fault before after all

-- The steps were made, their notes were reported, and the total follows their lines.
pub record Ran {L T : Type 0} (seen : T → TillValue) (makes : Law L T) (options : StepOptions) (Noted : List ℕ → Type 0) (plan : List Planned) (broken : Option EndFault) (before after : Standing L T) (old new : Option (List ℕ)) : Type 0 where
  pub all : List Made
  pub made : MakesTo seen makes plan broken before after all
  pub appended : Appends old new (made_lines options.form all ++ total_line options.form (total (seen after.till).state.book))
  pub noted : Noted (notes_text all)

-- ---- where the text could not be written whole

-- nothing of the text was written
abbrev pub IsMissing : List ℕ → List ℕ → Type 0
IsMissing part text = part ≡ []

-- a part of the text with this property was written
abbrev pub WritesPart : (List ℕ → List ℕ → Type 0) → List ℕ → (old new : Option (List ℕ)) → Type 0
WritesPart Part text old new = (part : List ℕ) × Part part text × Appends old new part

-- The steps up to this one were made, each once, and their notes were reported. The lines of all steps before it were
-- written, and a prefix of its own line.
pub record EndsInStep {L T : Type 0} (seen : T → TillValue) (makes : Law L T) (options : StepOptions) (Noted : List ℕ → Type 0) (plan : List Planned) (before after : Standing L T) (old new : Option (List ℕ)) : Type 0 where
  pub done : List Planned
  pub planned : Planned
  pub later : List Planned
  pub middle : Standing L T
  pub result : Result Ended RunFault
  pub earlier : List Made
  pub between : Option (List ℕ)
  pub cut : plan ≡ done ++ planned ∷ later
  pub all : MakesAll seen makes done before middle earlier
  pub made : makes middle.line middle.till planned result after.line after.till
  pub appended : Appends old between (made_lines options.form earlier)
  pub partly : WritesPart IsPrefix (made_line options.form (made_of seen planned result after.till)) between new
  pub noted : Noted (notes_text (earlier ++ made_of seen planned result after.till ∷ []))

-- The steps up to this one were made, each once. Memory ran out before its line and its note were complete: the lines
-- and notes of all steps before it were written and reported, and nothing else.
pub record RunsOut {L T : Type 0} (seen : T → TillValue) (makes : Law L T) (options : StepOptions) (Noted : List ℕ → Type 0) (plan : List Planned) (before after : Standing L T) (old new : Option (List ℕ)) : Type 0 where
  pub done : List Planned
  pub planned : Planned
  pub later : List Planned
  pub middle : Standing L T
  pub result : Result Ended RunFault
  pub earlier : List Made
  pub cut : plan ≡ done ++ planned ∷ later
  pub all : MakesAll seen makes done before middle earlier
  pub made : makes middle.line middle.till planned result after.line after.till
  pub appended : Appends old new (made_lines options.form earlier)
  pub noted : Noted (notes_text earlier)

-- All steps were made, or the steps up to the one that stopped the run, each once. Their notes were reported, their
-- lines were written, and a part of the total with this property.
pub record EndsInTotal {L T : Type 0} (seen : T → TillValue) (makes : Law L T) (options : StepOptions) (Noted : List ℕ → Type 0) (Part : List ℕ → List ℕ → Type 0) (plan : List Planned) (before after : Standing L T) (old new : Option (List ℕ)) : Type 0 where
  pub broken : Option EndFault
  pub all : List Made
  pub between : Option (List ℕ)
  pub made : MakesTo seen makes plan broken before after all
  pub appended : Appends old between (made_lines options.form all)
  pub partly : WritesPart Part (total_line options.form (total (seen after.till).state.book)) between new
  pub noted : Noted (notes_text all)

-- ---- what functions answer

-- The result of a run whose notes were reported like this. A step that did not succeed is a fault only if the run
-- checks its steps.
abbrev pub Answers : {L T : Type 0} → (T → TillValue) → Law L T → StepOptions → (Noted : List ℕ → Type 0) → List Planned → Standing L T → Standing L T → Option (List ℕ) → Option (List ℕ) → Result Unit EndFault → Type 0
Answers seen makes options Noted plan before after old new (Ok done) = (run : Ran seen makes options Noted plan None before after old new) × ((options.check && some_short run.all) ≡ false)
Answers seen makes options Noted plan before after old new (Err Unsuccessful) = (run : Ran seen makes options Noted plan None before after old new) × (options.check ≡ true) × (some_short run.all ≡ true)
Answers seen makes options Noted plan before after old new (Err (LineBroke fault)) = Ran seen makes options Noted plan (Some (LineBroke fault)) before after old new
Answers seen makes options Noted plan before after old new (Err Write) = EndsInStep seen makes options Noted plan before after old new ⊎ EndsInTotal seen makes options Noted IsPrefix plan before after old new
Answers seen makes options Noted plan before after old new (Err Memory) = RunsOut seen makes options Noted plan before after old new ⊎ EndsInTotal seen makes options Noted IsMissing plan before after old new
Answers seen makes options Noted plan before after old new (Err Book) = Ran seen makes options Noted plan (Some Book) before after old new
Answers seen makes options Noted plan before after old new result = ⊥

-- The result of writing a text.
abbrev pub AnswersText : List ℕ → Option (List ℕ) → Option (List ℕ) → Result Unit EndFault → Type 0
AnswersText text old new (Ok done) = Appends old new text
AnswersText text old new (Err Write) = WritesPart IsPrefix text old new
AnswersText text old new (Err Memory) = WritesPart IsMissing text old new
AnswersText text old new result = ⊥
