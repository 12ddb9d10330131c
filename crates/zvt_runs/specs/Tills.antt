-- A simulated terminal's service of one connection after another.
use Rattle.std.specs.Prelude.{◌≡◌, ◌≤◌, ◌+◌, ℕ, List, [], ◌∷◌, length, Option, Some, None, Result, Ok, Err}
use Rattle.zvt_stream.specs.LineReading.{LineReading}
use Rattle.zvt_stream.specs.EndState.{EndState}
use Rattle.zvt_stream.specs.StreamState.{start_by}
use Rattle.zvt_stream.specs.declared.line.LineFault.{LineFault}
use Rattle.zvt_term.specs.Extended.{new_extended}
use Rattle.zvt_term.specs.Terminal.{TerminalState, lost_terminal}
use Rattle.zvt_term.specs.declared.extended.Extended.{Extended}
use Rattle.zvt_term.specs.declared.extras.Extras.{Extras}
use Rattle.zvt_term.specs.declared.turns.Verdict.{Verdict}
use Rattle.zvt_runs.specs.Service.{Serves}
use Rattle.zvt_runs.specs.declared.fault.EndFault.{EndFault}
use Rattle.zvt_runs.specs.declared.fault.EndFault.TheVariants.{Line as LineBroke, Memory, Net, Trace}

-- ---- one line

-- it has no line: no till is registered, and no order is running
abbrev pub IsOffline : TerminalState → Type 0
IsOffline terminal = terminal ≡ lost_terminal terminal

-- the result of serving a line, given how it broke, if it did
abbrev pub ended_by : Option LineFault → Result Unit LineFault
ended_by None = Ok tt
ended_by (Some fault) = Err fault

-- A terminal without a line served a fresh one, which is read in this way, until it ended or broke.
pub record ServesLine (r : LineReading) (old : Extended) (broke : Option LineFault) (new : Extended) : Type 0 where
  pub before : EndState
  pub after : EndState
  pub begins : before.stream ≡ start_by r
  pub offline : IsOffline old.served.terminal
  pub serves : Serves before old after new (ended_by broke)

-- ---- one line after another

-- The terminal that one line leaves serves the next one.
abbrev pub ServesLines : LineReading → List (Option LineFault) → Extended → Extended → Type 0
ServesLines r [] old new = new ≡ old
ServesLines r (broke ∷ more) old new = (middle : Extended) × ServesLine r old broke middle × ServesLines r more middle new

-- the fault of the first line that broke
abbrev pub first_broken : List (Option LineFault) → Option LineFault
first_broken [] = None
first_broken (None ∷ more) = first_broken more
first_broken (Some fault ∷ more) = Some fault

-- this many lines were served, and this is the fault of the first one that broke
pub record ServesMany (r : LineReading) (count : ℕ) (first : Option LineFault) (old new : Extended) : Type 0 where
  pub lines : List (Option LineFault)
  pub serves : ServesLines r lines old new
  pub counted : length lines ≡ count
  pub is_first : first_broken lines ≡ first

-- at most this many lines were served
abbrev pub ServesSome : LineReading → ℕ → Extended → Extended → Type 0
ServesSome r most old new = (count : ℕ) × (first : Option LineFault) × (count ≤ most) × ServesMany r count first old new

-- The result for this many tills: all were served, whether or not a line broke; or a connection could not be accepted,
-- a trace could not be written, or memory ran out while a till connected or was reported.
abbrev pub AnswersTills : LineReading → ℕ → Extended → Extended → Result Unit EndFault → Type 0
AnswersTills r count old new (Ok done) = ServesMany r count None old new
AnswersTills r count old new (Err (LineBroke fault)) = ServesMany r count (Some fault) old new
AnswersTills r count old new (Err (Net why)) = ServesSome r count old new
AnswersTills r count old new (Err Trace) = ServesSome r count old new
AnswersTills r count old new (Err Memory) = ServesSome r count old new
AnswersTills r count old new result = ⊥

-- The connections that were accepted: one per till if all were served, and otherwise at most that many.
abbrev pub TakesTills : (count before after : ℕ) → Result Unit EndFault → Type 0
TakesTills count before after (Ok done) = after ≡ before + count
TakesTills count before after (Err (LineBroke fault)) = after ≡ before + count
TakesTills count before after (Err (Net why)) = after ≤ before + count
TakesTills count before after (Err Trace) = after ≤ before + count
TakesTills count before after (Err Memory) = after ≤ before + count
TakesTills count before after result = ⊥

-- the same for a new terminal with this number, decision and extras
abbrev pub AnswersService : LineReading → ℕ → ℕ → Verdict → Extras → Result Unit EndFault → Type 0
AnswersService r count tid verdict extras result = (new : Extended) × AnswersTills r count (new_extended tid verdict extras) new result

-- the result for one till
abbrev pub AnswersTill : LineReading → Extended → Extended → Result (Option LineFault) EndFault → Type 0
AnswersTill r old new (Ok broke) = ServesLine r old broke new
AnswersTill r old new (Err Trace) = (broke : Option LineFault) × ServesLine r old broke new
AnswersTill r old new (Err Memory) = new ≡ old
AnswersTill r old new result = ⊥
