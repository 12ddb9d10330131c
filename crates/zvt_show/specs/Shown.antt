-- What is shown of a line while it goes on.
use Rattle.std.specs.Prelude.{◌⊎◌, ◌++◌, ℕ, List, Option, None, Some, Result, Ok, Err}
use Rattle.std.specs.Str.Lines.{lines}
use Rattle.zvt_grammar.specs.Reading.{Reading}
use Rattle.zvt_io.specs.Devices.{IsPrefix}
use Rattle.zvt_trace.specs.declared.fault.Tally.{Tally}
use Rattle.zvt_trace.specs.declared.fault.TraceFault.{TraceFault}
use Rattle.zvt_trace.specs.declared.listener.Scope.{Scope}
use Rattle.zvt_show.specs.Followed.{HasWritten, TurnFaults}
use Rattle.zvt_show.specs.Written.{AnswersLinesBy}
use Rattle.zvt_show.specs.declared.follow.Follower.{Follower}
use Rattle.zvt_show.specs.declared.render.Style.{Style}

-- how far the text of a line has come, whether showing it failed, and the device that has the text
pub record Showing (W : Type 0) : Type 0 where
  pub follower : Follower
  pub fault : Option TraceFault
  pub output : W

-- The text of this trace is shown, of all its whole lines; or showing failed over the last line of a prefix.
abbrev pub HasShownBy : Option TraceFault → Reading → Scope → Style → (trace : List ℕ) → (first now : Option (List ℕ)) → Follower → Type 0
HasShownBy None r scope style trace first now follower = HasWritten r scope style trace first now follower
HasShownBy (Some fault) r scope style trace first now follower = (part : List ℕ) × IsPrefix part trace × TurnFaults r scope style part first now fault

abbrev pub HasShown : {W : Type 0} → (W → Option (List ℕ)) → Reading → Scope → Style → (trace : List ℕ) → (first : Option (List ℕ)) → Showing W → Type 0
HasShown written r scope style trace first shown = HasShownBy shown.fault r scope style trace first (written shown.output) shown.follower

-- what these lines of the trace say is shown besides
abbrev pub Shows : {W : Type 0} → (W → Option (List ℕ)) → (old : Showing W) → (text : List ℕ) → (new : Showing W) → Type 0
Shows written old text new = (r : Reading) (scope : Scope) (style : Style) (trace : List ℕ) (first : Option (List ℕ)) → HasShown written r scope style trace first old → HasShown written r scope style (trace ++ text) first new

-- What is shown of a whole trace: its text; or showing failed at its end, or over the last line of a prefix.
abbrev pub AnswersShown : Reading → Scope → Style → (trace : List ℕ) → (first now : Option (List ℕ)) → Result Tally TraceFault → Type 0
AnswersShown r scope style trace first now (Ok tally) = AnswersLinesBy r scope style (lines trace) first now (Ok tally)
AnswersShown r scope style trace first now (Err fault) =
    AnswersLinesBy r scope style (lines trace) first now (Err fault) ⊎ (part : List ℕ) × IsPrefix part trace × TurnFaults r scope style part first now fault
