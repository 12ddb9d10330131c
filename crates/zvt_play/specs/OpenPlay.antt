-- Playing a trace in the open reading, beside the strict one.
use Rattle.std.specs.Prelude.{ℕ, List}
use Rattle.zvt_grammar.specs.Reading.{AreBytes, Reading}
use Rattle.zvt_stream.specs.LineReading.{openly, strictly}
use Rattle.zvt_trace.specs.declared.direction.Direction.{Direction}
use Rattle.zvt_play.specs.Playing.{LineState, Plays}
use Rattle.zvt_play.specs.Script.{Act, CanCome, LinesSay, StepAt}

-- The other side can send any bytes.
abbrev pub AnyLineCanCome : Reading → Type 0
AnyLineCanCome r = (bytes : List ℕ) → AreBytes bytes → CanCome (openly r) bytes

-- Lines that can be played strictly have the same steps.
abbrev pub OpenScriptIsStrict : Reading → Type 0
OpenScriptIsStrict r = (own : Direction) (before : ℕ) (lines : List (List ℕ)) (steps : List StepAt) → LinesSay (strictly r) own before lines steps → LinesSay (openly r) own before lines steps

-- Each strict play is an open one.
abbrev pub OpenPlayIsStrict : Reading → Type 0
OpenPlayIsStrict r = (acts : List Act) (old new : LineState) → Plays (strictly r) acts old new → Plays (openly r) acts old new
