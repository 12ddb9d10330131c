-- The bytes of both sides of a line, and the messages that arrive with a piece.
use Rattle.std.specs.Prelude.{ℕ, List, [], ◌++◌}
use Rattle.zvt_grammar.specs.Beginnings.{Alive, Place}
use Rattle.zvt_grammar.specs.Cuts.{Cut}
use Rattle.zvt_grammar.specs.Reading.{Reading}
use Rattle.zvt_grammar.specs.declared.why.Why.{Why}
use Rattle.zvt_apdu.specs.Grammar.{Spells}
use Rattle.zvt_apdu.specs.Judging.{WhyOf}
use Rattle.zvt_apdu.specs.Message.{Message}
use Rattle.zvt_trace.specs.declared.direction.Direction.{Direction}
use Rattle.zvt_trace.specs.declared.direction.Direction.TheVariants.{FromTill, FromTerminal}

-- ---- one side of the line

-- A side that is read, with all its bytes; a side that skips the last bytes of a refused message of this size; or a side
-- that is not read after a refusal.
pub data Side : Type 0 where
  running : (bytes : List ℕ) → Side
  skipping : (size left : ℕ) → Side
  stopped : Side

-- the bytes after the complete messages: none, the start of a message, or bytes after which none can follow
pub data Ending : Type 0 where
  begun : Ending
  refused : (place : ℕ) → (why : Why) → Ending

abbrev pub EndsIn : Reading → List ℕ → Ending → Type 0
EndsIn r rest begun = Alive (Spells r) rest
EndsIn r rest (refused place why) = Place (Spells r) rest place × WhyOf r rest place why

-- The messages arrive that the side's bytes have with the piece and did not have without it.
pub record Arrives (r : Reading) (before bytes : List ℕ) (messages : List Message) (rest : List ℕ) (ending : Ending) : Type 0 where
  pub earlier : List Message
  pub left : List ℕ
  pub was : Cut (Spells r) before earlier left
  pub now : Cut (Spells r) (before ++ bytes) (earlier ++ messages) rest
  pub ends : EndsIn r rest ending

-- ---- the line

pub record Sides : Type 0 where
  pub till : Side
  pub terminal : Side

abbrev pub new_line : Sides
new_line = record { till = running []; terminal = running [] }

abbrev pub side_of : Direction → Sides → Side
side_of FromTill sides = sides.till
side_of FromTerminal sides = sides.terminal
