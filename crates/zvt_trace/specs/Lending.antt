-- The reader of one side, lent by the line.
use Rattle.std.specs.Borrow.{Fml, Lends, MutBor}
use Rattle.zvt_trace.specs.contracts.side.SideReader as side
use Rattle.zvt_trace.specs.contracts.walker.BothSides.{the_row}
use Rattle.zvt_trace.specs.declared.direction.Direction.{Direction}
use Rattle.zvt_trace.specs.declared.direction.Direction.TheVariants.{FromTill, FromTerminal}
use Rattle.zvt_trace.specs.declared.side.SideReader.{SideReader}
use Rattle.zvt_trace.specs.declared.walker.BothSides.{BothSides}

abbrev pub side_of : Direction → BothSides → SideReader
side_of FromTill state = state.till
side_of FromTerminal state = state.terminal

-- the same line with this reader for this side
abbrev pub with_side : Direction → BothSides → SideReader → BothSides
with_side FromTill state reader = record state { till = reader }
with_side FromTerminal state reader = record state { terminal = reader }

-- the line gets the reader back as the caller leaves it
abbrev pub LendsSide : MutBor BothSides → Direction → MutBor SideReader → Fml
LendsSide state from reader = Lends the_row side.the_row state reader (with_side from state.now)
