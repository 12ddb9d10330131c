-- Both ends as the code has them.
use Rattle.zvt_term.specs.declared.world.World.{World}
use Rattle.zvt_term.specs.World.{Ends}

abbrev pub ends_of : World → Ends
ends_of w = record { till = w.till.state; terminal = w.terminal; from_till = w.from_till.items; from_terminal = w.from_terminal.items }
