-- A terminal that serves a line.
use Rattle.std.specs.Prelude.{◌≡◌}
use Rattle.zvt_apdu.specs.Message.{Message}
use Rattle.zvt_stream.specs.Answered.{Answered}
use Rattle.zvt_term.specs.declared.served.Served.{Served}
use Rattle.zvt_term.specs.Steps.{Hears}
use Rattle.zvt_term.specs.Terminal.{lost_terminal}

-- the terminal processes each message with its decision
abbrev pub served_hears : Served → Message → Answered → Served → Type 0
served_hears old message answers new = Hears old.verdict old.terminal message answers new.terminal × (new.verdict ≡ old.verdict)

abbrev pub served_loses : Served → Served → Type 0
served_loses old new = (new.terminal ≡ lost_terminal old.terminal) × (new.verdict ≡ old.verdict)
