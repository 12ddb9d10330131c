-- The simulated terminal with the orders beyond the profile: it repeats its last receipt.
use Rattle.std.specs.Prelude.{List, Option, Some, None}
use Rattle.zvt_apdu.specs.Message.{Message}
use Rattle.zvt_term.specs.declared.extras.Extra.{Extra}
use Rattle.zvt_term.specs.declared.messages.Report.{Report}
use Rattle.zvt_term.specs.declared.turns.Verdict.{Verdict}
use Rattle.zvt_term.specs.Asking.{asked_as}
use Rattle.zvt_term.specs.Extended.{extra_turn}
use Rattle.zvt_term.specs.Extras.{extra_of}
use Rattle.zvt_term.specs.Terminal.{TerminalState, after, state_after, reports_of, reports_to}

-- the terminal after a message; it has made no refund
abbrev pub after_message : TerminalState → Message → Verdict → TerminalState
after_message s m v = elim (extra_of m) [ None ↦ state_after s (asked_as m) v | Some extra ↦ after s (extra_turn s None extra) ]

-- its replies
abbrev pub said_to : TerminalState → Message → Verdict → List Report
said_to s m v = elim (extra_of m) [ None ↦ reports_to s (asked_as m) v | Some extra ↦ reports_of (extra_turn s None extra).reply ]
