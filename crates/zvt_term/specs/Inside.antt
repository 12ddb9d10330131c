-- The fields of a terminal, and their invariant.
use Rattle.std.specs.Prelude.{◌≤◌, length}
use Rattle.zvt_term.specs.Ledger.{NumberedFrom, ReverseEarlier}
use Rattle.zvt_term.specs.Terminal.{TerminalState, most_rows}
use Rattle.zvt_term.specs.declared.terminal.Terminal.TheInside.{Inside}

abbrev pub value_of : Inside → TerminalState
value_of t = record { tid = t.tid; registered = t.registered; currency = t.currency; phase = t.phase; ledger = t.ledger.items }

-- the rows are numbered from 1, with at most 9,999 of them, and reverse earlier ones; the terminal's number has eight digits
abbrev pub IsSound : TerminalState → Type 0
IsSound s = (s.tid ≤ 99999999) × (length s.ledger ≤ most_rows) × NumberedFrom 1 s.ledger × ReverseEarlier s.ledger
