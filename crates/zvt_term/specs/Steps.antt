-- The terminal's replies on its line, and its state after them.
use Rattle.std.specs.Prelude.{◌≡◌, ℕ, ◌+◌, ◌<◌, ◌≤◌, Option, Some, None, List, [], ◌∷◌, ◌++◌, length, map}
use Rattle.zvt_apdu.specs.Message.{Message}
use Rattle.zvt_stream.specs.Apdus.{Spells, Spelled}
use Rattle.zvt_stream.specs.Answered.{Answered}
use Rattle.zvt_term.specs.declared.messages.Asked.{Asked}
use Rattle.zvt_term.specs.declared.messages.Report.{Report}
use Rattle.zvt_term.specs.declared.ledger.Row.{Row}
use Rattle.zvt_term.specs.declared.turns.Verdict.{Verdict}
use Rattle.zvt_term.specs.declared.terminal.Input.{Input}
use Rattle.zvt_term.specs.declared.terminal.Input.TheVariants.{Message as MessageIn, View, Lost, Malformed}
use Rattle.zvt_term.specs.Asking.{asked_as}
use Rattle.zvt_term.specs.Ledger.{IsRowOf}
use Rattle.zvt_term.specs.Reports.{message_of_report, IsWritable}
use Rattle.zvt_term.specs.Terminal.{TerminalState, most_rows, next_number, lost_terminal, turn_of, state_after, reports_to}

abbrev pub AreWritable : List Report → Type 0
AreWritable [] = Unit {0}
AreWritable (report ∷ reports) = IsWritable report × AreWritable reports

-- one report more, of at most 32 bytes
pub record Adds (report : Report) (old new : Answered) : Type 0 where
  pub bytes : List ℕ
  pub spelled : Spells (message_of_report report) bytes
  pub short : length bytes ≤ 32
  pub after : new.bytes ≡ old.bytes ++ bytes
  pub counted : new.count ≡ old.count + 1

-- the replies are the reports, one after another
pub record Says (reports : List Report) (answers : Answered) : Type 0 where
  pub spelled : Spelled answers.bytes (map message_of_report reports) []
  pub counted : answers.count ≡ length reports

-- a row has the next number, there is room for it, and what it reverses is a row of the ledger
abbrev pub IsNext : TerminalState → Option Row → Type 0
IsNext s None = Unit {0}
IsNext s (Some row) = (length s.ledger < most_rows) × (row.number ≡ next_number s) × IsRowOf s.ledger row.reverses

-- A request is processed and answered.
pub record HearsAsked (verdict : Verdict) (old : TerminalState) (asked : Asked) (answers : Answered) (new : TerminalState) : Type 0 where
  pub state : new ≡ state_after old asked verdict
  pub says : Says (reports_to old asked verdict) answers

-- A message is processed and answered.
abbrev pub Hears : Verdict → TerminalState → Message → Answered → TerminalState → Type 0
Hears verdict old message = HearsAsked verdict old (asked_as message)

-- a broken line gets no reply
abbrev pub Loses : TerminalState → Answered → TerminalState → Type 0
Loses old answers new = (new ≡ lost_terminal old) × (answers ≡ record { bytes = []; count = 0 })

abbrev pub Steps : TerminalState → Input → Verdict → Answered → TerminalState → Type 0
Steps old (MessageIn apdu) verdict answers new = Hears verdict old apdu.now answers new
Steps old (View apdu) verdict answers new = Hears verdict old apdu.now answers new
Steps old Lost verdict answers new = Loses old answers new
Steps old Malformed verdict answers new = Loses old answers new

-- the row that is added to the ledger, if there is one
abbrev pub row_added : TerminalState → Input → Verdict → Option Row
row_added old (MessageIn apdu) verdict = (turn_of old (asked_as apdu.now) verdict).row
row_added old (View apdu) verdict = (turn_of old (asked_as apdu.now) verdict).row
row_added old Lost verdict = None
row_added old Malformed verdict = None
