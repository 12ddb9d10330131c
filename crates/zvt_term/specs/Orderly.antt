-- Moves over a line that keeps the order of messages, and the payments that are accounted for then.
use Rattle.std.specs.Prelude.{ℕ, ◌+◌, ◌≤◌, Bool, true, false, not, cond, ◌&&◌, ◌==◌, nat_lt, List, [], ◌∷◌, length, Option, Some, None, count_by, IsTrue}
use Rattle.zvt_till.specs.declared.entries.Entry.{Entry}
use Rattle.zvt_till.specs.declared.orders.Order.{Order}
use Rattle.zvt_till.specs.declared.orders.Order.TheVariants.{Register, Pay, Reverse, CloseDay, Cancel}
use Rattle.zvt_till.specs.declared.outcomes.Cause.{Cause}
use Rattle.zvt_till.specs.declared.statuses.Running.{Running}
use Rattle.zvt_till.specs.Events.{run_settings}
use Rattle.zvt_till.specs.Sending.{Settings}
use Rattle.zvt_till.specs.Till.{TillState}
use Rattle.zvt_term.specs.declared.ledger.Row.{Row}
use Rattle.zvt_term.specs.declared.world.Move.{Move}
use Rattle.zvt_term.specs.declared.world.Move.TheVariants.{Connect, Order as Ordered, ToTerminal, ToTill, TillLost, TerminalLost}
use Rattle.zvt_term.specs.World.{Ends, ends_with, move, world_with, FitMoves, FitSettings}

-- a line: the number of messages delivered each way, and the ends that lost it since the last Connect
pub record Line : Type 0 where
  pub to_terminal : ℕ
  pub to_till : ℕ
  pub till_lost : Bool
  pub terminal_lost : Bool

-- before the first Connect both ends count as lost
abbrev pub no_line : Line
no_line = record { to_terminal = 0; to_till = 0; till_lost = true; terminal_lost = true }

-- of that many messages sent each way: a Connect needs both ends lost, and a delivery is of the first undelivered message to an end that has not lost the line
abbrev pub is_orderly : (from_till from_terminal : ℕ) → Line → Move → Bool
is_orderly m n l Connect = l.till_lost && l.terminal_lost
is_orderly m n l (Ordered order) = true
is_orderly m n l (ToTerminal k v) = (k == l.to_terminal) && nat_lt k m && not l.terminal_lost
is_orderly m n l (ToTill k) = (k == l.to_till) && nat_lt k n && not l.till_lost
is_orderly m n l TillLost = true
is_orderly m n l TerminalLost = true

-- a message that was sent before a Connect never arrives
abbrev pub line_after : (from_till from_terminal : ℕ) → Line → Move → Line
line_after m n l Connect = record { to_terminal = m; to_till = n; till_lost = false; terminal_lost = false }
line_after m n l (Ordered order) = l
line_after m n l (ToTerminal k v) = record l { to_terminal = k + 1 }
line_after m n l (ToTill k) = record l { to_till = k + 1 }
line_after m n l TillLost = record l { till_lost = true }
line_after m n l TerminalLost = record l { terminal_lost = true }

abbrev pub are_orderly_from : Ends → Line → List Move → Bool
are_orderly_from w l [] = true
are_orderly_from w l (x ∷ moves) =
    is_orderly (length w.from_till) (length w.from_terminal) l x && are_orderly_from (move w x) (line_after (length w.from_till) (length w.from_terminal) l x) moves

abbrev pub are_orderly_with : Settings → List Move → Bool
are_orderly_with settings moves = are_orderly_from (ends_with settings) no_line moves

-- the till has the default settings
abbrev pub are_orderly : List Move → Bool
are_orderly moves = are_orderly_with run_settings moves

-- a row that approves this amount; a row that reverses an approval does not
abbrev pub approves_amount : ℕ → Row → Bool
approves_amount amount row = elim row.reverses [ None ↦ row.amount == amount | Some n ↦ false ]

abbrev pub approvals : ℕ → List Row → ℕ
approvals amount ledger = count_by (approves_amount amount) ledger

abbrev pub entries_of_amount : ℕ → List Entry → ℕ
entries_of_amount amount book = count_by (λ e. e.amount == amount) book

abbrev pub unclear_of_amount : ℕ → List (ℕ × Cause) → ℕ
unclear_of_amount amount unclear = count_by (λ row. row.0 == amount) unclear

abbrev pub pays_amount : ℕ → Order → ℕ
pays_amount amount Register = 0
pays_amount amount (Pay a) = cond (a == amount) 1 0
pays_amount amount (Reverse e) = 0
pays_amount amount CloseDay = 0
pays_amount amount Cancel = 0

abbrev pub running_of_amount : ℕ → Option Running → ℕ
running_of_amount amount None = 0
running_of_amount amount (Some r) = pays_amount amount r.order

-- each approval of an amount is booked, unclear or still awaited
abbrev pub IsAccounted : TillState → List Row → Type 0
IsAccounted s ledger =
    (amount : ℕ) → approvals amount ledger ≤ entries_of_amount amount s.book + unclear_of_amount amount s.unclear + running_of_amount amount s.running

abbrev pub OrderlyWorldsAccount : Type 0
OrderlyWorldsAccount =
    (settings : Settings) (moves : List Move) → FitSettings settings → FitMoves moves → IsTrue (are_orderly_with settings moves)
    → IsAccounted (world_with settings moves).till (world_with settings moves).terminal.ledger
