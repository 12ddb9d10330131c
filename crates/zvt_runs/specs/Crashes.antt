-- Both ends of a line, with a till whose process may end at any moment and whose journal survives.
use Rattle.std.specs.Prelude.{◌≡◌, ℕ, Bool, cond, List, [], ◌∷◌, ◌++◌, Option, Some, None, Ok, fold, slice_get, IsTrue}
use Rattle.zvt_apdu.specs.Message.{Message}
use Rattle.zvt_till.specs.declared.happenings.Happening.{Happening}
use Rattle.zvt_till.specs.declared.happenings.Happening.TheVariants.{Connected, Sent as SentOut, Lost}
use Rattle.zvt_till.specs.declared.orders.Order.{Order}
use Rattle.zvt_till.specs.declared.orders.OrderRefusal.{OrderRefusal}
use Rattle.zvt_till.specs.Events.{hears}
use Rattle.zvt_till.specs.Refusals.{refusal, sent_as}
use Rattle.zvt_till.specs.Sending.{Settings}
use Rattle.zvt_till.specs.Till.{facts_of, state_after}
use Rattle.zvt_till.specs.View.{TillValue}
use Rattle.zvt_term.specs.declared.world.Move.{Move}
use Rattle.zvt_term.specs.declared.world.Move.TheVariants.{Connect, Order as Ordered, ToTerminal, ToTill, TillLost, TerminalLost}
use Rattle.zvt_term.specs.Orderly.{IsAccounted, are_orderly_with}
use Rattle.zvt_term.specs.Returned.{KeepsReversals}
use Rattle.zvt_term.specs.World.{Ends, FitMoves, FitSettings, Matches, ends_with, move, world_with}
use Rattle.zvt_journal.specs.Text.{recovered}
use Rattle.zvt_kept.specs.Logs.{StandsFor}
use Rattle.zvt_kept.specs.Recovery.{Recovers}

-- Events at the two ends, including crashes of the till. A crash happens between two moves, or during a move once that
-- is in the journal; messages that the till sends in that move may still arrive. A crash during a move that is not in
-- the journal counts as a crash before it.
pub data KeptMove : Type 0 where
  moves : Move → KeptMove
  crashes : KeptMove
  crashes_in : Move → KeptMove

-- both ends, and the log that the till's journal represents
pub record KeptEnds : Type 0 where
  pub ends : Ends
  pub log : List Happening

-- a new journal represents the log of a till that has no line yet
abbrev pub new_kept : Settings → KeptEnds
new_kept settings = record { ends = ends_with settings; log = Connected ∷ [] }

abbrev pub order_logged : Settings → List Happening → Order → Option OrderRefusal → List Happening
order_logged settings log order None = log ++ SentOut (sent_as settings.currency order) ∷ []
order_logged settings log order (Some why) = log

abbrev pub message_logged : List Happening → (up : Bool) → Option Message → List Happening
message_logged log up None = log
message_logged log up (Some message) = cond up (log ++ hears message ∷ []) log

-- the log after a move: a till with a journal records each order that it accepts, each message that it processes, and
-- each new line
abbrev pub log_after : Settings → Ends → List Happening → Move → List Happening
log_after settings w log Connect = cond w.till.line_up log (log ++ Lost ∷ Connected ∷ [])
log_after settings w log (Ordered order) = order_logged settings log order (refusal (facts_of w.till) order)
log_after settings w log (ToTerminal k v) = log
log_after settings w log (ToTill k) = message_logged log w.till.line_up (slice_get w.from_terminal k)
log_after settings w log TillLost = log
log_after settings w log TerminalLost = log

abbrev pub moved : Settings → KeptEnds → Move → KeptEnds
moved settings k m = record { ends = move k.ends m; log = log_after settings k.ends k.log m }

-- the till is restored from the journal's log, and has lost its line
abbrev pub crashed : Settings → KeptEnds → KeptEnds
crashed settings k = record { ends = record k.ends { till = state_after settings (k.log ++ Lost ∷ []) }; log = k.log }

abbrev pub kept_move : Settings → KeptEnds → KeptMove → KeptEnds
kept_move settings k (moves m) = moved settings k m
kept_move settings k crashes = crashed settings k
kept_move settings k (crashes_in m) = crashed settings (moved settings k m)

abbrev pub kept_world : Settings → List KeptMove → KeptEnds
kept_world settings all = fold (kept_move settings) (new_kept settings) all

-- the moves, with a lost line in place of each crash
abbrev pub without_crash : KeptMove → List Move
without_crash (moves m) = m ∷ []
without_crash crashes = TillLost ∷ []
without_crash (crashes_in m) = m ∷ TillLost ∷ []

abbrev pub without_crashes : List KeptMove → List Move
without_crashes [] = []
without_crashes (m ∷ more) = without_crash m ++ without_crashes more

-- After a crash and recovery, both ends are as after a lost line, whatever the till's settings.
abbrev pub CrashesAreLosses : Type 0
CrashesAreLosses = (settings : Settings) (all : List KeptMove) → (kept_world settings all).ends ≡ world_with settings (without_crashes all)

-- A file that represents the log of both ends recovers to the till that they have after a crash.
abbrev pub FilesAreWorlds : Type 0
FilesAreWorlds =
    (settings : Settings) (all : List KeptMove) (file : List ℕ) (till : TillValue)
    → StandsFor settings (recovered file) (kept_world settings all).log → Recovers settings (recovered file) (Ok till)
    → till.state ≡ (kept_world settings (all ++ crashes ∷ [])).ends.till

-- With crashes too, and whatever the till's settings, each entry of its book corresponds to an approval of its own in
-- the terminal's ledger.
abbrev pub CrashesMatch : Type 0
CrashesMatch =
    (settings : Settings) (all : List KeptMove) → FitSettings settings → FitMoves (without_crashes all)
    → Matches (kept_world settings all).ends.till (kept_world settings all).ends.terminal.ledger

-- With crashes too, over lines that keep the order of messages, each approval of an amount is booked, unclear or still
-- awaited.
abbrev pub CrashesAccount : Type 0
CrashesAccount =
    (settings : Settings) (all : List KeptMove) → FitSettings settings → FitMoves (without_crashes all)
    → IsTrue (are_orderly_with settings (without_crashes all))
    → IsAccounted (kept_world settings all).ends.till (kept_world settings all).ends.terminal.ledger

-- With crashes too, over lines that keep the order of messages, the till knows of each payment that the terminal
-- reversed.
abbrev pub CrashesKeepReversals : Type 0
CrashesKeepReversals =
    (settings : Settings) (all : List KeptMove) → FitSettings settings → FitMoves (without_crashes all)
    → IsTrue (are_orderly_with settings (without_crashes all))
    → KeepsReversals (kept_world settings all).ends.till (kept_world settings all).ends.terminal.ledger
