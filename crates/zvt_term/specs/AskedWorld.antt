-- Both ends of a line: a till that settles, and a simulated terminal that repeats its last receipt.
use Rattle.std.specs.Prelude.{◌≡◌, ℕ, ◌+◌, Bool, true, false, cond, ◌&&◌, ◌==◌, nat_lt, IsTrue, List, [], ◌∷◌, ◌++◌, length, Option, Some, None, fold, map, slice_get, count_by, IsSome, nat_eq}
use Rattle.std.specs.List.{IsDistinct}
use Rattle.zvt_apdu.specs.Message.{Message, other}
use Rattle.zvt_till.specs.declared.entries.Entry.{Entry}
use Rattle.zvt_till.specs.declared.happenings.Happening.TheVariants.{Connected, Heard as HeardIn, Lost}
use Rattle.zvt_till.specs.declared.orders.Order.{Order}
use Rattle.zvt_till.specs.declared.orders.Order.TheVariants.{Register, Pay, Reverse, CloseDay, Cancel}
use Rattle.zvt_till.specs.declared.orders.OrderRefusal.{OrderRefusal}
use Rattle.zvt_till.specs.declared.orders.OrderRefusal.TheVariants.{Busy}
use Rattle.zvt_till.specs.declared.outcomes.Cause.{Cause}
use Rattle.zvt_till.specs.Events.{run_settings}
use Rattle.zvt_till.specs.Hearing.{heard_as}
use Rattle.zvt_till.specs.Refusals.{refusal}
use Rattle.zvt_till.specs.Sending.{message_of, reply_to}
use Rattle.zvt_till.specs.Till.{TillState, new_till, accept, step, facts_of}
use Rattle.zvt_term.specs.declared.ledger.Row.{Row}
use Rattle.zvt_term.specs.declared.turns.Verdict.{Verdict}
use Rattle.zvt_term.specs.declared.world.Move.{Move}
use Rattle.zvt_term.specs.declared.world.Move.TheVariants.{Connect, Order as Ordered, ToTerminal, ToTill, TillLost, TerminalLost}
use Rattle.zvt_term.specs.Orderly.{Line as Cable, no_line, is_orderly, line_after, approvals, entries_of_amount}
use Rattle.zvt_term.specs.Reports.{message_of_report}
use Rattle.zvt_term.specs.Terminal.{TerminalState, new_terminal, lost_terminal}
use Rattle.zvt_term.specs.World.{sent_out, FitMove}
use Rattle.zvt_settle.specs.declared.deciding.Settlement.{Settlement}
use Rattle.zvt_settle.specs.declared.deciding.Settlement.TheVariants.{Paid, NotPaid, Reversed, NotReversed}
use Rattle.zvt_settle.specs.Laws.{counts}
use Rattle.zvt_settle.specs.Settling.{Settling, Both, new_settling, sent, asks, ask_refusal, settles}
use Rattle.zvt_term.specs.AskedTurns.{after_message, said_to}

-- a move of the two ends, or an ask of the till
pub data Act : Type 0 where
  Does : (m : Move) → Act
  Asks : Act

-- both ends, all messages that each ever sent, and the ledger at the time of the last payment or reversal
pub record Ends : Type 0 where
  pub till : TillState
  pub settling : Settling
  pub terminal : TerminalState
  pub from_till : List Message
  pub from_terminal : List Message
  pub ledger_before : List Row

abbrev pub new_ends : Ends
new_ends = record { till = new_till run_settings; settling = new_settling; terminal = new_terminal 12345678; from_till = []; from_terminal = []; ledger_before = [] }

-- the ledger at the time of a payment or reversal
abbrev pub looked : List Row → List Row → Order → List Row
looked before now Register = before
looked before now (Pay a) = now
looked before now (Reverse e) = now
looked before now CloseDay = before
looked before now Cancel = before

abbrev pub orders : Ends → Order → Option OrderRefusal → Ends
orders w order None =
    record w {
      till = accept w.till order;
      settling = sent w.settling order;
      from_till = w.from_till ++ sent_out (message_of w.till.settings w.till.book order);
      ledger_before = looked w.ledger_before w.terminal.ledger order;
    }
orders w order (Some why) = w

-- while an ask runs, every order is refused
abbrev pub order_refusal : Ends → Order → Option OrderRefusal
order_refusal w order = elim w.settling.asking [ None ↦ refusal (facts_of w.till) order | Some positive ↦ Some Busy ]

abbrev pub asks_for : Ends → Option OrderRefusal → Ends
asks_for w None = record w { settling = asks w.settling; from_till = w.from_till ++ other 6 32 w.till.settings.password ∷ [] }
asks_for w (Some why) = w

abbrev pub reaches_terminal : Ends → Verdict → Option Message → Ends
reaches_terminal w v None = w
reaches_terminal w v (Some m) =
    record w {
      terminal = after_message w.terminal m v;
      from_terminal = w.from_terminal ++ map message_of_report (said_to w.terminal m v);
    }

abbrev pub reaches_till : Ends → Option Message → Ends
reaches_till w None = w
reaches_till w (Some m) =
    record w {
      till = step w.till (HeardIn (heard_as m));
      settling = settles w.till w.settling (HeardIn (heard_as m));
      from_till = w.from_till ++ cond w.till.line_up (sent_out (reply_to (heard_as m))) [];
    }

abbrev pub move : Ends → Move → Ends
move w Connect = record w { till = step w.till Connected }
move w (Ordered order) = orders w order (order_refusal w order)
move w (ToTerminal k v) = reaches_terminal w v (slice_get w.from_till k)
move w (ToTill k) = reaches_till w (slice_get w.from_terminal k)
move w TillLost = record w { till = step w.till Lost; settling = settles w.till w.settling Lost }
move w TerminalLost = record w { terminal = lost_terminal w.terminal }

abbrev pub act : Ends → Act → Ends
act w (Does m) = move w m
act w Asks = asks_for w (ask_refusal (facts_of w.till) w.settling.asking)

abbrev pub asked_world : List Act → Ends
asked_world acts = fold act new_ends acts

-- ---- acts over a line that keeps order

abbrev pub act_orderly : (m n : ℕ) → Cable → Act → Bool
act_orderly m n l (Does x) = is_orderly m n l x
act_orderly m n l Asks = true

abbrev pub cable_after : (m n : ℕ) → Cable → Act → Cable
cable_after m n l (Does x) = line_after m n l x
cable_after m n l Asks = l

abbrev pub orderly_from : Ends → Cable → List Act → Bool
orderly_from w l [] = true
orderly_from w l (x ∷ acts) =
    act_orderly (length w.from_till) (length w.from_terminal) l x && orderly_from (act w x) (cable_after (length w.from_till) (length w.from_terminal) l x) acts

abbrev pub are_orderly : List Act → Bool
are_orderly acts = orderly_from new_ends no_line acts

abbrev pub FitAct : Act → Type 0
FitAct (Does m) = FitMove m
FitAct Asks = Unit {0}

abbrev pub FitActs : List Act → Type 0
FitActs [] = Unit {0}
FitActs (x ∷ acts) = FitAct x × FitActs acts

-- ---- settlements that agree with the ledger

abbrev pub payment_row : (number amount currency : ℕ) → Row
payment_row number amount currency = record { number = number; amount = amount; currency = Some currency; reverses = None }

-- between the order and the answer, the ledger grew by this approval alone
abbrev pub GrewByPayment : Ends → (place trace : ℕ) → Option (ℕ × Cause) → Type 0
GrewByPayment w place trace None = ⊥
GrewByPayment w place trace (Some row) = w.terminal.ledger ≡ w.ledger_before ++ payment_row trace row.0 w.till.settings.currency ∷ []

-- between the order and the answer, the ledger grew by one row, which reverses this entry
abbrev pub GrewByReversal : Ends → Option Entry → Type 0
GrewByReversal w None = ⊥
GrewByReversal w (Some entry) =
    (number : ℕ) × (w.terminal.ledger ≡ w.ledger_before ++ record { number = number; amount = entry.amount; currency = Some w.till.settings.currency; reverses = Some entry.trace } ∷ [])

-- The ledger agrees with a settlement at the time of the answer. If the order did not happen, the ledger did not grow.
abbrev pub IsSo : Ends → Settlement → Type 0
IsSo w (Paid place trace receipt) = GrewByPayment w place trace (slice_get w.till.unclear place)
IsSo w (NotPaid place) = w.terminal.ledger ≡ w.ledger_before
IsSo w (Reversed entry) = GrewByReversal w (slice_get w.till.book entry)
IsSo w (NotReversed entry) = w.terminal.ledger ≡ w.ledger_before

-- The ledger agrees with every settlement.
abbrev pub Sound : Type 0
Sound =
    (acts : List Act) (x : Act) (s : Settlement) → FitActs (acts ++ x ∷ []) → IsTrue (are_orderly (acts ++ x ∷ []))
    → (asked_world (acts ++ x ∷ [])).settling.settled ≡ (asked_world acts).settling.settled ++ s ∷ []
    → IsSo (asked_world (acts ++ x ∷ [])) s

-- An answer settles what is pending.
abbrev pub Complete : Type 0
Complete =
    (acts : List Act) (k : ℕ) → FitActs acts → IsTrue (are_orderly (acts ++ Does (ToTill k) ∷ []))
    → IsSome (asked_world acts).settling.asking → IsSome (asked_world acts).settling.pending
    → (asked_world (acts ++ Does (ToTill k) ∷ [])).settling.asking ≡ None
    → (s : Settlement) × ((asked_world (acts ++ Does (ToTill k) ∷ [])).settling.settled ≡ (asked_world acts).settling.settled ++ s ∷ [])

-- ---- exactly what was approved

abbrev pub settles_row : ℕ → Settlement → Bool
settles_row place (Paid row trace receipt) = row == place
settles_row place (NotPaid row) = row == place
settles_row place (Reversed entry) = false
settles_row place (NotReversed entry) = false

-- each unclear payment was settled once
abbrev pub AreAllSettled : List (ℕ × Cause) → List Settlement → Type 0
AreAllSettled unclear settled = (place : ℕ) → IsTrue (nat_lt place (length unclear)) → count_by (settles_row place) settled ≡ 1

abbrev pub pays_this : ℕ → Option (ℕ × Cause) → Bool
pays_this amount None = false
pays_this amount (Some row) = row.0 == amount

abbrev pub paid_in : ℕ → List (ℕ × Cause) → Settlement → Bool
paid_in amount unclear (Paid row trace receipt) = pays_this amount (slice_get unclear row)
paid_in amount unclear (NotPaid row) = false
paid_in amount unclear (Reversed entry) = false
paid_in amount unclear (NotReversed entry) = false

-- If no order runs and each unclear payment was settled, the ledger has an approval of an amount for each entry of that
-- amount, and for each unclear payment of that amount that was settled as paid, and no other.
abbrev pub Exact : Type 0
Exact =
    (acts : List Act) → FitActs acts → IsTrue (are_orderly acts) → (asked_world acts).till.running ≡ None
    → AreAllSettled (asked_world acts).till.unclear (asked_world acts).settling.settled
    → (amount : ℕ)
    → approvals amount (asked_world acts).terminal.ledger
    ≡ entries_of_amount amount (asked_world acts).till.book + count_by (paid_in amount (asked_world acts).till.unclear) (asked_world acts).settling.settled

-- ---- messages that arrive late, repeatedly or never

abbrev pub both_in : Ends → Both
both_in w = record { till = w.till; settling = w.settling }

-- whatever arrives, in whatever order, no trace number counts twice
abbrev pub WorldsCountOnce : Type 0
WorldsCountOnce = (acts : List Act) → IsDistinct nat_eq (counts (both_in (asked_world acts)))
