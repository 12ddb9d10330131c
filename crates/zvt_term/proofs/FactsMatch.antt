-- What the terminal says, now or later, is true of its ledger, and so is what the till books.
use Rattle.std.proofs.Common.{◌≡◌, ℕ, zero, suc, ◌≤◌, Bool, true, false, cond, ◌&&◌, List, [], ◌∷◌, ◌++◌, Option, Some, None, fold, map, refl, sym, ap, subst, ◌∙◌, slice_get, option_map, option_to_list}
use Rattle.zvt_apdu.specs.declared.brief.Brief.TheVariants.{Reverse as ReverseBrief}
use Rattle.zvt_till.specs.declared.happenings.Happening.TheVariants.{Heard as HeardIn, Lost}
use Rattle.zvt_till.specs.declared.entries.Entry.{Entry}
use Rattle.zvt_till.specs.declared.messages.CurrencyFact.{CurrencyFact}
use Rattle.zvt_till.specs.declared.messages.Heard.{Heard}
use Rattle.zvt_till.specs.declared.messages.Heard.TheVariants.{Positive, Negative, Status, Passing, Completion, Abort, Strange}
use Rattle.zvt_till.specs.declared.orders.Order.{Order}
use Rattle.zvt_till.specs.declared.orders.Order.TheVariants.{Register, Pay, Reverse, CloseDay, Cancel}
use Rattle.zvt_till.specs.declared.orders.OrderRefusal.{OrderRefusal}
use Rattle.zvt_till.specs.Refusals.{refusal}
use Rattle.zvt_till.specs.Sending.{Settings, message_of, receipt_at, outgoing}
use Rattle.zvt_till.specs.Till.{facts_of}
use Rattle.zvt_till.proofs.BookStepLemmas.{settings-accepted, settings-step}
use Rattle.zvt_term.specs.declared.messages.Asked.{Asked}
use Rattle.zvt_term.specs.declared.messages.Asked.TheVariants.{Registration, Authorisation, Reversal, EndOfDay, AbortOrder, Answer, Unknown}
use Rattle.zvt_term.specs.declared.ledger.Row.{Row}
use Rattle.zvt_term.specs.declared.turns.Verdict.{Verdict}
use Rattle.zvt_term.specs.declared.turns.Verdict.TheVariants.{Approve, Decline}
use Rattle.zvt_term.specs.declared.turns.Phase.{Phase}
use Rattle.zvt_term.specs.declared.turns.Phase.TheVariants.{Idle, Printing, Completing, Aborting, Ending}
use Rattle.zvt_term.specs.declared.turns.Turn.{Turn}
use Rattle.zvt_term.specs.declared.world.Move.{Move}
use Rattle.zvt_term.specs.declared.world.Move.TheVariants.{Connect, Order as Ordered, ToTerminal, ToTill, TillLost, TerminalLost}
use Rattle.zvt_term.specs.Inside.{IsSound}
use Rattle.zvt_term.specs.Ledger.{approval_by, is_approval_named, is_taken_back}
use Rattle.zvt_term.specs.Terminal.{TerminalState, has_capacity, next_number, is_idle, is_ready, aborts, refuses, registers, takes_currency, decides, authorises, takes_back_row, reverses_found, reverses, closes, goes_on, when, turn_of, after, reports_of}
use Rattle.zvt_term.proofs.TurnLemmas.{AllShort, Short, short-found, taken_back, sound-after, short-of}
use Rattle.zvt_term.proofs.Facts.{Facts, heard_of, approval_status, asked_out, answer_to, orders, reaches_terminal, reaches_till, move}
use Rattle.zvt_term.proofs.Matching.{ToldStatus, AllTold, all_told-more, all_told-append, told-at, TillHolds, till-more, accept-holds, heard-holds, lost-holds}
use Rattle.zvt_term.proofs.HeardLemmas.{approval-told, code-told, reversal-told}

-- given: the settings of the till
module _ (given : Settings) where
  -- what a turn says is true of the ledger after it
  abbrev TurnTold : TerminalState → Turn → Type 0
  TurnTold s turn = (AllTold given.currency) (after s turn).ledger (map heard_of (reports_of turn.reply))

  when-told : (s : TerminalState) (ready : Bool) (turn : Turn) → (ready ≡ true → TurnTold s turn) → TurnTold s (when ready s turn)
  when-told s true turn h = h refl
  when-told s false turn h = (tt, tt)

  decides-told : (s : TerminalState) (amount : ℕ) (v : Verdict) → s.currency ≡ Some given.currency → TurnTold s (decides s amount v)
  decides-told s amount Approve e =
      let n = next_number s in
      let told = subst (λ (c : Option ℕ). (ToldStatus given.currency) (s.ledger ++ record { number = n; amount = amount; currency = c; reverses = None } ∷ []) (approval_status amount n c)) (sym e) ((approval-told given.currency) s.ledger amount n) in
      (tt, (told, tt))
  decides-told s amount (Decline code) e = (tt, ((code-told given.currency) (s.ledger ++ []) code, tt))

  authorises-told : (s : TerminalState) (amount : Option ℕ) (named : CurrencyFact) (v : Verdict) → s.currency ≡ Some given.currency → TurnTold s (authorises s amount named v)
  authorises-told s None named v e = (tt, tt)
  authorises-told s (Some amount) named v e = by_both (has_capacity s) (takes_currency s.currency named)
    where
      by_both : (a b : Bool) → TurnTold s (cond a (cond b (decides s amount v) (refuses s 111)) (refuses s 255))
      by_both true true = decides-told s amount v e
      by_both true false = (tt, tt)
      by_both false b = (tt, tt)

  takes_back-told : (s : TerminalState) (row : Row) → row.number ≤ 9999 → TurnTold s (takes_back_row s row)
  takes_back-told s row few = by_both (is_taken_back row.number s.ledger) (has_capacity s)
    where
      by_both : (a b : Bool) → TurnTold s (cond a (aborts s 180) (cond b (taken_back s row) (aborts s 255)))
      by_both true b = (tt, (tt, tt))
      by_both false true = (tt, ((reversal-told given.currency) s.ledger row.amount (next_number s) row.number s.currency few, tt))
      by_both false false = (tt, (tt, tt))

  reverses-told : (s : TerminalState) (receipt : Option (List ℕ)) → AllShort s.ledger → TurnTold s (reverses s receipt)
  reverses-told s None h = (tt, (tt, tt))
  reverses-told s (Some receipt) h = by_row (approval_by receipt s.ledger) refl
    where
      by_row : (row : Option Row) → approval_by receipt s.ledger ≡ row → TurnTold s (reverses_found s row)
      by_row None is = (tt, (tt, tt))
      by_row (Some row) is = takes_back-told s row (short-found (is_approval_named receipt) s.ledger row h is)

  goes_on-told : (s : TerminalState) (phase : Phase) → TurnTold s (goes_on s phase)
  goes_on-told s Idle = tt
  goes_on-told s (Printing line) = (tt, tt)
  goes_on-told s Completing = (tt, tt)
  goes_on-told s (Aborting code) = (tt, tt)
  goes_on-told s Ending = tt

  and-left : (a b : Bool) → (a && b) ≡ true → a ≡ true
  and-left true b e = refl
  and-left false b e = absurd cc

  -- who is registered is registered in the till's currency
  abbrev pub IsKept : Bool → Option ℕ → Type 0
  IsKept registered currency = registered ≡ true → currency ≡ Some given.currency

  turn-told : (s : TerminalState) (asked : Asked) (v : Verdict) → AllShort s.ledger → IsKept s.registered s.currency → TurnTold s (turn_of s asked v)
  turn-told s (Registration currency) v h k = when-told s (is_idle s.phase) (registers s currency) (λ e. (tt, (tt, tt)))
  turn-told s (Authorisation amount named) v h k =
      when-told s (is_ready s) (authorises s amount named v) (λ e. authorises-told s amount named v (k (and-left s.registered (is_idle s.phase) e)))
  turn-told s (Reversal receipt) v h k = when-told s (is_ready s) (reverses s receipt) (λ e. reverses-told s receipt h)
  turn-told s EndOfDay v h k = when-told s (is_ready s) (closes s) (λ e. (tt, ((code-told given.currency) (s.ledger ++ []) 0, tt)))
  turn-told s AbortOrder v h k = (tt, tt)
  turn-told s Answer v h k = goes_on-told s s.phase
  turn-told s Unknown v h k = (tt, tt)

  -- registrations name the till's currency, and that is stored

  abbrev pub IsNamed : Asked → Type 0
  IsNamed (Registration currency) = currency ≡ Some given.currency
  IsNamed m = Unit {0}

  abbrev pub AllNamed : List Asked → Type 0
  AllNamed [] = Unit {0}
  AllNamed (m ∷ ms) = IsNamed m × AllNamed ms

  named-append : (ms ns : List Asked) → AllNamed ms → AllNamed ns → AllNamed (ms ++ ns)
  named-append [] ns h k = k
  named-append (m ∷ ms) ns h k = (h.0, named-append ms ns h.1 k)

  named-at : (ms : List Asked) (k : ℕ) (m : Asked) → AllNamed ms → slice_get ms k ≡ Some m → IsNamed m
  named-at [] k m h e = absurd cc
  named-at (n ∷ ms) zero m h e = let q : n ≡ m = cc in subst IsNamed q h.0
  named-at (n ∷ ms) (suc k) m h e = named-at ms k m h.1 e

  order-named : (s : Settings) (book : List Entry) (o : Order) → s ≡ given → AllNamed (asked_out (message_of s book o))
  order-named s book Register e = (ap (λ (k : Settings). Some k.currency) e, tt)
  order-named s book (Pay amount) e = (tt, tt)
  order-named s book (Reverse place) e = by_receipt (receipt_at (slice_get book place))
    where
      by_receipt : (receipt : Option (List ℕ)) → AllNamed (asked_out (option_map (λ r. outgoing (ReverseBrief s.password r)) receipt))
      by_receipt None = tt
      by_receipt (Some r) = (tt, tt)
  order-named s book CloseDay e = (tt, tt)
  order-named s book Cancel e = (tt, tt)

  answer-named : (up : Bool) (m : Heard) → AllNamed (answer_to up m)
  answer-named false m = tt
  answer-named true Positive = tt
  answer-named true (Negative code) = tt
  answer-named true (Status f) = (tt, tt)
  answer-named true Passing = (tt, tt)
  answer-named true Completion = (tt, tt)
  answer-named true (Abort code) = (tt, tt)
  answer-named true Strange = (tt, tt)

  abbrev TurnKeeps : Turn → Type 0
  TurnKeeps turn = IsKept turn.registered turn.currency

  either-keeps : (b : Bool) (x y : Turn) → TurnKeeps x → TurnKeeps y → TurnKeeps (cond b x y)
  either-keeps true x y h k = h
  either-keeps false x y h k = k

  decides-keeps : (s : TerminalState) (amount : ℕ) (v : Verdict) → IsKept s.registered s.currency → TurnKeeps (decides s amount v)
  decides-keeps s amount Approve k = k
  decides-keeps s amount (Decline code) k = k

  authorises-keeps : (s : TerminalState) (amount : Option ℕ) (named : CurrencyFact) (v : Verdict) → IsKept s.registered s.currency → TurnKeeps (authorises s amount named v)
  authorises-keeps s None named v k = k
  authorises-keeps s (Some amount) named v k =
      either-keeps (has_capacity s) (cond (takes_currency s.currency named) (decides s amount v) (refuses s 111)) (refuses s 255)
      (either-keeps (takes_currency s.currency named) (decides s amount v) (refuses s 111) (decides-keeps s amount v k) k) k

  reverses-keeps : (s : TerminalState) (receipt : Option (List ℕ)) → IsKept s.registered s.currency → TurnKeeps (reverses s receipt)
  reverses-keeps s None k = k
  reverses-keeps s (Some receipt) k = by_row (approval_by receipt s.ledger)
    where
      by_row : (row : Option Row) → TurnKeeps (reverses_found s row)
      by_row None = k
      by_row (Some row) =
          either-keeps (is_taken_back row.number s.ledger) (aborts s 180) (cond (has_capacity s) (taken_back s row) (aborts s 255)) k
          (either-keeps (has_capacity s) (taken_back s row) (aborts s 255) k k)

  goes_on-keeps : (s : TerminalState) (phase : Phase) → IsKept s.registered s.currency → TurnKeeps (goes_on s phase)
  goes_on-keeps s Idle k = k
  goes_on-keeps s (Printing line) k = k
  goes_on-keeps s Completing k = k
  goes_on-keeps s (Aborting code) k = k
  goes_on-keeps s Ending k = k

  turn-keeps : (s : TerminalState) (m : Asked) (v : Verdict) → IsNamed m → IsKept s.registered s.currency → TurnKeeps (turn_of s m v)
  turn-keeps s (Registration currency) v n k = either-keeps (is_idle s.phase) (registers s currency) (refuses s 131) (λ e. n) k
  turn-keeps s (Authorisation amount named) v n k = either-keeps (is_ready s) (authorises s amount named v) (refuses s 131) (authorises-keeps s amount named v k) k
  turn-keeps s (Reversal receipt) v n k = either-keeps (is_ready s) (reverses s receipt) (refuses s 131) (reverses-keeps s receipt k) k
  turn-keeps s EndOfDay v n k = either-keeps (is_ready s) (closes s) (refuses s 131) k k
  turn-keeps s AbortOrder v n k = k
  turn-keeps s Answer v n k = goes_on-keeps s s.phase k
  turn-keeps s Unknown v n k = k

  -- both ends

  pub record Holds (w : Facts) : Type 0 where
    pub heard : (AllTold given.currency) w.terminal.ledger w.from_terminal
    pub sound : IsSound w.terminal
    pub till : (TillHolds given.currency) w.terminal.ledger w.till
    pub settings : w.till.settings ≡ given
    pub named : AllNamed w.from_till
    pub kept : IsKept w.terminal.registered w.terminal.currency

  orders-hold : (w : Facts) (o : Order) (why : Option OrderRefusal) → Holds w → Holds (orders w o why)
  orders-hold w o None i =
      record {
        heard = i.heard;
        sound = i.sound;
        till = (accept-holds given.currency) w.terminal.ledger w.till o i.till;
        settings = settings-accepted w.till (Some o) ∙ i.settings;
        named = named-append w.from_till (asked_out (message_of w.till.settings w.till.book o)) i.named (order-named w.till.settings w.till.book o i.settings);
        kept = i.kept;
      }
  orders-hold w o (Some why) i = i

  reaches_terminal-holds : (w : Facts) (k : ℕ) (v : Verdict) (m : Option Asked) → slice_get w.from_till k ≡ m → Holds w → Holds (reaches_terminal w v m)
  reaches_terminal-holds w k v None e i = i
  reaches_terminal-holds w k v (Some m) e i =
      let turn = turn_of w.terminal m v in
      let more = option_to_list turn.row in
      let short : Short w.terminal = short-of w.terminal i.sound in
      record {
        heard = (all_told-append given.currency) (w.terminal.ledger ++ more) w.from_terminal (map heard_of (reports_of turn.reply)) ((all_told-more given.currency) w.terminal.ledger more w.from_terminal i.heard) (turn-told w.terminal m v short.rows i.kept);
        sound = sound-after w.terminal m v i.sound;
        till = (till-more given.currency) w.terminal.ledger more w.till i.till;
        settings = i.settings;
        named = i.named;
        kept = turn-keeps w.terminal m v (named-at w.from_till k m i.named e) i.kept;
      }

  reaches_till-holds : (w : Facts) (k : ℕ) (m : Option Heard) → slice_get w.from_terminal k ≡ m → Holds w → Holds (reaches_till w m)
  reaches_till-holds w k None e i = i
  reaches_till-holds w k (Some m) e i =
      record {
        heard = i.heard;
        sound = i.sound;
        till = (heard-holds given.currency) w.terminal.ledger w.till m ((told-at given.currency) w.terminal.ledger w.from_terminal k m i.heard e) i.till;
        settings = settings-step w.till (HeardIn m) ∙ i.settings;
        named = named-append w.from_till (answer_to w.till.line_up m) i.named (answer-named w.till.line_up m);
        kept = i.kept;
      }

  pub move-holds : (w : Facts) (x : Move) → Holds w → Holds (move w x)
  move-holds w Connect i =
      record { heard = i.heard; sound = i.sound; till = record { running = i.till.running; book = i.till.book; named = i.till.named }; settings = i.settings; named = i.named; kept = i.kept }
  move-holds w (Ordered o) i = orders-hold w o (refusal (facts_of w.till) o) i
  move-holds w (ToTerminal k v) i = reaches_terminal-holds w k v (slice_get w.from_till k) refl i
  move-holds w (ToTill k) i = reaches_till-holds w k (slice_get w.from_terminal k) refl i
  move-holds w TillLost i =
      record {
        heard = i.heard;
        sound = i.sound;
        till = (lost-holds given.currency) w.terminal.ledger w.till i.till;
        settings = settings-step w.till Lost ∙ i.settings;
        named = i.named;
        kept = i.kept;
      }
  move-holds w TerminalLost i = record { heard = i.heard; sound = i.sound; till = i.till; settings = i.settings; named = i.named; kept = λ e. absurd cc }

  pub moves-hold : (w : Facts) (moves : List Move) → Holds w → Holds (fold move w moves)
  moves-hold w [] i = i
  moves-hold w (x ∷ moves) i = moves-hold (move w x) moves (move-holds w x i)
