-- What the messages of both ends mean is what each act does to them. For the proof that settlements agree with the ledger.
use Rattle.std.proofs.Common.{◌≡◌, ℕ, zero, suc, ◌-◌, ◌≤◌, Bool, true, false, cond, List, [], ◌∷◌, ◌++◌, length, Option, Some, None, map, slice_get, option_map, option_to_list, refl, sym, ap, ap₂, subst, ◌∙◌, arith}
use Rattle.std.proofs.lemmas.List.{map-append}
use Rattle.std.proofs.lemmas.Option.{slice_get-map}
use Rattle.zvt_apdu.specs.Message.{Message, other}
use Rattle.zvt_apdu.specs.Briefs.{message_of_brief}
use Rattle.zvt_apdu.specs.declared.brief.Brief.{Brief}
use Rattle.zvt_apdu.specs.declared.brief.Brief.TheVariants.{Ack as AckBrief, Nack as NackBrief, Register as RegisterBrief, Pay as PayBrief, Reverse as ReverseBrief, CloseDay as CloseDayBrief, AbortOrder as AbortBrief}
use Rattle.zvt_till.specs.declared.happenings.Happening.TheVariants.{Heard as HeardIn, Lost}
use Rattle.zvt_till.specs.declared.messages.Heard.{Heard}
use Rattle.zvt_till.specs.declared.orders.Order.{Order}
use Rattle.zvt_till.specs.declared.orders.OrderRefusal.{OrderRefusal}
use Rattle.zvt_till.specs.declared.orders.Outgoing.{Outgoing}
use Rattle.zvt_till.specs.Events.{run_settings}
use Rattle.zvt_till.specs.Hearing.{heard_as}
use Rattle.zvt_till.specs.Sending.{Settings, message_of, reply_to}
use Rattle.zvt_till.specs.Till.{accept, step, facts_of}
use Rattle.zvt_till.proofs.BookStepLemmas.{settings-accepted, settings-step}
use Rattle.zvt_term.specs.declared.extras.Extra.TheVariants.{RepeatReceipt}
use Rattle.zvt_term.specs.declared.ledger.Row.{Row}
use Rattle.zvt_term.specs.declared.messages.Asked.{Asked}
use Rattle.zvt_term.specs.declared.messages.Asked.TheVariants.{Registration, Authorisation, Reversal, EndOfDay, AbortOrder, Answer, Unknown}
use Rattle.zvt_term.specs.declared.messages.Report.{Report}
use Rattle.zvt_term.specs.declared.messages.Report.TheVariants.{Approved, TakenBack}
use Rattle.zvt_term.specs.declared.turns.Phase.{Phase}
use Rattle.zvt_term.specs.declared.turns.Phase.TheVariants.{Idle, Printing, Completing, Aborting, Ending}
use Rattle.zvt_term.specs.declared.turns.Verdict.{Verdict}
use Rattle.zvt_term.specs.declared.world.Move.TheVariants.{Connect, Order as Ordered, ToTerminal, ToTill, TillLost, TerminalLost}
use Rattle.zvt_term.specs.Asking.{asked_as}
use Rattle.zvt_term.specs.Extended.{last_row, last_report, repeats, report_of_row, extra_turn}
use Rattle.zvt_term.specs.Extras.{extra_of, extra_at}
use Rattle.zvt_term.specs.Inside.{IsSound}
use Rattle.zvt_term.specs.Ledger.{NumberedFrom, ReverseEarlier}
use Rattle.zvt_term.specs.Reports.{message_of_report}
use Rattle.zvt_term.specs.Steps.{AreWritable}
use Rattle.zvt_term.specs.Terminal.{TerminalState, most_rows, is_ready, next_number, refuses, authorises, reverses, goes_on, when, turn_of, after, reports_of}
use Rattle.zvt_term.specs.World.{sent_out, IsAmount, FitOrder}
use Rattle.zvt_term.proofs.ExtraLemmas.{extra_writable, same_ledger}
use Rattle.zvt_term.proofs.Facts.{heard_of, asked_out, answer_to}
use Rattle.zvt_term.proofs.Meanings.{FitCurrency, FitAsked, AllAsked, FitRows, FitReport, FitReports, FitTurn, FitOut, asked-out, out-fit, order-fit, reply-fit, heard-reports, rows-more, turn-fit}
use Rattle.zvt_term.proofs.TurnLemmas.{turn-sound, sound-after, short-of}
use Rattle.zvt_term.specs.AskedTurns.{after_message, said_to}
use Rattle.zvt_term.specs.AskedWorld.{Act, Does, Asks, Ends, new_ends, looked, orders, order_refusal, asks_for, reaches_terminal, reaches_till, act, FitAct}
use Rattle.zvt_term.proofs.TurnCases.{either, payment-cases, reversal-cases, registration-cases, closing-cases}
use Rattle.zvt_settle.specs.Settling.{sent, asks, ask_refusal, settles}
use Rattle.zvt_term.proofs.AskedMeans.{Word, Plain, Beyond, word_by, word_of, after_on, said_on, after-word, said-word, meaning, words_out, orders_meant, asks_meant, terminal_meant, till_meant, act_meant}

-- ---- messages that can be read

abbrev pub FitWord : Word → Type 0
FitWord (Plain m) = FitAsked m
FitWord (Beyond x) = x ≡ RepeatReceipt

abbrev pub AllFit : List Word → Type 0
AllFit [] = Unit {0}
AllFit (m ∷ ms) = FitWord m × AllFit ms

abbrev pub FitCurrencies : List Row → Type 0
FitCurrencies [] = Unit {0}
FitCurrencies (row ∷ rows) = FitCurrency row.currency × FitCurrencies rows

pub record Fit (w : Ends) : Type 0 where
  pub sound : IsSound w.terminal
  pub rows : FitRows w.terminal.ledger
  pub currencies : FitCurrencies w.terminal.ledger
  pub kept : FitCurrency w.terminal.currency
  pub settings : w.till.settings ≡ run_settings
  pub words : AllFit (map word_of w.from_till)

all-more : (ms ns : List Word) → AllFit ms → AllFit ns → AllFit (ms ++ ns)
all-more [] ns h k = k
all-more (m ∷ ms) ns h k = (h.0, all-more ms ns h.1 k)

pub fit-at : (ms : List Word) (k : ℕ) (m : Word) → AllFit ms → slice_get ms k ≡ Some m → FitWord m
fit-at [] k m h e = absurd cc
fit-at (n ∷ ms) zero m h e = let q : n ≡ m = cc in subst FitWord q h.0
fit-at (n ∷ ms) (suc k) m h e = fit-at ms k m h.1 e

all-plain : (ms : List Asked) → AllAsked ms → AllFit (map Plain ms)
all-plain [] h = tt
all-plain (m ∷ ms) h = (h.0, all-plain ms h.1)

-- ---- what the till sends

no-extra : (b : Brief) → extra_of (message_of_brief b) ≡ None
no-extra AckBrief = refl
no-extra (NackBrief code) = refl
no-extra (RegisterBrief password config currency) = refl
no-extra (PayBrief amount currency) = refl
no-extra (ReverseBrief password receipt) = refl
no-extra (CloseDayBrief password) = refl
no-extra AbortBrief = refl

sent-plain : (out : Option Outgoing) → map word_of (sent_out out) ≡ map Plain (map asked_as (sent_out out))
sent-plain None = refl
sent-plain (Some out) = ap (λ x. word_by (message_of_brief out.brief) x ∷ []) (no-extra out.brief)

words-out : (out : Option Outgoing) → FitOut out → map word_of (sent_out out) ≡ words_out out
words-out out f = sent-plain out ∙ ap (map Plain) (asked-out out f)

answers-mean : (up : Bool) (m : Heard) → map word_of (cond up (sent_out (reply_to m)) []) ≡ map Plain (answer_to up m)
answers-mean true m = words-out (reply_to m) (reply-fit m)
answers-mean false m = refl

answers-fit : (up : Bool) (m : Heard) → AllFit (map Plain (answer_to up m))
answers-fit true m = all-plain (asked_out (reply_to m)) (out-fit (reply_to m) (reply-fit m))
answers-fit false m = tt

ask-word : (password : List ℕ) → word_of (other 6 32 password) ≡ Beyond RepeatReceipt
unfolding extra_at
ask-word password = refl

-- ---- what the terminal says

row-amount : (rows : List Row) (k : ℕ) (row : Row) → FitRows rows → slice_get rows k ≡ Some row → IsAmount row.amount
row-amount [] k row h e = absurd cc
row-amount (x ∷ rows) zero row h e = let q : x ≡ row = cc in subst (λ (r : Row). IsAmount r.amount) q h.0
row-amount (x ∷ rows) (suc k) row h e = row-amount rows k row h.1 e

row-currency : (rows : List Row) (k : ℕ) (row : Row) → FitCurrencies rows → slice_get rows k ≡ Some row → FitCurrency row.currency
row-currency [] k row h e = absurd cc
row-currency (x ∷ rows) zero row h e = let q : x ≡ row = cc in subst (λ (r : Row). FitCurrency r.currency) q h.0
row-currency (x ∷ rows) (suc k) row h e = row-currency rows k row h.1 e

report-fit : (row : Row) → IsAmount row.amount → FitCurrency row.currency → FitReport (report_of_row row)
report-fit row a c = by_kind row.reverses
  where
    by_kind : (o : Option ℕ) → FitReport (elim o [ None ↦ Approved row.amount row.number row.currency | Some original ↦ TakenBack row.amount row.number original row.currency ])
    by_kind None = (a, c)
    by_kind (Some original) = (a, c)

repeats-fit : (s : TerminalState) (o : Option Row) → FitCurrency s.currency → ((row : Row) → o ≡ Some row → FitReport (report_of_row row)) → FitTurn (repeats s (option_map report_of_row o))
repeats-fit s None c h = (tt, (tt, (tt, tt)), c)
repeats-fit s (Some row) c h = (tt, (tt, (h row refl, tt)), c)

repeat-fit : (s : TerminalState) → FitCurrency s.currency → FitRows s.ledger → FitCurrencies s.ledger → FitTurn (extra_turn s None RepeatReceipt)
repeat-fit s c rows currencies = by_ready (is_ready s)
  where
    by_ready : (b : Bool) → FitTurn (when b s (repeats s (last_report s.ledger None)))
    by_ready true =
        repeats-fit s (last_row s.ledger) c (λ row e. report-fit row (row-amount s.ledger (length s.ledger - 1) row rows e) (row-currency s.ledger (length s.ledger - 1) row currencies e))
    by_ready false = (tt, (tt, tt), c)

-- what a message leads to can be read
record Readable (s : TerminalState) (reports : List Report) : Type 0 where
  rows : FitRows s.ledger
  kept : FitCurrency s.currency
  said : FitReports reports

on-readable : (s : TerminalState) (m : Word) (v : Verdict) → FitCurrency s.currency → FitRows s.ledger → FitCurrencies s.ledger → FitWord m → Readable (after_on s m v) (said_on s m v)
on-readable s (Plain m) v c rows currencies f =
    let k = turn-fit s m v c rows f in
    record { rows = rows-more s.ledger (option_to_list (turn_of s m v).row) rows k.0; kept = k.2; said = k.1 }
on-readable s (Beyond x) v c rows currencies f =
    let k = repeat-fit s c rows currencies in
    subst (λ y. Readable (after s (extra_turn s None y)) (reports_of (extra_turn s None y).reply)) (sym f)
    (record { rows = rows-more s.ledger (option_to_list (extra_turn s None RepeatReceipt).row) rows k.0; kept = k.2; said = k.1 })

on-writable : (s : TerminalState) (m : Word) (v : Verdict) → IsSound s → AreWritable (said_on s m v)
on-writable s (Plain m) v sound = (turn-sound s m v).writable (short-of s sound)
on-writable s (Beyond x) v sound = extra_writable s None x (short-of s sound)

pub on-sound : (s : TerminalState) (m : Word) (v : Verdict) → IsSound s → IsSound (after_on s m v)
on-sound s (Plain m) v sound = sound-after s m v sound
on-sound s (Beyond x) v sound =
    subst (λ (l : List Row). (s.tid ≤ 99999999) × (length l ≤ most_rows) × NumberedFrom 1 l × ReverseEarlier l) (sym (same_ledger s None x)) sound

currencies-more : (xs ys : List Row) → FitCurrencies xs → FitCurrencies ys → FitCurrencies (xs ++ ys)
currencies-more [] ys h k = k
currencies-more (x ∷ xs) ys h k = (h.0, currencies-more xs ys h.1 k)

abbrev HasCurrencies : TerminalState → List Report → Type 0
HasCurrencies s said = FitCurrencies s.ledger

no-more : (s : TerminalState) → FitCurrencies s.ledger → FitCurrencies (s.ledger ++ [])
no-more s h = currencies-more s.ledger [] h tt

one-currency : (s : TerminalState) (row : Row) → FitCurrency row.currency → FitCurrencies s.ledger → FitCurrencies (s.ledger ++ row ∷ [])
one-currency s row c h = currencies-more s.ledger (row ∷ []) h (c, tt)

on-currencies : (s : TerminalState) (m : Word) (v : Verdict) → FitCurrency s.currency → FitCurrencies s.ledger → FitCurrencies (after_on s m v).ledger
on-currencies s (Plain (Registration currency)) v c h = registration-cases HasCurrencies s currency v (no-more s h) (no-more s h)
on-currencies s (Plain (Authorisation None named)) v c h = either (λ turn. FitCurrencies (after s turn).ledger) (is_ready s) (authorises s None named v) (refuses s 131) (λ ready. no-more s h) (no-more s h)
on-currencies s (Plain (Authorisation (Some a) named)) v c h =
    payment-cases HasCurrencies s a named v (λ code e. no-more s h)
    (λ ready. one-currency s (record { number = next_number s; amount = a; currency = s.currency; reverses = None }) c h) (λ code. no-more s h)
on-currencies s (Plain (Reversal None)) v c h = either (λ turn. FitCurrencies (after s turn).ledger) (is_ready s) (reverses s None) (refuses s 131) (λ ready. no-more s h) (no-more s h)
on-currencies s (Plain (Reversal (Some receipt))) v c h =
    reversal-cases HasCurrencies s receipt v (λ code e. no-more s h) (λ code. no-more s h)
    (λ row ready e. one-currency s (record { number = next_number s; amount = row.amount; currency = s.currency; reverses = Some row.number }) c h)
on-currencies s (Plain EndOfDay) v c h = closing-cases HasCurrencies s v (no-more s h) (no-more s h)
on-currencies s (Plain AbortOrder) v c h = no-more s h
on-currencies s (Plain Answer) v c h = by_phase s.phase
  where
    by_phase : (phase : Phase) → FitCurrencies (after s (goes_on s phase)).ledger
    by_phase Idle = no-more s h
    by_phase (Printing line) = no-more s h
    by_phase Completing = no-more s h
    by_phase (Aborting code) = no-more s h
    by_phase Ending = no-more s h
on-currencies s (Plain Unknown) v c h = no-more s h
on-currencies s (Beyond x) v c h = subst FitCurrencies (sym (same_ledger s None x)) h

-- ---- each act

sent-more : (ms more : List Message) (said : List Word) → map word_of more ≡ said → map word_of (ms ++ more) ≡ map word_of ms ++ said
sent-more ms more said e = map-append word_of ms more ∙ ap (λ x. map word_of ms ++ x) e

few : (w : Ends) → Fit w → w.till.settings.currency ≤ 9999
few w k = subst (λ (s : Settings). s.currency ≤ 9999) (sym k.settings) (omega arith)

order-out : (w : Ends) (o : Order) → FitOrder o → Fit w → FitOut (message_of w.till.settings w.till.book o)
order-out w o f k = order-fit w.till.settings w.till.book o (few w k) f

orders-mean : (w : Ends) (o : Order) (why : Option OrderRefusal) → FitOrder o → Fit w → meaning (orders w o why) ≡ orders_meant (meaning w) o why
orders-mean w o None f k =
    let out = message_of w.till.settings w.till.book o in
    ap (λ x. record { till = accept w.till o; settling = sent w.settling o; terminal = w.terminal; from_till = x; from_terminal = map heard_as w.from_terminal; before = looked w.ledger_before w.terminal.ledger o })
    (sent-more w.from_till (sent_out out) (words_out out) (words-out out (order-out w o f k)))
orders-mean w o (Some why) f k = refl

orders-fit : (w : Ends) (o : Order) (why : Option OrderRefusal) → FitOrder o → Fit w → Fit (orders w o why)
orders-fit w o None f k =
    let out = message_of w.till.settings w.till.book o in
    let fit = order-out w o f k in
    record {
      sound = k.sound;
      rows = k.rows;
      currencies = k.currencies;
      kept = k.kept;
      settings = settings-accepted w.till (Some o) ∙ k.settings;
      words = subst AllFit (sym (sent-more w.from_till (sent_out out) (words_out out) (words-out out fit))) (all-more (map word_of w.from_till) (words_out out) k.words (all-plain (asked_out out) (out-fit out fit)));
    }
orders-fit w o (Some why) f k = k

asks-mean : (w : Ends) (why : Option OrderRefusal) → meaning (asks_for w why) ≡ asks_meant (meaning w) why
asks-mean w None =
    ap (λ x. record { till = w.till; settling = asks w.settling; terminal = w.terminal; from_till = x; from_terminal = map heard_as w.from_terminal; before = w.ledger_before })
    (sent-more w.from_till (other 6 32 w.till.settings.password ∷ []) (Beyond RepeatReceipt ∷ []) (ap (λ m. m ∷ []) (ask-word w.till.settings.password)))
asks-mean w (Some why) = refl

asks-fit : (w : Ends) (why : Option OrderRefusal) → Fit w → Fit (asks_for w why)
asks-fit w None k =
    record {
      sound = k.sound;
      rows = k.rows;
      currencies = k.currencies;
      kept = k.kept;
      settings = k.settings;
      words =
          subst AllFit (sym (sent-more w.from_till (other 6 32 w.till.settings.password ∷ []) (Beyond RepeatReceipt ∷ []) (ap (λ m. m ∷ []) (ask-word w.till.settings.password))))
          (all-more (map word_of w.from_till) (Beyond RepeatReceipt ∷ []) k.words (refl, tt));
    }
asks-fit w (Some why) k = k

terminal-mean : (w : Ends) (v : Verdict) (m : Option Message) → Fit w → ((x : Message) → m ≡ Some x → FitWord (word_of x))
    → meaning (reaches_terminal w v m) ≡ terminal_meant (meaning w) v (option_map word_of m)
terminal-mean w v None k f = refl
terminal-mean w v (Some m) k f =
    let said = said_on w.terminal (word_of m) v in
    let read = on-readable w.terminal (word_of m) v k.kept k.rows k.currencies (f m refl) in
    let heard : map heard_as (w.from_terminal ++ map message_of_report (said_to w.terminal m v)) ≡ map heard_as w.from_terminal ++ map heard_of said =
    ap (λ rs. map heard_as (w.from_terminal ++ map message_of_report rs)) (said-word w.terminal m v)
    ∙ map-append heard_as w.from_terminal (map message_of_report said)
    ∙ ap (λ x. map heard_as w.from_terminal ++ x) (heard-reports said (on-writable w.terminal (word_of m) v k.sound) read.said) in
    ap₂ (λ t x. record { till = w.till; settling = w.settling; terminal = t; from_till = map word_of w.from_till; from_terminal = x; before = w.ledger_before }) (after-word w.terminal m v) heard

terminal-fit : (w : Ends) (v : Verdict) (m : Option Message) → Fit w → ((x : Message) → m ≡ Some x → FitWord (word_of x)) → Fit (reaches_terminal w v m)
terminal-fit w v None k f = k
terminal-fit w v (Some m) k f =
    let word : Word = word_of m in
    let read = on-readable w.terminal word v k.kept k.rows k.currencies (f m refl) in
    let same : after_message w.terminal m v ≡ after_on w.terminal word v = after-word w.terminal m v in
    record {
      sound = subst IsSound (sym same) (on-sound w.terminal word v k.sound);
      rows = subst (λ (t : TerminalState). FitRows t.ledger) (sym same) read.rows;
      currencies = subst (λ (t : TerminalState). FitCurrencies t.ledger) (sym same) (on-currencies w.terminal word v k.kept k.currencies);
      kept = subst (λ (t : TerminalState). FitCurrency t.currency) (sym same) read.kept;
      settings = k.settings;
      words = k.words;
    }

till-mean : (w : Ends) (m : Option Message) → meaning (reaches_till w m) ≡ till_meant (meaning w) (option_map heard_as m)
till-mean w None = refl
till-mean w (Some m) =
    ap (λ x. record { till = step w.till (HeardIn (heard_as m)); settling = settles w.till w.settling (HeardIn (heard_as m)); terminal = w.terminal; from_till = x; from_terminal = map heard_as w.from_terminal; before = w.ledger_before })
    (sent-more w.from_till (cond w.till.line_up (sent_out (reply_to (heard_as m))) []) (map Plain (answer_to w.till.line_up (heard_as m))) (answers-mean w.till.line_up (heard_as m)))

till-fit : (w : Ends) (m : Option Message) → Fit w → Fit (reaches_till w m)
till-fit w None k = k
till-fit w (Some m) k =
    record {
      sound = k.sound;
      rows = k.rows;
      currencies = k.currencies;
      kept = k.kept;
      settings = settings-step w.till (HeardIn (heard_as m)) ∙ k.settings;
      words =
          subst AllFit (sym (sent-more w.from_till (cond w.till.line_up (sent_out (reply_to (heard_as m))) []) (map Plain (answer_to w.till.line_up (heard_as m))) (answers-mean w.till.line_up (heard_as m))))
          (all-more (map word_of w.from_till) (map Plain (answer_to w.till.line_up (heard_as m))) k.words (answers-fit w.till.line_up (heard_as m)));
    }

-- a message of the till that was sent can be read
delivered-fit : (w : Ends) (k : ℕ) → Fit w → (x : Message) → slice_get w.from_till k ≡ Some x → FitWord (word_of x)
delivered-fit w k f x e = fit-at (map word_of w.from_till) k (word_of x) f.words (slice_get-map word_of w.from_till k ∙ ap (option_map word_of) e)

pub act-means : (w : Ends) (x : Act) → FitAct x → Fit w → meaning (act w x) ≡ act_meant (meaning w) x
act-means w (Does Connect) f k = refl
act-means w (Does (Ordered o)) f k = orders-mean w o (order_refusal w o) f k
act-means w (Does (ToTerminal i v)) f k =
    terminal-mean w v (slice_get w.from_till i) k (delivered-fit w i k) ∙ ap (λ m. terminal_meant (meaning w) v m) (sym (slice_get-map word_of w.from_till i))
act-means w (Does (ToTill i)) f k = till-mean w (slice_get w.from_terminal i) ∙ ap (λ m. till_meant (meaning w) m) (sym (slice_get-map heard_as w.from_terminal i))
act-means w (Does TillLost) f k = refl
act-means w (Does TerminalLost) f k = refl
act-means w Asks f k = asks-mean w (ask_refusal (facts_of w.till) w.settling.asking)

pub act-fit : (w : Ends) (x : Act) → FitAct x → Fit w → Fit (act w x)
act-fit w (Does Connect) f k = record { sound = k.sound; rows = k.rows; currencies = k.currencies; kept = k.kept; settings = k.settings; words = k.words }
act-fit w (Does (Ordered o)) f k = orders-fit w o (order_refusal w o) f k
act-fit w (Does (ToTerminal i v)) f k = terminal-fit w v (slice_get w.from_till i) k (delivered-fit w i k)
act-fit w (Does (ToTill i)) f k = till-fit w (slice_get w.from_terminal i) k
act-fit w (Does TillLost) f k = record { sound = k.sound; rows = k.rows; currencies = k.currencies; kept = k.kept; settings = settings-step w.till Lost ∙ k.settings; words = k.words }
act-fit w (Does TerminalLost) f k = record { sound = k.sound; rows = k.rows; currencies = k.currencies; kept = tt; settings = k.settings; words = k.words }
act-fit w Asks f k = asks-fit w (ask_refusal (facts_of w.till) w.settling.asking) k

pub new-fit : Fit new_ends
new-fit = record { sound = (omega arith, omega arith, tt, tt); rows = tt; currencies = tt; kept = tt; settings = refl; words = tt }
