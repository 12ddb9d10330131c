-- What the messages of both ends mean to each other.
use Rattle.std.proofs.Common.{◌≡◌, ℕ, zero, suc, ◌≤◌, ◌==◌, Bool, true, false, cond, List, [], ◌∷◌, ◌++◌, Option, Some, None, map, refl, ap, ap₂, subst, ◌∙◌, slice_get, option_map, option_to_list, eqb-true, arith}
use Rattle.std.specs.List.{find}
use Rattle.zvt_bcd.specs.Digits.{number_of}
use Rattle.zvt_field.specs.Named.{positive}
use Rattle.zvt_apdu.specs.Briefs.{digits, message_of_brief}
use Rattle.zvt_apdu.specs.declared.brief.Brief.{Brief}
use Rattle.zvt_apdu.specs.declared.brief.Brief.TheVariants.{Ack as AckBrief, Nack as NackBrief, Register, Pay, Reverse, CloseDay, AbortOrder as AbortBrief}
use Rattle.zvt_till.specs.declared.messages.Heard.{Heard}
use Rattle.zvt_till.specs.declared.messages.Heard.TheVariants.{Positive, Negative, Status, Passing, Completion, Abort, Strange}
use Rattle.zvt_till.specs.declared.messages.Original.{Original}
use Rattle.zvt_till.specs.declared.messages.Original.TheVariants.{Absent, Once}
use Rattle.zvt_till.specs.declared.messages.CurrencyFact.{CurrencyFact}
use Rattle.zvt_till.specs.declared.messages.CurrencyFact.TheVariants.{Absent as NoCurrency, Once as OneCurrency}
use Rattle.zvt_till.specs.declared.messages.StatusFacts.{StatusFacts}
use Rattle.zvt_till.specs.declared.entries.Entry.{Entry}
use Rattle.zvt_till.specs.declared.orders.Order.{Order}
use Rattle.zvt_till.specs.declared.orders.Order.TheVariants.{Register as RegisterOrder, Pay as PayOrder, Reverse as ReverseOrder, CloseDay as CloseDayOrder, Cancel as CancelOrder}
use Rattle.zvt_till.specs.declared.orders.Outgoing.{Outgoing}
use Rattle.zvt_till.specs.Hearing.{heard_as}
use Rattle.zvt_till.specs.Sending.{Settings, message_of, reply_to, receipt_at, outgoing}
use Rattle.zvt_term.specs.declared.messages.Asked.{Asked}
use Rattle.zvt_term.specs.declared.messages.Asked.TheVariants.{Registration, Authorisation, Reversal, EndOfDay, AbortOrder, Answer, Unknown}
use Rattle.zvt_term.specs.declared.messages.Report.{Report}
use Rattle.zvt_term.specs.declared.messages.Report.TheVariants.{Ack, Nack, Registered, Approved, Result, TakenBack, Line, Done, Aborted}
use Rattle.zvt_term.specs.declared.ledger.Row.{Row}
use Rattle.zvt_term.specs.declared.turns.Verdict.{Verdict}
use Rattle.zvt_term.specs.declared.turns.Verdict.TheVariants.{Approve, Decline}
use Rattle.zvt_term.specs.declared.turns.Phase.{Phase}
use Rattle.zvt_term.specs.declared.turns.Phase.TheVariants.{Idle, Printing, Completing, Aborting, Ending}
use Rattle.zvt_term.specs.declared.turns.Turn.{Turn}
use Rattle.zvt_term.specs.Asking.{asked_as}
use Rattle.zvt_term.specs.Ledger.{approval_by, is_approval_named, is_taken_back}
use Rattle.zvt_term.specs.Reports.{message_of_report, IsWritable}
use Rattle.zvt_term.specs.Steps.{AreWritable}
use Rattle.zvt_term.specs.Terminal.{TerminalState, has_capacity, is_idle, is_ready, aborts, refuses, registers, takes_currency, decides, authorises, takes_back_row, reverses_found, reverses, closes, goes_on, when, turn_of, reports_of}
use Rattle.zvt_term.specs.World.{IsAmount, FitOrder, sent_out}
use Rattle.zvt_term.proofs.DigitLemmas.{number_of-digits}
use Rattle.zvt_term.proofs.Facts.{heard_of, asked_of, asked_out}
use Rattle.zvt_term.proofs.TurnLemmas.{taken_back}

-- amounts and currencies that there are

abbrev pub FitCurrency : Option ℕ → Type 0
FitCurrency None = Unit {0}
FitCurrency (Some currency) = currency ≤ 9999

abbrev pub FitAsked : Asked → Type 0
FitAsked (Registration currency) = FitCurrency currency
FitAsked (Authorisation None named) = Unit {0}
FitAsked (Authorisation (Some amount) named) = IsAmount amount
FitAsked (Reversal receipt) = Unit {0}
FitAsked EndOfDay = Unit {0}
FitAsked AbortOrder = Unit {0}
FitAsked Answer = Unit {0}
FitAsked Unknown = Unit {0}

abbrev pub AllAsked : List Asked → Type 0
AllAsked [] = Unit {0}
AllAsked (m ∷ ms) = FitAsked m × AllAsked ms

abbrev pub FitRows : List Row → Type 0
FitRows [] = Unit {0}
FitRows (row ∷ rows) = IsAmount row.amount × FitRows rows

abbrev pub FitReport : Report → Type 0
FitReport Ack = Unit {0}
FitReport (Nack code) = Unit {0}
FitReport (Registered tid currency) = Unit {0}
FitReport (Approved amount number currency) = IsAmount amount × FitCurrency currency
FitReport (Result code) = Unit {0}
FitReport (TakenBack amount number original currency) = IsAmount amount × FitCurrency currency
FitReport (Line line) = Unit {0}
FitReport Done = Unit {0}
FitReport (Aborted code) = Unit {0}

abbrev pub FitReports : List Report → Type 0
FitReports [] = Unit {0}
FitReports (report ∷ reports) = FitReport report × FitReports reports

pub asked-more : (ms ns : List Asked) → AllAsked ms → AllAsked ns → AllAsked (ms ++ ns)
asked-more [] ns h k = k
asked-more (m ∷ ms) ns h k = (h.0, asked-more ms ns h.1 k)

pub rows-more : (xs ys : List Row) → FitRows xs → FitRows ys → FitRows (xs ++ ys)
rows-more [] ys h k = k
rows-more (x ∷ xs) ys h k = (h.0, rows-more xs ys h.1 k)

pub asked-at : (ms : List Asked) (k : ℕ) (m : Asked) → AllAsked ms → slice_get ms k ≡ Some m → FitAsked m
asked-at [] k m h e = absurd cc
asked-at (n ∷ ms) zero m h e = let q : n ≡ m = cc in subst FitAsked q h.0
asked-at (n ∷ ms) (suc k) m h e = asked-at ms k m h.1 e

fit-found : (test : Row → Bool) (rows : List Row) (row : Row) → FitRows rows → find test rows ≡ Some row → IsAmount row.amount
fit-found test [] row h e = absurd cc
fit-found test (first ∷ rows) row h e = by_test (test first) (fit-found test rows row h.1) e
  where
    by_test : (b : Bool) → (find test rows ≡ Some row → IsAmount row.amount) → cond b (Some first) (find test rows) ≡ Some row → IsAmount row.amount
    by_test true later e = let same : first ≡ row = cc in subst (λ (r : Row). IsAmount r.amount) same h.0
    by_test false later e = later e

-- what is read of what is written

positive-read : (n : ℕ) → 1 ≤ n → positive n ≡ Some n
positive-read n h = by_test (n == 0) refl
  where
    by_test : (b : Bool) → (n == 0) ≡ b → cond b None (Some n) ≡ Some n
    by_test true e = let none : n ≡ 0 = eqb-true n 0 e in absurd (omega arith)
    by_test false e = refl

amount-read : (amount : ℕ) → IsAmount amount → positive (number_of (digits 6 amount)) ≡ Some amount
amount-read amount h = ap positive (number_of-digits 6 amount (omega (arith, h.1))) ∙ positive-read amount h.0

trace-read : (number : ℕ) → number ≤ 9999 → ◌≡◌ {A = Option ℕ} (Some (number_of (digits 3 number))) (Some number)
trace-read number h = ap (λ (n : ℕ). Some n) (number_of-digits 3 number (omega arith))

currency-read : (currency : ℕ) → currency ≤ 9999 → number_of (digits 2 currency) ≡ currency
currency-read currency h = number_of-digits 2 currency (omega arith)

abbrev status_of : ℕ → ℕ → List ℕ → Original → CurrencyFact → StatusFacts
status_of amount number receipt original currency = record { result = Some 0; has_result = true; amount = Some amount; trace = Some number; receipt = Some receipt; original = original; currency = currency }

-- a status whose amount and number were written
status-read : (amount number : ℕ) (receipt : List ℕ) (original : Original) (currency : CurrencyFact) → IsAmount amount → number ≤ 9999
    → Status (record {
      result = Some 0;
      has_result = true;
      amount = positive (number_of (digits 6 amount));
      trace = Some (number_of (digits 3 number));
      receipt = Some receipt;
      original = original;
      currency = currency;
    }) ≡ Status (status_of amount number receipt original currency)
status-read amount number receipt original currency f w =
    ap₂ (λ (a t : Option ℕ). Status (record { result = Some 0; has_result = true; amount = a; trace = t; receipt = Some receipt; original = original; currency = currency })) (amount-read amount f) (trace-read number w)

heard-report : (report : Report) → IsWritable report → FitReport report → heard_as (message_of_report report) ≡ heard_of report
heard-report Ack w f = refl
heard-report (Nack code) w f = refl
heard-report (Registered tid currency) w f = refl
heard-report (Approved amount number None) w f = status-read amount number (digits 2 number) Absent NoCurrency f.0 w
heard-report (Approved amount number (Some currency)) w f =
    status-read amount number (digits 2 number) Absent (OneCurrency (number_of (digits 2 currency))) f.0 w
    ∙ ap (λ (c : ℕ). Status (status_of amount number (digits 2 number) Absent (OneCurrency c))) (currency-read currency f.1)
heard-report (Result code) w f = refl
heard-report (TakenBack amount number original None) w f = status-read amount number (digits 2 number) (Once (digits 3 original)) NoCurrency f.0 w.0
heard-report (TakenBack amount number original (Some currency)) w f =
    status-read amount number (digits 2 number) (Once (digits 3 original)) (OneCurrency (number_of (digits 2 currency))) f.0 w.0
    ∙ ap (λ (c : ℕ). Status (status_of amount number (digits 2 number) (Once (digits 3 original)) (OneCurrency c))) (currency-read currency f.1)
heard-report (Line line) w f = refl
heard-report Done w f = refl
heard-report (Aborted code) w f = refl

pub heard-reports : (reports : List Report) → AreWritable reports → FitReports reports → map heard_as (map message_of_report reports) ≡ map heard_of reports
heard-reports [] w f = refl
heard-reports (report ∷ reports) w f = ap₂ (λ x xs. x ∷ xs) (heard-report report w.0 f.0) (heard-reports reports w.1 f.1)

abbrev FitBrief : Brief → Type 0
FitBrief AckBrief = Unit {0}
FitBrief (NackBrief code) = Unit {0}
FitBrief (Register password config currency) = currency ≤ 9999
FitBrief (Pay amount currency) = IsAmount amount × (currency ≤ 9999)
FitBrief (Reverse password receipt) = Unit {0}
FitBrief (CloseDay password) = Unit {0}
FitBrief AbortBrief = Unit {0}

abbrev pub FitOut : Option Outgoing → Type 0
FitOut None = Unit {0}
FitOut (Some out) = FitBrief out.brief

asked-brief : (brief : Brief) → FitBrief brief → asked_as (message_of_brief brief) ≡ asked_of brief
asked-brief AckBrief f = refl
asked-brief (NackBrief code) f = refl
asked-brief (Register password config currency) f = refl
asked-brief (Pay amount currency) f = ap₂ (λ (a : Option ℕ) (c : ℕ). Authorisation a (OneCurrency c)) (amount-read amount f.0) (currency-read currency f.1)
asked-brief (Reverse password receipt) f = refl
asked-brief (CloseDay password) f = refl
asked-brief AbortBrief f = refl

pub asked-out : (out : Option Outgoing) → FitOut out → map asked_as (sent_out out) ≡ asked_out out
asked-out None f = refl
asked-out (Some out) f = ap (λ m. m ∷ []) (asked-brief out.brief f)

asked-fit : (brief : Brief) → FitBrief brief → FitAsked (asked_of brief)
asked-fit AckBrief f = tt
asked-fit (NackBrief code) f = tt
asked-fit (Register password config currency) f = f
asked-fit (Pay amount currency) f = f.0
asked-fit (Reverse password receipt) f = tt
asked-fit (CloseDay password) f = tt
asked-fit AbortBrief f = tt

pub out-fit : (out : Option Outgoing) → FitOut out → AllAsked (asked_out out)
out-fit None f = tt
out-fit (Some out) f = (asked-fit out.brief f, tt)

pub order-fit : (s : Settings) (book : List Entry) (o : Order) → s.currency ≤ 9999 → FitOrder o → FitOut (message_of s book o)
order-fit s book RegisterOrder c f = c
order-fit s book (PayOrder amount) c f = (f, c)
order-fit s book (ReverseOrder e) c f = by_receipt (receipt_at (slice_get book e))
  where
    by_receipt : (receipt : Option (List ℕ)) → FitOut (option_map (λ r. outgoing (Reverse s.password r)) receipt)
    by_receipt None = tt
    by_receipt (Some r) = tt
order-fit s book CloseDayOrder c f = tt
order-fit s book CancelOrder c f = tt

pub reply-fit : (m : Heard) → FitOut (reply_to m)
reply-fit Positive = tt
reply-fit (Negative code) = tt
reply-fit (Status f) = tt
reply-fit Passing = tt
reply-fit Completion = tt
reply-fit (Abort code) = tt
reply-fit Strange = tt

-- what a turn writes down, says and keeps has amounts and currencies that there are

abbrev pub FitTurn : Turn → Type 0
FitTurn turn = FitRows (option_to_list turn.row) × FitReports (reports_of turn.reply) × FitCurrency turn.currency

when-fit : (s : TerminalState) (ready : Bool) (turn : Turn) → FitCurrency s.currency → FitTurn turn → FitTurn (when ready s turn)
when-fit s true turn c h = h
when-fit s false turn c h = (tt, (tt, tt), c)

decides-fit : (s : TerminalState) (amount : ℕ) (v : Verdict) → FitCurrency s.currency → IsAmount amount → FitTurn (decides s amount v)
decides-fit s amount Approve c f = ((f, tt), (tt, ((f, c), tt)), c)
decides-fit s amount (Decline code) c f = (tt, (tt, (tt, tt)), c)

authorises-fit : (s : TerminalState) (amount : Option ℕ) (named : CurrencyFact) (v : Verdict) → FitCurrency s.currency → FitAsked (Authorisation amount named) → FitTurn (authorises s amount named v)
authorises-fit s None named v c f = (tt, (tt, tt), c)
authorises-fit s (Some amount) named v c f = by_both (has_capacity s) (takes_currency s.currency named)
  where
    by_both : (a b : Bool) → FitTurn (cond a (cond b (decides s amount v) (refuses s 111)) (refuses s 255))
    by_both true true = decides-fit s amount v c f
    by_both true false = (tt, (tt, tt), c)
    by_both false b = (tt, (tt, tt), c)

takes_back-fit : (s : TerminalState) (row : Row) → FitCurrency s.currency → IsAmount row.amount → FitTurn (takes_back_row s row)
takes_back-fit s row c f = by_both (is_taken_back row.number s.ledger) (has_capacity s)
  where
    by_both : (a b : Bool) → FitTurn (cond a (aborts s 180) (cond b (taken_back s row) (aborts s 255)))
    by_both true b = (tt, (tt, (tt, tt)), c)
    by_both false true = ((f, tt), (tt, ((f, c), tt)), c)
    by_both false false = (tt, (tt, (tt, tt)), c)

reverses-fit : (s : TerminalState) (receipt : Option (List ℕ)) → FitCurrency s.currency → FitRows s.ledger → FitTurn (reverses s receipt)
reverses-fit s None c h = (tt, (tt, (tt, tt)), c)
reverses-fit s (Some receipt) c h = by_row (approval_by receipt s.ledger) refl
  where
    by_row : (row : Option Row) → approval_by receipt s.ledger ≡ row → FitTurn (reverses_found s row)
    by_row None is = (tt, (tt, (tt, tt)), c)
    by_row (Some row) is = takes_back-fit s row c (fit-found (is_approval_named receipt) s.ledger row h is)

goes_on-fit : (s : TerminalState) (phase : Phase) → FitCurrency s.currency → FitTurn (goes_on s phase)
goes_on-fit s Idle c = (tt, tt, c)
goes_on-fit s (Printing line) c = (tt, (tt, tt), c)
goes_on-fit s Completing c = (tt, (tt, tt), c)
goes_on-fit s (Aborting code) c = (tt, (tt, tt), c)
goes_on-fit s Ending c = (tt, tt, c)

pub turn-fit : (s : TerminalState) (asked : Asked) (v : Verdict) → FitCurrency s.currency → FitRows s.ledger → FitAsked asked → FitTurn (turn_of s asked v)
turn-fit s (Registration currency) v c h f = when-fit s (is_idle s.phase) (registers s currency) c (tt, (tt, (tt, tt)), f)
turn-fit s (Authorisation amount named) v c h f = when-fit s (is_ready s) (authorises s amount named v) c (authorises-fit s amount named v c f)
turn-fit s (Reversal receipt) v c h f = when-fit s (is_ready s) (reverses s receipt) c (reverses-fit s receipt c h)
turn-fit s EndOfDay v c h f = when-fit s (is_ready s) (closes s) c (tt, (tt, (tt, tt)), c)
turn-fit s AbortOrder v c h f = (tt, (tt, tt), c)
turn-fit s Answer v c h f = goes_on-fit s s.phase c
turn-fit s Unknown v c h f = (tt, (tt, tt), c)
