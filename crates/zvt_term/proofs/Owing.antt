-- What a turn withholds is due in the order that runs then, and while a status is due each other turn changes nothing.
use Rattle.std.proofs.Common.{◌≡◌, ◌∙◌, ℕ, ◌+◌, ◌-◌, ◌≤◌, ◌==◌, ◌&&◌, Bool, true, false, cond, nat_lt, List, [], ◌∷◌, ◌++◌, length, Option, Some, None, option_map, option_to_list, slice_get, ap, refl, sym, subst, arith, length-append, append-nil}
use Rattle.std.proofs.lemmas.Bool.{cond-true, eq-eqb, eqb-true}
use Rattle.std.specs.Option.{option_or}
use Rattle.zvt_till.specs.declared.messages.CurrencyFact.{CurrencyFact}
use Rattle.zvt_term.specs.declared.messages.Asked.{Asked}
use Rattle.zvt_term.specs.declared.messages.Asked.TheVariants.{Registration, Authorisation, Reversal, EndOfDay, AbortOrder, Answer, Unknown}
use Rattle.zvt_term.specs.declared.messages.Report.{Report}
use Rattle.zvt_term.specs.declared.messages.Report.TheVariants.{Ack, Nack, Registered, Approved, Result, TakenBack, Done, Aborted}
use Rattle.zvt_term.specs.declared.messages.Response.{Response}
use Rattle.zvt_term.specs.declared.messages.Response.TheVariants.{One, Two}
use Rattle.zvt_term.specs.declared.ledger.Row.{Row}
use Rattle.zvt_term.specs.declared.turns.Phase.{Phase}
use Rattle.zvt_term.specs.declared.turns.Phase.TheVariants.{Idle, Printing, Completing, Aborting, Ending}
use Rattle.zvt_term.specs.declared.turns.Turn.{Turn}
use Rattle.zvt_term.specs.declared.turns.Verdict.{Verdict}
use Rattle.zvt_term.specs.declared.turns.Verdict.TheVariants.{Approve, Decline}
use Rattle.zvt_term.specs.declared.extras.Extra.{Extra}
use Rattle.zvt_term.specs.declared.extras.Extra.TheVariants.{Service, LogOff, RepeatReceipt, Refund}
use Rattle.zvt_term.specs.declared.extras.Extras.{Extras}
use Rattle.zvt_term.specs.declared.extras.Receipts.{Receipts}
use Rattle.zvt_term.specs.declared.refunds.Refunded.{Refunded}
use Rattle.zvt_term.specs.Dressing.{is_ack, is_delayed, is_status}
use Rattle.zvt_term.specs.Extended.{count_refunds, extra_turn, is_answer, last_report, last_row, logs_off, new_refund, next_phase, pays_back, profile_turn, refund_by, repeats, report_of_refund, report_of_row, status_due}
use Rattle.zvt_term.specs.Ledger.{approval_by, is_taken_back}
use Rattle.zvt_term.specs.Terminal.{TerminalState, aborts, after, authorises, closes, decides, goes_on, has_capacity, is_idle, is_ready, most_rows, next_number, refuses, registers, reverses, reverses_found, runs, stays, takes_back_row, takes_currency, when}
use Rattle.zvt_term.specs.Withheld.{withheld_by}
use Rattle.zvt_term.proofs.TurnLemmas.{taken_back}

-- ---- rows and refunds

-- the last refund came no later than the last row
abbrev pub IsWithin : Option Refunded → List Row → Type 0
IsWithin None rows = Unit {0}
IsWithin (Some refund) rows = refund.rows ≤ length rows

within-append : (last : Option Refunded) (rows more : List Row) → IsWithin last rows → IsWithin last (rows ++ more)
within-append None rows more h = tt
within-append (Some refund) rows more h = omega (arith, h, length-append rows more)

at_end : (rows : List Row) (row : Row) → slice_get (rows ++ row ∷ []) (length rows) ≡ Some row
at_end [] row = refl
at_end (first ∷ rows) row = at_end rows row

last_appended : (rows : List Row) (row : Row) → last_row (rows ++ row ∷ []) ≡ Some row
last_appended rows row =
    let size : length (rows ++ row ∷ []) - 1 ≡ length rows = omega (arith, length-append rows (row ∷ [])) in
    ap (λ (k : ℕ). slice_get (rows ++ row ∷ []) k) size ∙ at_end rows row

-- a new row is the last transaction
row_reported : (last : Option Refunded) (rows : List Row) (row : Row) → IsWithin last rows → last_report (rows ++ row ∷ []) last ≡ Some (report_of_row row)
row_reported None rows row h = ap (λ (o : Option Row). option_map report_of_row o) (last_appended rows row)
row_reported (Some refund) rows row h = by_test (refund.rows == length (rows ++ row ∷ [])) refl
  where
    by_test : (b : Bool) → (refund.rows == length (rows ++ row ∷ [])) ≡ b
        → cond b (Some (report_of_refund refund)) (option_map report_of_row (last_row (rows ++ row ∷ []))) ≡ Some (report_of_row row)
    by_test true e = absurd (omega (arith, h, eqb-true refund.rows (length (rows ++ row ∷ [])) e, length-append rows (row ∷ [])))
    by_test false e = ap (λ (o : Option Row). option_map report_of_row o) (last_appended rows row)

-- a new refund is the last transaction
refund_reported : (refund : Refunded) (rows : List Row) → refund.rows ≡ length rows → last_report (rows ++ []) (Some refund) ≡ Some (report_of_refund refund)
refund_reported refund rows e =
    let same : refund.rows ≡ length (rows ++ []) = e ∙ ap length (sym (append-nil rows)) in
    cond-true _ _ _ (eq-eqb refund.rows (length (rows ++ [])) same)

-- ---- a turn of a terminal that withholds nothing

-- what is withheld, if anything, is due in an order
abbrev pub IsOwed : TerminalState → Option Refunded → Option Report → Type 0
IsOwed s last None = Unit {0}
IsOwed s last (Some report) = (is_idle s.phase ≡ false) × (status_due s last ≡ Some report)

pub record Owes (s : TerminalState) (last refunded : Option Refunded) (turn : Turn) : Type 0 where
  pub within : IsWithin (option_or refunded last) (after s turn).ledger
  pub owed : (extras : Extras) → IsOwed (after s turn) (option_or refunded last) (withheld_by extras turn.reply)

never : (x y : Bool) (report : Report) → cond (x && (y && false)) (Some report) None ≡ None
never true true report = refl
never true false report = refl
never false y report = refl

-- a reply without a status withholds nothing
pub silent : (extras : Extras) (first second : Report) → is_status second ≡ false → withheld_by extras (Two first second) ≡ None
silent extras first second e =
    ap (λ (b : Bool). cond (extras.intermediate && (is_ack first && b)) (Some second) None) e ∙ never extras.intermediate (is_ack first) second

owes_nothing : (s : TerminalState) (last : Option Refunded) (turn : Turn) → IsWithin last s.ledger → ((extras : Extras) → withheld_by extras turn.reply ≡ None) → Owes s last None turn
owes_nothing s last turn h e =
    record {
      within = within-append last s.ledger (option_to_list turn.row) h;
      owed = λ extras. subst (λ (o : Option Report). IsOwed (after s turn) last o) (sym (e extras)) tt;
    }

owed_second : (s : TerminalState) (last : Option Refunded) (first second : Report) (extras : Extras) → is_idle s.phase ≡ false → status_due s last ≡ Some second
    → IsOwed s last (withheld_by extras (Two first second))
owed_second s last first second extras runs due = by_test (is_delayed extras (Two first second))
  where
    by_test : (b : Bool) → IsOwed s last (cond b (Some second) None)
    by_test true = (runs, due)
    by_test false = tt

pub refuses_owes : (s : TerminalState) (last : Option Refunded) (code : ℕ) → IsWithin last s.ledger → Owes s last None (refuses s code)
refuses_owes s last code h = owes_nothing s last (refuses s code) h (λ extras. refl)

pub aborts_owes : (s : TerminalState) (last : Option Refunded) (code : ℕ) → IsWithin last s.ledger → Owes s last None (aborts s code)
aborts_owes s last code h = owes_nothing s last (aborts s code) h (λ extras. silent extras Ack (Aborted code) refl)

when_owes : (s : TerminalState) (last : Option Refunded) (ready : Bool) (turn : Turn) → IsWithin last s.ledger → Owes s last None turn → Owes s last None (when ready s turn)
when_owes s last true turn h o = o
when_owes s last false turn h o = refuses_owes s last 131 h

decides_owes : (s : TerminalState) (last : Option Refunded) (amount : ℕ) (v : Verdict) → IsWithin last s.ledger → Owes s last None (decides s amount v)
decides_owes s last amount Approve h =
    let row : Row = record { number = next_number s; amount = amount; currency = s.currency; reverses = None } in
    record {
      within = within-append last s.ledger (row ∷ []) h;
      owed = λ extras. owed_second (after s (decides s amount Approve)) last Ack (Approved amount (next_number s) s.currency) extras refl (row_reported last s.ledger row h);
    }
decides_owes s last amount (Decline code) h =
    record {
      within = within-append last s.ledger [] h;
      owed = λ extras. owed_second (after s (decides s amount (Decline code))) last Ack (Result code) extras refl refl;
    }

authorises_owes : (s : TerminalState) (last : Option Refunded) (amount : Option ℕ) (named : CurrencyFact) (v : Verdict) → IsWithin last s.ledger → Owes s last None (authorises s amount named v)
authorises_owes s last None named v h = refuses_owes s last 255 h
authorises_owes s last (Some amount) named v h = by_both (has_capacity s) (takes_currency s.currency named)
  where
    by_both : (a b : Bool) → Owes s last None (cond a (cond b (decides s amount v) (refuses s 111)) (refuses s 255))
    by_both true true = decides_owes s last amount v h
    by_both true false = refuses_owes s last 111 h
    by_both false b = refuses_owes s last 255 h

taken_back_owes : (s : TerminalState) (last : Option Refunded) (row : Row) → IsWithin last s.ledger → Owes s last None (taken_back s row)
taken_back_owes s last row h =
    let next : Row = record { number = next_number s; amount = row.amount; currency = s.currency; reverses = Some row.number } in
    record {
      within = within-append last s.ledger (next ∷ []) h;
      owed = λ extras. owed_second (after s (taken_back s row)) last Ack (TakenBack row.amount (next_number s) row.number s.currency) extras refl (row_reported last s.ledger next h);
    }

takes_back_owes : (s : TerminalState) (last : Option Refunded) (row : Row) → IsWithin last s.ledger → Owes s last None (takes_back_row s row)
takes_back_owes s last row h = by_both (is_taken_back row.number s.ledger) (has_capacity s)
  where
    by_both : (a b : Bool) → Owes s last None (cond a (aborts s 180) (cond b (taken_back s row) (aborts s 255)))
    by_both true b = aborts_owes s last 180 h
    by_both false true = taken_back_owes s last row h
    by_both false false = aborts_owes s last 255 h

found_owes : (s : TerminalState) (last : Option Refunded) (row : Option Row) → IsWithin last s.ledger → Owes s last None (reverses_found s row)
found_owes s last None h = aborts_owes s last 181 h
found_owes s last (Some row) h = takes_back_owes s last row h

reverses_owes : (s : TerminalState) (last : Option Refunded) (receipt : Option (List ℕ)) → IsWithin last s.ledger → Owes s last None (reverses s receipt)
reverses_owes s last None h = aborts_owes s last 181 h
reverses_owes s last (Some receipt) h = found_owes s last (approval_by receipt s.ledger) h

closes_owes : (s : TerminalState) (last : Option Refunded) → IsWithin last s.ledger → Owes s last None (closes s)
closes_owes s last h =
    record { within = within-append last s.ledger [] h; owed = λ extras. owed_second (after s (closes s)) last Ack (Result 0) extras refl refl }

goes_on_owes : (s : TerminalState) (last : Option Refunded) (phase : Phase) → IsWithin last s.ledger → Owes s last None (goes_on s phase)
goes_on_owes s last Idle h = owes_nothing s last (goes_on s Idle) h (λ extras. refl)
goes_on_owes s last (Printing line) h = owes_nothing s last (goes_on s (Printing line)) h (λ extras. refl)
goes_on_owes s last Completing h = owes_nothing s last (goes_on s Completing) h (λ extras. refl)
goes_on_owes s last (Aborting code) h = owes_nothing s last (goes_on s (Aborting code)) h (λ extras. refl)
goes_on_owes s last Ending h = owes_nothing s last (goes_on s Ending) h (λ extras. refl)

pub profile_owes : (receipts : Receipts) (s : TerminalState) (last : Option Refunded) (asked : Asked) (v : Verdict) → IsWithin last s.ledger → Owes s last None (profile_turn receipts s asked v)
profile_owes receipts s last (Registration currency) v h =
    when_owes s last (is_idle s.phase) (registers s currency) h (owes_nothing s last (registers s currency) h (λ extras. silent extras Ack (Registered s.tid currency) refl))
profile_owes receipts s last (Authorisation amount named) v h = when_owes s last (is_ready s) (authorises s amount named v) h (authorises_owes s last amount named v h)
profile_owes receipts s last (Reversal receipt) v h = when_owes s last (is_ready s) (reverses s receipt) h (reverses_owes s last receipt h)
profile_owes receipts s last EndOfDay v h = when_owes s last (is_ready s) (closes s) h (closes_owes s last h)
profile_owes receipts s last AbortOrder v h = owes_nothing s last (stays s (One Ack)) h (λ extras. refl)
profile_owes receipts s last Answer v h = goes_on_owes s last (next_phase receipts s.phase) h
profile_owes receipts s last Unknown v h = refuses_owes s last 131 h

repeats_owes : (s : TerminalState) (last : Option Refunded) (report : Option Report) → last_report s.ledger last ≡ report → IsWithin last s.ledger → Owes s last None (repeats s report)
repeats_owes s last None e h = aborts_owes s last 131 h
repeats_owes s last (Some report) e h =
    record {
      within = within-append last s.ledger [] h;
      owed = λ extras. owed_second (after s (repeats s (Some report))) last Ack report extras refl (ap (λ (rows : List Row). last_report rows last) (append-nil s.ledger) ∙ e);
    }

-- a new refund counts the rows before it
refund_rows : (s : TerminalState) (last : Option Refunded) (amount : Option ℕ) (refund : Refunded) → new_refund s last amount ≡ Some refund → refund.rows ≡ length s.ledger
refund_rows s last None refund e = absurd cc
refund_rows s last (Some amount) refund e = by_test (nat_lt (count_refunds last + length s.ledger) most_rows) e
  where
    by_test : (b : Bool) → cond b (Some (record { before = count_refunds last; amount = amount; currency = s.currency; rows = length s.ledger })) None ≡ Some refund → refund.rows ≡ length s.ledger
    by_test true e =
        let same : record { before = count_refunds last; amount = amount; currency = s.currency; rows = length s.ledger } ≡ refund = cc in
        ap (λ (r : Refunded). r.rows) (sym same)
    by_test false e = absurd cc

pays_back_owes : (s : TerminalState) (last refunded : Option Refunded) → ((refund : Refunded) → refunded ≡ Some refund → refund.rows ≡ length s.ledger) → IsWithin last s.ledger
    → Owes s last refunded (pays_back s refunded)
pays_back_owes s last None e h = refuses_owes s last 255 h
pays_back_owes s last (Some refund) e h =
    let rows : refund.rows ≡ length s.ledger = e refund refl in
    record {
      within = omega (arith, rows, length-append s.ledger []);
      owed = λ extras. owed_second (after s (pays_back s (Some refund))) (Some refund) Ack (report_of_refund refund) extras refl (refund_reported refund s.ledger rows);
    }

refunds_owes : (s : TerminalState) (last : Option Refunded) (amount : Option ℕ) (ready : Bool) → IsWithin last s.ledger
    → Owes s last (cond ready (new_refund s last amount) None) (when ready s (pays_back s (new_refund s last amount)))
refunds_owes s last amount true h = pays_back_owes s last (new_refund s last amount) (refund_rows s last amount) h
refunds_owes s last amount false h = refuses_owes s last 131 h

pub extra_owes : (s : TerminalState) (last : Option Refunded) (extra : Extra) → IsWithin last s.ledger → Owes s last (refund_by s last extra) (extra_turn s last extra)
extra_owes s last Service h = when_owes s last (is_ready s) (runs s Ending Done) h (owes_nothing s last (runs s Ending Done) h (λ extras. silent extras Ack Done refl))
extra_owes s last LogOff h = when_owes s last (is_ready s) logs_off h (owes_nothing s last logs_off h (λ extras. refl))
extra_owes s last RepeatReceipt h =
    when_owes s last (is_ready s) (repeats s (last_report s.ledger last)) h (repeats_owes s last (last_report s.ledger last) refl h)
extra_owes s last (Refund amount) h = refunds_owes s last amount (is_ready s) h

-- ---- a turn of a terminal that withholds a status

-- nothing changes, and nothing more is withheld
pub record Stays (s : TerminalState) (refunded : Option Refunded) (turn : Turn) : Type 0 where
  pub same : after s turn ≡ s
  pub none : refunded ≡ None
  pub quiet : (extras : Extras) → withheld_by extras turn.reply ≡ None

same_state : (s : TerminalState) (reply : Response) → after s (stays s reply) ≡ s
same_state s reply = ap (λ (rows : List Row). record s { ledger = rows }) (append-nil s.ledger)

refuses_stays : (s : TerminalState) (code : ℕ) → Stays s None (refuses s code)
refuses_stays s code = record { same = same_state s (One (Nack code)); none = refl; quiet = λ extras. refl }

when_stays : (s : TerminalState) (ready : Bool) (turn : Turn) → ready ≡ false → Stays s None (when ready s turn)
when_stays s ready turn e = subst (λ (b : Bool). Stays s None (when b s turn)) (sym e) (refuses_stays s 131)

pub neither : (b : Bool) → (b && false) ≡ false
neither true = refl
neither false = refl

pub not_ready : (s : TerminalState) → is_idle s.phase ≡ false → is_ready s ≡ false
not_ready s e = ap (λ (b : Bool). s.registered && b) e ∙ neither s.registered

pub profile_stays : (receipts : Receipts) (s : TerminalState) (asked : Asked) (v : Verdict) → is_idle s.phase ≡ false → is_answer asked ≡ false → Stays s None (profile_turn receipts s asked v)
profile_stays receipts s (Registration currency) v e unanswered = when_stays s (is_idle s.phase) (registers s currency) e
profile_stays receipts s (Authorisation amount named) v e unanswered = when_stays s (is_ready s) (authorises s amount named v) (not_ready s e)
profile_stays receipts s (Reversal receipt) v e unanswered = when_stays s (is_ready s) (reverses s receipt) (not_ready s e)
profile_stays receipts s EndOfDay v e unanswered = when_stays s (is_ready s) (closes s) (not_ready s e)
profile_stays receipts s AbortOrder v e unanswered = record { same = same_state s (One Ack); none = refl; quiet = λ extras. refl }
profile_stays receipts s Answer v e unanswered = absurd cc
profile_stays receipts s Unknown v e unanswered = refuses_stays s 131

refund_stays : (s : TerminalState) (last : Option Refunded) (amount : Option ℕ) (ready : Bool) → ready ≡ false
    → Stays s (cond ready (new_refund s last amount) None) (when ready s (pays_back s (new_refund s last amount)))
refund_stays s last amount ready e =
    subst (λ (b : Bool). Stays s (cond b (new_refund s last amount) None) (when b s (pays_back s (new_refund s last amount)))) (sym e) (refuses_stays s 131)

pub extra_stays : (s : TerminalState) (last : Option Refunded) (extra : Extra) → is_idle s.phase ≡ false → Stays s (refund_by s last extra) (extra_turn s last extra)
extra_stays s last Service e = when_stays s (is_ready s) (runs s Ending Done) (not_ready s e)
extra_stays s last LogOff e = when_stays s (is_ready s) logs_off (not_ready s e)
extra_stays s last RepeatReceipt e = when_stays s (is_ready s) (repeats s (last_report s.ledger last)) (not_ready s e)
extra_stays s last (Refund amount) e = refund_stays s last amount (is_ready s) (not_ready s e)
