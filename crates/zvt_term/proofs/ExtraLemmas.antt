-- The turns of orders beyond the profile, and those while a payment is held, add no row, and their reports can be written.
use Rattle.std.proofs.Common.{◌≡◌, ℕ, zero, suc, ◌-◌, ◌==◌, ◌≤◌, Bool, true, false, cond, List, [], ◌∷◌, ◌++◌, length, Option, Some, None, option_map, option_to_list, IfSome, slice_get, refl, sym, subst, ap, ◌∙◌, arith, append-nil}
use Rattle.zvt_term.specs.declared.messages.Asked.{Asked}
use Rattle.zvt_term.specs.declared.messages.Asked.TheVariants.{Registration, Authorisation, Reversal, EndOfDay, AbortOrder, Answer, Unknown}
use Rattle.zvt_term.specs.declared.messages.Report.{Report}
use Rattle.zvt_term.specs.declared.messages.Report.TheVariants.{Approved, TakenBack, Done}
use Rattle.zvt_term.specs.declared.ledger.Row.{Row}
use Rattle.zvt_term.specs.declared.turns.Phase.TheVariants.{Ending}
use Rattle.zvt_term.specs.declared.turns.Turn.{Turn}
use Rattle.zvt_term.specs.declared.turns.Verdict.{Verdict}
use Rattle.zvt_term.specs.declared.extras.Receipts.{Receipts}
use Rattle.zvt_term.specs.declared.extras.Extra.{Extra}
use Rattle.zvt_term.specs.declared.extras.Extra.TheVariants.{Service, LogOff, RepeatReceipt, Refund}
use Rattle.zvt_term.specs.declared.refunds.Refunded.{Refunded}
use Rattle.zvt_term.specs.declared.extended.Extended.{Extended}
use Rattle.zvt_term.specs.Inside.{IsSound}
use Rattle.zvt_term.specs.Extended.{asked_turn, extra_turn, last_report, logs_off, new_refund, next_phase, pays_back, profile_turn, repeats, report_of_refund, report_of_row, window_turn}
use Rattle.zvt_term.specs.Ledger.{NumberedFrom, IsBefore, ReverseEarlier}
use Rattle.zvt_term.specs.Reports.{IsWritable}
use Rattle.zvt_term.specs.Steps.{AreWritable, IsNext}
use Rattle.zvt_term.specs.Terminal.{TerminalState, is_ready, runs, when, after, reports_of}
use Rattle.zvt_term.proofs.TurnLemmas.{AllShort, Short, Sound, goes_on-sound, numbered-short, short-before, turn-sound}

-- ---- no row

when_no_row : (s : TerminalState) (ready : Bool) (turn : Turn) → turn.row ≡ None → (when ready s turn).row ≡ None
when_no_row s true turn e = e
when_no_row s false turn e = refl

repeats_no_row : (s : TerminalState) (report : Option Report) → (repeats s report).row ≡ None
repeats_no_row s None = refl
repeats_no_row s (Some report) = refl

pays_back_no_row : (s : TerminalState) (refund : Option Refunded) → (pays_back s refund).row ≡ None
pays_back_no_row s None = refl
pays_back_no_row s (Some refund) = refl

pub no_row : (s : TerminalState) (last : Option Refunded) (extra : Extra) → (extra_turn s last extra).row ≡ None
no_row s last Service = when_no_row s (is_ready s) (runs s Ending Done) refl
no_row s last LogOff = when_no_row s (is_ready s) logs_off refl
no_row s last RepeatReceipt = when_no_row s (is_ready s) (repeats s (last_report s.ledger last)) (repeats_no_row s (last_report s.ledger last))
no_row s last (Refund amount) = when_no_row s (is_ready s) (pays_back s (new_refund s last amount)) (pays_back_no_row s (new_refund s last amount))

pub next_row : (s : TerminalState) (last : Option Refunded) (extra : Extra) → IsNext s (extra_turn s last extra).row
next_row s last extra = subst (λ (row : Option Row). IsNext s row) (sym (no_row s last extra)) tt

-- the ledger after such a turn
pub same_ledger : (s : TerminalState) (last : Option Refunded) (extra : Extra) → (after s (extra_turn s last extra)).ledger ≡ s.ledger
same_ledger s last extra = ap (λ (row : Option Row). s.ledger ++ option_to_list row) (no_row s last extra) ∙ append-nil s.ledger

-- ---- reports

abbrev pub AllWritable : Option Report → Type 0
AllWritable o = IfSome o (λ report. IsWritable report)

row_writable : (row : Row) → row.number ≤ 9999 → IsBefore row.reverses row.number → IsWritable (report_of_row row)
row_writable row few before = by_original row.reverses before
  where
    by_original : (o : Option ℕ) → IsBefore o row.number
        → IsWritable (elim o [ None ↦ Approved row.amount row.number row.currency | Some original ↦ TakenBack row.amount row.number original row.currency ])
    by_original None before = few
    by_original (Some original) before = (few, omega (arith, few, before))

get_writable : (rows : List Row) (k : ℕ) → AllShort rows → ReverseEarlier rows → AllWritable (option_map report_of_row (slice_get rows k))
get_writable [] k h e = tt
get_writable (row ∷ rows) zero h e = row_writable row h.0 e.0
get_writable (row ∷ rows) (suc k) h e = get_writable rows k h.1 e.1

pub last_row_writable : (rows : List Row) (row : Row) → AllShort rows → ReverseEarlier rows → Some row ≡ slice_get rows (length rows - 1) → IsWritable (report_of_row row)
last_row_writable rows row h earlier e = subst (λ (o : Option Row). AllWritable (option_map report_of_row o)) (sym e) (get_writable rows (length rows - 1) h earlier)

pub all_short : (rows : List Row) → NumberedFrom 1 rows → length rows ≤ 9999 → AllShort rows
all_short rows numbered few =
    numbered-short 1 rows [] (subst (λ (l : List Row). NumberedFrom 1 l) (sym (append-nil rows)) numbered) (omega (arith, few, ap length (append-nil rows)))

refund_writable : (refund : Refunded) → IsWritable (report_of_refund refund)
refund_writable refund = omega arith

pub last_writable : (rows : List Row) (last : Option Refunded) → AllShort rows → ReverseEarlier rows → AllWritable (last_report rows last)
last_writable rows None h e = get_writable rows (length rows - 1) h e
last_writable rows (Some refund) h e = by_test (refund.rows == length rows)
  where
    by_test : (b : Bool) → AllWritable (cond b (Some (report_of_refund refund)) (option_map report_of_row (slice_get rows (length rows - 1))))
    by_test true = refund_writable refund
    by_test false = get_writable rows (length rows - 1) h e

when_writable : (s : TerminalState) (ready : Bool) (turn : Turn) → AreWritable (reports_of turn.reply) → AreWritable (reports_of (when ready s turn).reply)
when_writable s true turn h = h
when_writable s false turn h = (tt, tt)

repeats_writable : (s : TerminalState) (report : Option Report) → AllWritable report → AreWritable (reports_of (repeats s report).reply)
repeats_writable s None h = (tt, (tt, tt))
repeats_writable s (Some report) h = (tt, (h, tt))

pays_back_writable : (s : TerminalState) (refund : Option Refunded) → AreWritable (reports_of (pays_back s refund).reply)
pays_back_writable s None = (tt, tt)
pays_back_writable s (Some refund) = (tt, (refund_writable refund, tt))

pub extra_writable : (s : TerminalState) (last : Option Refunded) (extra : Extra) → Short s → AreWritable (reports_of (extra_turn s last extra).reply)
extra_writable s last Service k = when_writable s (is_ready s) (runs s Ending Done) (tt, (tt, tt))
extra_writable s last LogOff k = when_writable s (is_ready s) logs_off (tt, tt)
extra_writable s last RepeatReceipt k =
    when_writable s (is_ready s) (repeats s (last_report s.ledger last)) (repeats_writable s (last_report s.ledger last) (last_writable s.ledger last k.rows k.earlier))
extra_writable s last (Refund amount) k = when_writable s (is_ready s) (pays_back s (new_refund s last amount)) (pays_back_writable s (new_refund s last amount))

-- ---- messages of the profile

pub profile_sound : (receipts : Receipts) (s : TerminalState) (asked : Asked) (v : Verdict) → Sound s (profile_turn receipts s asked v)
profile_sound receipts s (Registration currency) v = turn-sound s (Registration currency) v
profile_sound receipts s (Authorisation amount named) v = turn-sound s (Authorisation amount named) v
profile_sound receipts s (Reversal receipt) v = turn-sound s (Reversal receipt) v
profile_sound receipts s EndOfDay v = turn-sound s EndOfDay v
profile_sound receipts s AbortOrder v = turn-sound s AbortOrder v
profile_sound receipts s Answer v = goes_on-sound s (next_phase receipts s.phase)
profile_sound receipts s Unknown v = turn-sound s Unknown v

pub asked_next : (t : Extended) (asked : Asked) → IsNext t.served.terminal (asked_turn t asked).row
asked_next t asked = (profile_sound t.extras.receipts t.served.terminal asked t.served.verdict).next

pub asked_writable : (t : Extended) (asked : Asked) → IsSound (after t.served.terminal (asked_turn t asked)) → AreWritable (reports_of (asked_turn t asked).reply)
asked_writable t asked sound =
    (profile_sound t.extras.receipts t.served.terminal asked t.served.verdict).writable (short-before t.served.terminal (asked_turn t asked) refl sound)

-- ---- messages while a payment is held

pub window_no_row : (s : TerminalState) (asked : Asked) → (window_turn s asked).row ≡ None
window_no_row s (Registration currency) = refl
window_no_row s (Authorisation amount named) = refl
window_no_row s (Reversal receipt) = refl
window_no_row s EndOfDay = refl
window_no_row s AbortOrder = refl
window_no_row s Answer = refl
window_no_row s Unknown = refl

pub window_next : (s : TerminalState) (asked : Asked) → IsNext s (window_turn s asked).row
window_next s asked = subst (λ (row : Option Row). IsNext s row) (sym (window_no_row s asked)) tt

pub window_writable : (s : TerminalState) (asked : Asked) → AreWritable (reports_of (window_turn s asked).reply)
window_writable s (Registration currency) = (tt, tt)
window_writable s (Authorisation amount named) = (tt, tt)
window_writable s (Reversal receipt) = (tt, tt)
window_writable s EndOfDay = (tt, tt)
window_writable s AbortOrder = (tt, (tt, tt))
window_writable s Answer = (tt, tt)
window_writable s Unknown = (tt, tt)

-- the ledger after such a turn
pub window_ledger : (s : TerminalState) (asked : Asked) → (after s (window_turn s asked)).ledger ≡ s.ledger
window_ledger s asked = ap (λ (row : Option Row). s.ledger ++ option_to_list row) (window_no_row s asked) ∙ append-nil s.ledger
