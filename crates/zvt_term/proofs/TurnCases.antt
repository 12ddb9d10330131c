-- The turns of the simulated terminal, case by case.
use Rattle.std.proofs.Common.{◌≡◌, ℕ, ◌==◌, Bool, true, false, cond, List, Option, Some, None, option_map, refl}
use Rattle.zvt_till.specs.declared.messages.CurrencyFact.{CurrencyFact}
use Rattle.zvt_term.specs.declared.extras.Extra.TheVariants.{RepeatReceipt}
use Rattle.zvt_term.specs.declared.ledger.Row.{Row}
use Rattle.zvt_term.specs.declared.messages.Asked.TheVariants.{Registration, Authorisation, Reversal, EndOfDay}
use Rattle.zvt_term.specs.declared.turns.Phase.TheVariants.{Completing}
use Rattle.zvt_term.specs.declared.messages.Report.{Report}
use Rattle.zvt_term.specs.declared.turns.Verdict.{Verdict}
use Rattle.zvt_term.specs.declared.turns.Verdict.TheVariants.{Approve, Decline}
use Rattle.zvt_term.specs.Extended.{last_row, last_report, report_of_row, repeats, extra_turn}
use Rattle.zvt_term.specs.Ledger.{approval_by, is_taken_back}
use Rattle.zvt_term.specs.Terminal.{TerminalState, has_capacity, is_idle, is_ready, runs, aborts, refuses, registers, takes_currency, decides, authorises, reverses_found, reverses, closes, turn_of, after, reports_of}
use Rattle.zvt_term.proofs.TurnLemmas.{taken_back}

pub either : {T : Type 0} (P : T → Type 0) (c : Bool) (x y : T) → (c ≡ true → P x) → P y → P (cond c x y)
either P true x y h k = h refl
either P false x y h k = k

-- what a turn leads to: the terminal after it, and what it says
abbrev pub Led : Type 1
Led = TerminalState → List Report → Type 0

-- a payment is refused, approved or declined
pub payment-cases : (P : Led) (s : TerminalState) (a : ℕ) (named : CurrencyFact) (v : Verdict)
    → ((code : ℕ) → (code == 0) ≡ false → P (after s (refuses s code)) (reports_of (refuses s code).reply)) → (is_ready s ≡ true → P (after s (decides s a Approve)) (reports_of (decides s a Approve).reply)) → ((code : ℕ) → P (after s (decides s a (Decline code))) (reports_of (decides s a (Decline code)).reply))
    → P (after s (turn_of s (Authorisation (Some a) named) v)) (reports_of (turn_of s (Authorisation (Some a) named) v).reply)
payment-cases P s a named v refused approved declined =
    either (λ turn. P (after s turn) (reports_of turn.reply)) (is_ready s) (authorises s (Some a) named v) (refuses s 131)
    (λ ready. either (λ turn. P (after s turn) (reports_of turn.reply)) (has_capacity s) (cond (takes_currency s.currency named) (decides s a v) (refuses s 111)) (refuses s 255)
    (λ room. either (λ turn. P (after s turn) (reports_of turn.reply)) (takes_currency s.currency named) (decides s a v) (refuses s 111) (λ own. by_verdict v ready) (refused 111 refl))
    (refused 255 refl))
    (refused 131 refl)
  where
    by_verdict : (w : Verdict) → is_ready s ≡ true → P (after s (decides s a w)) (reports_of (decides s a w).reply)
    by_verdict Approve ready = approved ready
    by_verdict (Decline code) ready = declined code

-- a reversal is refused, aborted or made
pub reversal-cases : (P : Led) (s : TerminalState) (receipt : List ℕ) (v : Verdict)
    → ((code : ℕ) → (code == 0) ≡ false → P (after s (refuses s code)) (reports_of (refuses s code).reply)) → ((code : ℕ) → P (after s (aborts s code)) (reports_of (aborts s code).reply)) → ((row : Row) → is_ready s ≡ true → approval_by receipt s.ledger ≡ Some row → P (after s (taken_back s row)) (reports_of (taken_back s row).reply))
    → P (after s (turn_of s (Reversal (Some receipt)) v)) (reports_of (turn_of s (Reversal (Some receipt)) v).reply)
reversal-cases P s receipt v refused aborted made =
    either (λ turn. P (after s turn) (reports_of turn.reply)) (is_ready s) (reverses s (Some receipt)) (refuses s 131) (λ ready. by_row (approval_by receipt s.ledger) refl ready) (refused 131 refl)
  where
    by_row : (o : Option Row) → approval_by receipt s.ledger ≡ o → is_ready s ≡ true → P (after s (reverses_found s o)) (reports_of (reverses_found s o).reply)
    by_row None e ready = aborted 181
    by_row (Some row) e ready =
        either (λ turn. P (after s turn) (reports_of turn.reply)) (is_taken_back row.number s.ledger) (aborts s 180) (cond (has_capacity s) (taken_back s row) (aborts s 255)) (λ before. aborted 180)
        (either (λ turn. P (after s turn) (reports_of turn.reply)) (has_capacity s) (taken_back s row) (aborts s 255) (λ room. made row ready e) (aborted 255))

pub registration-cases : (P : Led) (s : TerminalState) (currency : Option ℕ) (v : Verdict) → P (after s (refuses s 131)) (reports_of (refuses s 131).reply) → P (after s (registers s currency)) (reports_of (registers s currency).reply) → P (after s (turn_of s (Registration currency) v)) (reports_of (turn_of s (Registration currency) v).reply)
registration-cases P s currency v refused made = either (λ turn. P (after s turn) (reports_of turn.reply)) (is_idle s.phase) (registers s currency) (refuses s 131) (λ idle. made) refused

pub closing-cases : (P : Led) (s : TerminalState) (v : Verdict) → P (after s (refuses s 131)) (reports_of (refuses s 131).reply) → P (after s (closes s)) (reports_of (closes s).reply) → P (after s (turn_of s EndOfDay v)) (reports_of (turn_of s EndOfDay v).reply)
closing-cases P s v refused made = either (λ turn. P (after s turn) (reports_of turn.reply)) (is_ready s) (closes s) (refuses s 131) (λ ready. made) refused

-- a repeat receipt is refused, aborted or answered by the status of the last row
pub repeat-cases : (P : Led) (s : TerminalState) → P (after s (refuses s 131)) (reports_of (refuses s 131).reply) → P (after s (aborts s 131)) (reports_of (aborts s 131).reply) → ((row : Row) → last_row s.ledger ≡ Some row → P (after s (runs s Completing (report_of_row row))) (reports_of (runs s Completing (report_of_row row)).reply))
    → P (after s (extra_turn s None RepeatReceipt)) (reports_of (extra_turn s None RepeatReceipt).reply)
repeat-cases P s refused aborted said = either (λ turn. P (after s turn) (reports_of turn.reply)) (is_ready s) (repeats s (last_report s.ledger None)) (refuses s 131) (λ ready. by_row (last_row s.ledger) refl) refused
  where
    by_row : (o : Option Row) → last_row s.ledger ≡ o → P (after s (repeats s (option_map report_of_row o))) (reports_of (repeats s (option_map report_of_row o)).reply)
    by_row None e = aborted
    by_row (Some row) e = said row e
