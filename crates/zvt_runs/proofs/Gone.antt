-- What is reported of a till that disconnected.
use Rattle.std.proofs.Common.{◌≡◌, ◌∙◌, ℕ, List, [], ◌++◌, drop, Option, Some, Result, Ok, Err, ap, subst}
use Rattle.std.specs.Fmt.{decimal}
use Rattle.std.specs.Prelude.{codes, OnOk}
use Rattle.std.specs.declared.alloc.AllocError.{AllocError}
use Rattle.zvt_stream.specs.declared.line.LineFault.{LineFault}
use Rattle.zvt_text.specs.Writing.{Adds}
use Rattle.zvt_text.specs.declared.form.Form.{Form}
use Rattle.zvt_text.specs.declared.form.Form.TheVariants as forms
use Rattle.zvt_runs.specs.Reporting.{Reports}
use Rattle.zvt_term.specs.declared.ledger.Row.{Row}
use Rattle.zvt_runs.specs.LedgerRows.{rows_text}
use Rattle.zvt_runs.specs.TcpReporting.{IsReport, SaysGone, ReportsGone, approvals, ledger_text}

-- a till whose line broke
pub says_broke : (r : Result (Unit {0}) AllocError) (till : ℕ) (fault : LineFault) (old t u v new why : List ℕ) → t ≡ old ++ codes "zvt: connection of till " → u ≡ t ++ decimal till → v ≡ u ++ codes " failed: " → Adds r v new why
    → OnOk r (SaysGone till (Some fault) old new)
says_broke (Ok done) till fault old t u v new why first second third fourth =
    (why, fourth ∙ ap (λ l. l ++ why) (third ∙ ap (λ l. l ++ codes " failed: ") (second ∙ ap (λ l. l ++ decimal till) first)))
says_broke (Err refused) till fault old t u v new why first second third fourth = tt

-- the whole line in words
pub says_words : (till : ℕ) (broke : Option LineFault) (approved : ℕ) (start gone report : List ℕ) → start ≡ [] → SaysGone till broke start gone → report ≡ gone ++ ledger_text approved → IsReport forms.Text till broke approved report
says_words till broke approved start gone report empty says adds = (gone, subst (λ (s : List ℕ). SaysGone till broke s gone) empty says, adds)

-- what was to be reported was reported
pub reports_gone : (form : Form) (till : ℕ) (broke : Option LineFault) (first count : ℕ) (ledger : List Row) (gone text : List ℕ) (old new : Option (List ℕ)) (before after : ℕ) → IsReport form till broke count gone → count ≡ approvals ledger
    → text ≡ rows_text form till (drop first ledger) ++ gone → Reports text old new before after → ReportsGone form till broke first ledger old new before after
reports_gone form till broke first count ledger gone text old new before after is same adds reports = record {
  gone = gone;
  is_report = subst (λ (n : ℕ). IsReport form till broke n gone) same is;
  reports = subst (λ (t : List ℕ). Reports t old new before after) adds reports;
}
