use Rattle.std.proofs.Common.{◌≡◌, ◌∙◌, ◌++◌, ap, drop, List, ℕ}
use Rattle.zvt_term.specs.declared.ledger.Row.{Row}
use Rattle.zvt_runs.specs.LedgerRows.{rows_text}
use Rattle.zvt_runs.specs.TcpReporting.{approvals}
use Rattle.zvt_runs.proofs.Gone.{reports_gone}
use Rattle.zvt_runs.proofs.tcp.reports.report_till.Goals as goal

pub returns : goal.returns
returns g c =
    let of = rows_text c.args.form c.args.till.now.number in
    let rows : c.after.result.now ≡ drop c.args.till.now.rows_before c.args.terminal.now.ledger = c.after.ensures ∙ ap (drop c.args.till.now.rows_before) c.ledger-ledger.ensures.rows in
    let shown : c.say_rows.new.text ≡ of (drop c.args.till.now.rows_before c.args.terminal.now.ledger) =
    c.in_ok-say_rows.ensures ∙ (ap (λ (l : List ℕ). l ++ of c.after.result.now) c.new-text.ensures ∙ ap of rows) in
    let all = c.in_ok-word.ensures ∙ (ap (λ (l : List ℕ). l ++ c.bytes.result.now) shown ∙ ap (λ (l : List ℕ). of (drop c.args.till.now.rows_before c.args.terminal.now.ledger) ++ l) c.bytes.ensures) in
    reports_gone c.args.form c.args.till.now.number c.args.till.now.broke c.args.till.now.rows_before c.approvals.result c.args.terminal.now.ledger c.in_ok-gone.gone c.word.new.self _ _ _ _
    c.in_ok-gone.ensures (c.approvals.ensures ∙ ap approvals c.ledger-ledger.ensures.rows) all c.report_text.ensures
