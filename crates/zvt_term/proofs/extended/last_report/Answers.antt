use Rattle.std.proofs.Common.{sym, subst}
use Rattle.zvt_term.specs.declared.messages.Report.{Report}
use Rattle.zvt_term.specs.Reports.{IsWritable}
use Rattle.zvt_term.proofs.ExtraLemmas.{all_short, last_row_writable}
use Rattle.zvt_term.proofs.extended.last_report.Goals as goal

pub returns-in_ok-last-in_default-clause-writable : goal.returns-in_ok-last-in_default-clause-writable
returns-in_ok-last-in_default-clause-writable c =
    subst (λ (r : Report). IsWritable r) (sym c.report_of_row.ensures)
    (last_row_writable c.args.rows.now _ (all_short c.args.rows.now c.requires.numbered c.requires.most) c.requires.earlier c.in_ok-last-in_default.ensures.value)
