use Rattle.std.proofs.Common.{sym, ◌∙◌}
use Rattle.std.proofs.lemmas.Result.{err_from_is_err_and}
use Rattle.zvt_grammar.specs.Lengths.{reading_of}
use Rattle.zvt_report.proofs.WrittenLemmas.{drawn_is, found_written, none_written}
use Rattle.zvt_report.proofs.written.write_report.Goals as goal

pub returns-in_err-drawn-clause-writes : goal.returns-in_err-drawn-clause-writes
returns-in_err-drawn-clause-writes g c =
    let p = err_from_is_err_and c.from_residual-in_err-drawn.result c.from_residual-in_err-drawn.ensures.1 in
    rw (p.1, p.2)
    (none_written (reading_of c.args.lengths) c.args.scope c.args.form c.args.zone c.args.name.now c.args.trace.now c.in_ok-report.report c.as_slice.result.now _ c.in_err-drawn.field-0.0 c.in_err-drawn.ensures)

pub returns-clause-writes : goal.returns-clause-writes
returns-clause-writes g c =
    found_written (reading_of c.args.lengths) c.args.scope c.args.form c.args.zone c.args.name.now c.args.trace.now c.in_ok-report.report c.in_ok-drawn.drawn _ _ c.write_found.result
    (rw (sym c.zone_for.ensures) c.in_ok-report.ensures)
    (drawn_is (reading_of c.args.lengths) c.args.scope c.args.form c.args.trace.now c.in_ok-report.report c.as_slice.result.now c.in_ok-drawn.drawn
    (c.as_slice.ensures.value ∙ c.in_ok-looks.ensures) c.in_ok-drawn.ensures)
    c.write_found.ensures.writes
