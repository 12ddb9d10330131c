use Rattle.std.proofs.Common.{refl}
use Rattle.std.proofs.lemmas.Result.{err_from_is_err_and}
use Rattle.zvt_grammar.specs.Lengths.{reading_of}
use Rattle.zvt_report.proofs.WrittenLemmas.{drawn_both, no_dialogue, no_slips}
use Rattle.zvt_report.proofs.written.drawn_in.Goals as goal

pub returns-in_err-text : goal.returns-in_err-text
returns-in_err-text c =
    let p = err_from_is_err_and c.from_residual.result c.from_residual.ensures.1 in
    rw (p.1, p.2) (no_slips (reading_of c.args.lengths) c.args.scope c.args.form c.args.trace.now c.args.report.now c.args.looks.now c.in_err-text.field-0.0 c.in_err-text.ensures)

pub returns-in_err-dialogue : goal.returns-in_err-dialogue
returns-in_err-dialogue c =
    let p = err_from_is_err_and c.from_residual-in_err-dialogue.result c.from_residual-in_err-dialogue.ensures.1 in
    rw (p.1, p.2) (no_dialogue (reading_of c.args.lengths) c.args.scope c.args.form c.args.trace.now c.args.report.now c.args.looks.now c.in_err-dialogue.field-0.0 c.in_err-dialogue.ensures)

pub returns : goal.returns
returns c =
    drawn_both (reading_of c.args.lengths) c.args.scope c.args.form c.args.trace.now c.args.report.now c.args.looks.now c.in_ok-text.text c.bytes.result.now c.in_ok-dialogue.dialogue _
    c.in_ok-text.ensures c.in_ok-dialogue.ensures c.bytes.ensures c.in_ok-word.ensures refl
