use Rattle.std.proofs.lemmas.Result.{err_from_is_err_and}
use Rattle.zvt_tool.proofs.LineLemmas.{read_failed}
use Rattle.zvt_tool.proofs.vector_check.check.vectors.Goals as goal

pub returns-in_err-text-clause-writes : goal.returns-in_err-text-clause-writes
returns-in_err-text-clause-writes g c =
    let p = err_from_is_err_and c.from_residual.result c.from_residual.ensures.1 in
    rw (p.1, p.2) (read_failed c.args.form _ _ c.in_err-text.field-0.0 c.in_err-text.ensures.trace)
