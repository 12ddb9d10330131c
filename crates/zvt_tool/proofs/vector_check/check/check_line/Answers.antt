use Rattle.zvt_tool.proofs.LineLemmas.{of_vector}
use Rattle.zvt_tool.proofs.vector_check.check.check_line.Goals as goal

pub returns-in-Ok-Vector-clause-checks : goal.returns-in-Ok-Vector-clause-checks
returns-in-Ok-Vector-clause-checks g c =
    let means = rw c.in-Ok-Vector.field-0-is at c.in-Ok-Vector.ensures.ok in
    of_vector c.args.form c.args.number c.args.line.now c.as_slice.result.now c.in-Ok-Vector.claim.now _ _ c.check_vector.result (rw c.as_slice.ensures.value means) c.check_vector.ensures.checks
