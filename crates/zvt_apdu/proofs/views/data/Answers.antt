use Rattle.std.proofs.Common.{arith}
use Rattle.std.proofs.Math.Logic.{∥∥₁_elim}
use Rattle.std.specs.Coded.{le_prop}
use Rattle.zvt_apdu.proofs.ViewLemmas.{data_third, data_long}
use Rattle.zvt_apdu.proofs.views.data.Goals as goal

pub bounds-bytes-2 : goal.bounds-bytes-2
bounds-bytes-2 c = ∥∥₁_elim c.requires le_prop (λ f. data_third _ f)

pub slice_bounds-result-count : goal.slice_bounds-result-count
slice_bounds-result-count c = ∥∥₁_elim c.requires le_prop (λ f. data_long _ f c.if-bytes.true)

pub slice_bounds-result-start : goal.slice_bounds-result-start
slice_bounds-result-start c = slice_bounds-result-count c

pub slice_bounds-result-count-else-bytes : goal.slice_bounds-result-count-else-bytes
slice_bounds-result-count-else-bytes c = ∥∥₁_elim c.requires le_prop (λ f. omega (arith, data_third _ f))

pub slice_bounds-result-start-else-bytes : goal.slice_bounds-result-start-else-bytes
slice_bounds-result-start-else-bytes c = slice_bounds-result-count-else-bytes c
