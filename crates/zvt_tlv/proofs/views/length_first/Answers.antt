use Rattle.std.proofs.Common.{arith}
use Rattle.std.proofs.Math.Logic.{∥∥₁_elim}
use Rattle.std.specs.Coded.{le_prop}
use Rattle.zvt_tlv.proofs.ViewLemmas.{length_some, length_two, length_three}
use Rattle.zvt_tlv.proofs.views.length_first.Goals as goal

pub bounds-bytes-0 : goal.bounds-bytes-0
bounds-bytes-0 c = ∥∥₁_elim c.requires le_prop (λ o. length_some _ o)

pub bounds-bytes-1 : goal.bounds-bytes-1
bounds-bytes-1 c = ∥∥₁_elim c.requires le_prop (λ o. length_two _ o c.in-129.is)

pub bounds-bytes-1-in-130 : goal.bounds-bytes-1-in-130
bounds-bytes-1-in-130 c = ∥∥₁_elim c.requires le_prop (λ o. omega (arith, length_three _ o c.in-130.is))

pub bounds-bytes-2 : goal.bounds-bytes-2
bounds-bytes-2 c = ∥∥₁_elim c.requires le_prop (λ o. length_three _ o c.in-130.is)
