use Rattle.std.proofs.Common.{arith}
use Rattle.std.proofs.Math.Logic.{∥∥₁_elim}
use Rattle.std.specs.Coded.{le_prop}
use Rattle.zvt_tlv.proofs.ViewLemmas.{tag_some, tag_more}
use Rattle.zvt_tlv.proofs.views.tag_size.Goals as goal

pub bounds-bytes-0 : goal.bounds-bytes-0
bounds-bytes-0 c = ∥∥₁_elim c.requires le_prop (λ o. tag_some _ o.0 o.1 o.2 o.3)

pub bounds-bytes-1 : goal.bounds-bytes-1
bounds-bytes-1 c = ∥∥₁_elim c.requires le_prop (λ o. tag_more _ o.0 o.1 o.2 o.3 (omega (arith, c.if-bytes-ne31.false)))
