use Rattle.std.proofs.Common.{refl, subst}
use Rattle.zvt_kept.specs.Keeping.{kept_orders}
use Rattle.zvt_kept.specs.KeptTill.{KeptValue, Standing, standing_of}
use Rattle.zvt_kept.proofs.Ordered.{answered_so, stays_kept}
use Rattle.zvt_kept.proofs.kept_till.KeptTillKeeper.order.Goals as goal

pub invariant_of-self : goal.invariant_of-self
invariant_of-self g c =
    let V = g.D.Device in
    let k = c.self.inside in
    let old : Standing g.row.D.Denot = standing_of k.till k.journal.device k.journal.gate in
    let new : Standing g.row.D.Denot = standing_of c.take_order.new.till c.take_order.new.journal.device c.take_order.new.journal.gate in
    stays_kept V.seen V.may_leave V.moment V.left_since V.faults c.args.order k.note old new k.failure c.take_order.new.failure c.take_order.result c.take_order.ensures c.self.invariant

pub returns : goal.returns
returns g c =
    let V = g.D.Device in
    let k = c.self.inside in
    let old : KeptValue g.row.D.Denot = record { standing = standing_of k.till k.journal.device k.journal.gate; failure = k.failure; note = k.note } in
    let new : KeptValue g.row.D.Denot = record { standing = standing_of c.take_order.new.till c.take_order.new.journal.device c.take_order.new.journal.gate; failure = c.take_order.new.failure; note = k.note } in
    subst (λ (v : KeptValue g.row.D.Denot). kept_orders V.seen V.may_leave V.moment V.left_since V.faults v c.args.order c.take_order.result new) c.self.view_is
    (answered_so V.seen V.may_leave V.moment V.left_since V.faults c.args.order old new c.take_order.result c.take_order.ensures refl c.self.invariant)
