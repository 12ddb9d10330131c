use Rattle.std.proofs.Common.{refl, subst}
use Rattle.zvt_kept.specs.Keeping.{kept_asks}
use Rattle.zvt_kept.specs.KeptTill.{KeptValue, Standing, standing_of}
use Rattle.zvt_kept.proofs.Ordered.{asked_kept, asked_so}
use Rattle.zvt_kept.proofs.kept_till.KeptTillAsker.ask.Goals as goal

pub invariant_of-self : goal.invariant_of-self
invariant_of-self g c =
    let V = g.D.Device in
    let k = c.self.inside in
    let old : Standing g.row.D.Denot = standing_of k.till k.journal.device k.journal.gate in
    let new : Standing g.row.D.Denot = standing_of c.take_ask.new.till c.take_ask.new.journal.device c.take_ask.new.journal.gate in
    asked_kept V.seen V.may_leave V.moment V.left_since V.faults k.note old new k.failure c.take_ask.new.failure c.take_ask.result c.take_ask.ensures c.self.invariant

pub returns : goal.returns
returns g c =
    let V = g.D.Device in
    let k = c.self.inside in
    let old : KeptValue g.row.D.Denot = record { standing = standing_of k.till k.journal.device k.journal.gate; failure = k.failure; note = k.note } in
    let new : KeptValue g.row.D.Denot = record { standing = standing_of c.take_ask.new.till c.take_ask.new.journal.device c.take_ask.new.journal.gate; failure = c.take_ask.new.failure; note = k.note } in
    subst (λ (v : KeptValue g.row.D.Denot). kept_asks V.seen V.may_leave V.moment V.left_since V.faults v c.take_ask.result new) c.self.view_is
    (asked_so V.seen V.may_leave V.moment V.left_since V.faults old new c.take_ask.result c.take_ask.ensures refl c.self.invariant)
