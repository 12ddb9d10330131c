use Rattle.std.proofs.Common.{is_some, sym, ap, ◌∙◌}
use Rattle.zvt_till.specs.View.{TillValue}
use Rattle.zvt_kept.specs.KeptTill.{Standing, message_heard, standing_of}
use Rattle.zvt_kept.proofs.Steps.{kept_on, up_whole}
use Rattle.zvt_kept.proofs.kept_till.KeptTillMachine.hear.Goals as goal

pub invariant_of-self : goal.invariant_of-self
invariant_of-self g c =
    let V = g.D.Device in
    let k = c.self.inside in
    let old : Standing g.row.D.Denot = standing_of k.till k.journal.device k.journal.gate in
    let new : Standing g.row.D.Denot = standing_of c.take_message.new.till c.take_message.new.journal.device c.take_message.new.journal.gate in
    kept_on V.seen V.may_leave V.moment V.left_since V.faults (is_some k.failure) (message_heard V.seen V.may_leave V.moment V.left_since V.faults c.args.apdu.now) old new
    (up_whole V.seen V.may_leave V.moment V.left_since V.faults (is_some k.failure) old (sym (ap (λ (t : TillValue). t.state.line_up) c.till.ensures) ∙ sym c.line_up.ensures ∙ c.if-not-line_up.false) c.self.invariant) c.in-Ok.ensures.logs c.self.invariant
