use Rattle.std.proofs.Common.{◌∙◌, sym, ap}
use Rattle.zvt_till.specs.View.{TillValue}
use Rattle.zvt_service.proofs.Living.{connected_on}
use Rattle.zvt_service.proofs.service.Service.connect.Goals as goal

pub invariant_of-self : goal.invariant_of-self
invariant_of-self g c = λ whole.
    let V = g.D.Device in
    let down = ap (λ (t : TillValue). t.state.line_up) (sym c.till.ensures.till) ∙ sym c.line_up.ensures ∙ c.if-line_up.false in
    connected_on V.seen V.may_leave V.moment V.left_since V.faults c.self.inside.kept c.connect.new.self c.connect.result c.self.inside.orders down whole c.connect.ensures c.self.invariant
