use Rattle.std.proofs.Common.{arith}
use Rattle.zvt_apdu.proofs.PartLemmas.{head_stands, payload_follows, payload_shown, payload_after}
use Rattle.zvt_apdu.proofs.views.ApduView.payload.Goals as goal

pub slice_bounds-result-count : goal.slice_bounds-result-count
slice_bounds-result-count c =
    omega (arith, head_stands c.kind.result c.args.self.now c.data-in-Intermediate.result.now c.data-in-Intermediate.ensures c.kind.ensures, payload_follows c.kind.result c.in-Intermediate.is)

pub slice_bounds-result-start : goal.slice_bounds-result-start
slice_bounds-result-start c = slice_bounds-result-count c

pub returns-in-Ack : goal.returns-in-Ack
returns-in-Ack c = payload_shown c.kind.result c.args.self.now c.data.result.now c.data.ensures c.kind.ensures c.in-Ack.is

pub returns-in-Intermediate : goal.returns-in-Intermediate
returns-in-Intermediate c = payload_after c.kind.result c.args.self.now c.data-in-Intermediate.result.now c.data-in-Intermediate.ensures c.kind.ensures c.in-Intermediate.is
