use Rattle.std.proofs.Common.{arith}
use Rattle.zvt_apdu.proofs.PartLemmas.{head_stands, status_shown}
use Rattle.zvt_apdu.proofs.views.ApduView.status.Goals as goal

pub bounds-data-0 : goal.bounds-data-0
bounds-data-0 c = omega (arith, head_stands _ c.args.self.now c.data.result.now c.data.ensures c.in-Intermediate.ensures)

pub returns-in-Intermediate : goal.returns-in-Intermediate
returns-in-Intermediate c = status_shown c.args.self.now c.data.result.now c.data.ensures c.in-Intermediate.ensures
