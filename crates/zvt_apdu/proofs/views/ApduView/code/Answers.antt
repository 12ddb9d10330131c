use Rattle.std.proofs.Common.{arith}
use Rattle.zvt_apdu.proofs.PartLemmas.{head_stands, code_shown}
use Rattle.zvt_apdu.proofs.views.ApduView.code.Goals as goal

pub bounds-data-0 : goal.bounds-data-0
bounds-data-0 c = omega (arith, head_stands _ c.args.self.now c.data.result.now c.data.ensures c.in-Abort.ensures)

pub returns-in-Abort : goal.returns-in-Abort
returns-in-Abort c = code_shown c.args.self.now c.data.result.now c.data.ensures c.in-Abort.ensures
