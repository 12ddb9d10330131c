use Rattle.std.proofs.Common.{arith}
use Rattle.zvt_apdu.proofs.PartLemmas.{head_stands, attribute_shown}
use Rattle.zvt_apdu.proofs.views.ApduView.attribute.Goals as goal

pub bounds-data-0 : goal.bounds-data-0
bounds-data-0 c = omega (arith, head_stands _ c.args.self.now c.data.result.now c.data.ensures c.in-PrintLine.ensures)

pub returns-in-PrintLine : goal.returns-in-PrintLine
returns-in-PrintLine c = attribute_shown c.args.self.now c.data.result.now c.data.ensures c.in-PrintLine.ensures
