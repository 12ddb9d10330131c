use Rattle.std.proofs.Common.{arith}
use Rattle.zvt_apdu.proofs.PartLemmas.{head_stands, text_shown}
use Rattle.zvt_apdu.proofs.views.ApduView.text.Goals as goal

pub slice_bounds-result-count : goal.slice_bounds-result-count
slice_bounds-result-count c = omega (arith, head_stands _ c.args.self.now c.data.result.now c.data.ensures c.in-PrintLine.ensures)

pub slice_bounds-result-start : goal.slice_bounds-result-start
slice_bounds-result-start c = slice_bounds-result-count c

pub returns-in-PrintLine : goal.returns-in-PrintLine
returns-in-PrintLine c = text_shown c.args.self.now c.data.result.now c.data.ensures c.in-PrintLine.ensures
