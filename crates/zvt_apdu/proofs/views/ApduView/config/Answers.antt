use Rattle.std.proofs.Common.{arith}
use Rattle.zvt_apdu.proofs.PartLemmas.{head_stands, config_shown}
use Rattle.zvt_apdu.proofs.views.ApduView.config.Goals as goal

pub bounds-data-3 : goal.bounds-data-3
bounds-data-3 c = omega (arith, head_stands _ c.args.self.now c.data.result.now c.data.ensures c.in-Registration.ensures)

pub returns-in-Registration : goal.returns-in-Registration
returns-in-Registration c = config_shown c.args.self.now c.data.result.now c.data.ensures c.in-Registration.ensures
