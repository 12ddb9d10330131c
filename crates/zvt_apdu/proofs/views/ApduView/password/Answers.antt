use Rattle.std.proofs.Common.{arith}
use Rattle.zvt_apdu.proofs.PartLemmas.{head_stands, password_long, password_shown}
use Rattle.zvt_apdu.proofs.views.ApduView.password.Goals as goal

pub bounds-data-0 : goal.bounds-data-0
bounds-data-0 c = omega (arith, head_stands c.kind.result c.args.self.now c.data-data.result.now c.data-data.ensures c.kind.ensures, password_long c.kind.result c.in-Registration.is)

pub bounds-data-1 : goal.bounds-data-1
bounds-data-1 c = omega (arith, head_stands c.kind.result c.args.self.now c.data-data.result.now c.data-data.ensures c.kind.ensures, password_long c.kind.result c.in-Registration.is)

pub bounds-data-2 : goal.bounds-data-2
bounds-data-2 c = omega (arith, head_stands c.kind.result c.args.self.now c.data-data.result.now c.data-data.ensures c.kind.ensures, password_long c.kind.result c.in-Registration.is)

pub returns-in-Registration : goal.returns-in-Registration
returns-in-Registration c = password_shown c.kind.result c.args.self.now c.data-data.result.now c.data-data.ensures c.kind.ensures c.in-Registration.is
