use Rattle.std.proofs.Common.{◌≡◌, Some, sym}
use Rattle.zvt_text.specs.Words.{number_in}
use Rattle.zvt_runs.proofs.Numbers.{amount_is}
use Rattle.zvt_runs.proofs.arguments.amount.Goals as goal

pub returns : goal.returns
returns c =
    let e : number_in 12 c.args.digits.now ≡ Some c.in_ok-units.units = sym c.in_ok-units.ensures.number in
    rw e (amount_is c.new.result c.in_ok-units.units c.new.ensures.given c.new.ensures.value c.in_ok-units.ensures.small)
