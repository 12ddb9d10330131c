use Rattle.std.proofs.Common.{◌+◌, ◌-◌, ◌≤◌, arith, drop, length-take}
use Rattle.zvt_play.proofs.UnheardLemmas.{dropped}
use Rattle.zvt_play.proofs.unheard.Unheard.drop_first.Goals as goal

pub returns : goal.returns
returns c =
    let u = c.args.self.now in
    let within : u.from + c.args.count ≤ u.to = omega (arith, c.requires, u.ordered, length-take (u.to - u.from) (drop u.from u.chunk)) in
    dropped u.chunk u.from u.to c.args.count within
