use Rattle.std.proofs.Common.{◌≡◌, take}
use Rattle.zvt_report.specs.NetSum.{all_units}
use Rattle.zvt_report.proofs.net_sum.all_units.Given as goal

abbrev pub invariant-loop-net : goal.invariant-loop-net
invariant-loop-net l = l.sum ≡ all_units (take l.net-index l.nets)
