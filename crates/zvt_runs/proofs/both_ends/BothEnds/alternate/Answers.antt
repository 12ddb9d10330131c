use Rattle.std.proofs.Common.{inl, refl}
use Rattle.zvt_runs.proofs.both_ends.BothEnds.alternate.Goals as goal

pub returns-in-Err : goal.returns-in-Err
returns-in-Err g c = inl (c.in-Err.ensures, refl, c.lost.ensures)
