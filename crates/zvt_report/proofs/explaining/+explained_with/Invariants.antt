use Rattle.std.proofs.Common.{length}
use Rattle.zvt_report.proofs.explaining.+explained_with.Given as goal

abbrev pub decreases-explained_with : goal.decreases-explained_with
decreases-explained_with l = length l.items.now
