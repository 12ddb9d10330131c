use Rattle.zvt_runs.proofs.Outlived.{book_runs_outlive}
use Rattle.zvt_runs.proofs.tcp.laws.book_runs_outlive.Goals as goal

pub returns : goal.returns
returns g c = let V = g.D.Device in book_runs_outlive V.seen V.may_leave V.moment V.left_since V.faults c.calls_outlive.ensures
