use Rattle.std.proofs.Common.{refl}
use Rattle.zvt_trace.proofs.WalkedLemmas.{none_read}
use Rattle.zvt_trace.proofs.walker.Progress.new.Goals as goal

pub returns-clause-walked : goal.returns-clause-walked
returns-clause-walked c = none_read c.args.scope _ c.new.ensures.follows c.none.ensures.0 c.none.ensures.1 refl
