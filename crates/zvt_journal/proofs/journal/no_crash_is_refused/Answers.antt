use Rattle.zvt_journal.proofs.Known.{none_is_refused}
use Rattle.zvt_journal.proofs.journal.no_crash_is_refused.Goals as goal

pub returns : goal.returns
returns c = none_is_refused
