use Rattle.zvt_journal.proofs.SeenLeft.{seen_may_be_left}
use Rattle.zvt_journal.proofs.file.a_read_may_be_left.Goals as goal

pub returns : goal.returns
returns c = seen_may_be_left
