use Rattle.zvt_trace.proofs.FeedLemmas.{nothing_read}
use Rattle.zvt_trace.proofs.chunks.Walker.new.Goals as goal

pub returns-clause-read : goal.returns-clause-read
returns-clause-read c = nothing_read _ c.args.scope _ c.new.ensures.walked c.new.ensures.size c.new-2.ensures.items
