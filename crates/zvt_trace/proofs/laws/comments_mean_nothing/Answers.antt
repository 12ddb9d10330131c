use Rattle.zvt_trace.proofs.CommentLemmas.{comments_mean_nothing}
use Rattle.zvt_trace.proofs.laws.comments_mean_nothing.Goals as goal

pub returns : goal.returns
returns c = comments_mean_nothing
