use Rattle.zvt_play.proofs.HearLemmas.{goes_on, stays_apart}
use Rattle.zvt_play.proofs.messages.left_after_more.Goals as goal

pub returns-in_err-left : goal.returns-in_err-left
returns-in_err-left c = λ demanded message apart. rw c.from_residual.ensures (stays_apart demanded message c.args.piece.now (rw c.in_err-left.was at apart))

pub returns : goal.returns
returns c = λ demanded message leaves. goes_on demanded message c.in_ok-left.field-0.now c.args.piece.now c.left_after.result (rw c.in_ok-left.was at leaves) c.left_after.ensures
