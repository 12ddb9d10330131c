use Rattle.zvt_stream.proofs.StandIns.{a_completion, a_status, a_strange_kind, an_abort}
use Rattle.zvt_stream.proofs.unread.stand_in.Goals as goal

pub returns-in-Status : goal.returns-in-Status
returns-in-Status c = λ r. rw c.in-Status.is (a_status r)

pub returns-in-Completion : goal.returns-in-Completion
returns-in-Completion c = λ r. rw c.in-Completion.is (a_completion r)

pub returns-in-Abort : goal.returns-in-Abort
returns-in-Abort c = λ r. rw c.in-Abort.is (an_abort r)

pub returns-in_default : goal.returns-in_default
returns-in_default c = a_strange_kind c.args.kind c.in_default.not-Status c.in_default.not-Completion c.in_default.not-Abort
