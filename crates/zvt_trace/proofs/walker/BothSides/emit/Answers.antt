use Rattle.zvt_trace.proofs.SidesLemmas.{comments}
use Rattle.zvt_trace.proofs.walker.BothSides.emit.Goals as goal

pub returns-in-Comment-clause-emits : goal.returns-in-Comment-clause-emits
returns-in-Comment-clause-emits g c = λ sides follow. rw c.in-Comment.is (comments g.L.Listener.hears _ _ sides c.args.self.now _ follow)

pub returns-in-Lost-clause-emits : goal.returns-in-Lost-clause-emits
returns-in-Lost-clause-emits g c = λ sides follow. rw c.in-Lost.is (c.lose.ensures.emits sides follow)
