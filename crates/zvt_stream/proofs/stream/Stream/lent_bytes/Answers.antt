use Rattle.zvt_stream.proofs.LentLemmas.{some_read}
use Rattle.zvt_stream.proofs.stream.Stream.lent_bytes.Goals as goal

pub returns-then-self-clause-some : goal.returns-then-self-clause-some
returns-then-self-clause-some c = rw (← c.self.view_is, c.frame.ensures) (some_read c.self.inside.passes c.self.inside.refused c.self.inside.has_message c.self.inside.judge c.self.inside.held.bytes c.self.inside.spelled c.self.invariant.2)

pub returns-else-self-clause-some : goal.returns-else-self-clause-some
returns-else-self-clause-some c = rw (← c.self.view_is, c.spelled.ensures) (some_read c.self.inside.passes c.self.inside.refused c.self.inside.has_message c.self.inside.judge c.self.inside.held.bytes c.self.inside.spelled c.self.invariant.2)
