use Rattle.zvt_audit.proofs.HearLemmas.{turn_heard}
use Rattle.zvt_audit.proofs.follow.Audit.feed.Goals as goal

pub returns-clause-hears : goal.returns-clause-hears
returns-clause-hears c = λ r scope bytes has. turn_heard r scope bytes c.args.chunk.now c.args.self.now c.feed.new.listener c.feed.new.self c.feed.result has c.feed.ensures.reads c.feed.ensures.reading c.feed.ensures.scope
