use Rattle.zvt.proofs.ends.make_with.Goals as goal

pub returns : goal.returns
returns g c = (c.make-answer.new.till, _, _, _, _, _, _, c.make-answer.ensures.run)
