use Rattle.zvt_trace.proofs.walker.BothSides.new.Goals as goal

pub returns-clause-follows : goal.returns-clause-follows
returns-clause-follows c = record { till = c.new.ensures.follows; terminal = c.new-2.ensures.follows }

pub returns-clause-reading : goal.returns-clause-reading
returns-clause-reading c = (c.new.ensures.reading, c.new-2.ensures.reading)
