use Rattle.zvt_show.proofs.diagnostics.notes.Notes.new.Goals as goal

pub returns-clause-trailing : goal.returns-clause-trailing
returns-clause-trailing c = c.nothing.ensures c.args.scope
