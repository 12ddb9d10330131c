use Rattle.zvt_show.proofs.diagnostics.note.put_cut_off.Goals as goal

pub returns : goal.returns
returns c = rw c.of.ensures at c.put_have.ensures
