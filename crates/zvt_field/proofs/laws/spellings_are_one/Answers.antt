use Rattle.zvt_field.proofs.LawProofs as law
use Rattle.zvt_field.proofs.laws.spellings_are_one.Goals as goal

pub returns : goal.returns
returns c = record { ends = law.fields_end_themselves; lists = law.lists_are_one; one = law.one_spelling }
