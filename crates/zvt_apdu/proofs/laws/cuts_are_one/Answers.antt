use Rattle.zvt_grammar.proofs.CutLemmas as cuts
use Rattle.zvt_apdu.specs.Grammar.{Spells}
use Rattle.zvt_apdu.proofs.OneMessage.{messages_end_themselves}
use Rattle.zvt_apdu.proofs.laws.cuts_are_one.Goals as goal

pub returns-clause-one : goal.returns-clause-one
returns-clause-one c r = cuts.cuts_are_one (Spells r) (messages_end_themselves r)

pub returns-clause-prefixes : goal.returns-clause-prefixes
returns-clause-prefixes c r = cuts.prefixes_of_cut (Spells r) (messages_end_themselves r)

pub returns-clause-growth : goal.returns-clause-growth
returns-clause-growth c r = cuts.grows (Spells r) (messages_end_themselves r)
