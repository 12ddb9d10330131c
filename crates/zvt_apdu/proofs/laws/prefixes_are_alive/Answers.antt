use Rattle.zvt_grammar.proofs.CutLemmas as cuts
use Rattle.zvt_apdu.specs.Grammar.{Spells}
use Rattle.zvt_apdu.proofs.laws.prefixes_are_alive.Goals as goal

pub returns : goal.returns
returns c r = cuts.prefixes_alive (Spells r)
