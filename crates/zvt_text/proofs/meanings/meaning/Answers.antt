use Rattle.std.proofs.Common.{◌∙◌, ap}
use Rattle.zvt_text.specs.Meanings.{meaning_of, results, words_in}
use Rattle.zvt_text.proofs.meanings.meaning.Goals as goal

pub returns : goal.returns
unfolding meaning_of
returns c = c.words_in.ensures ∙ ap (words_in results) c.from.ensures
