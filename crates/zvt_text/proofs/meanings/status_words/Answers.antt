use Rattle.std.proofs.Common.{◌∙◌, ap}
use Rattle.zvt_text.specs.Meanings.{status_words, statuses, words_in}
use Rattle.zvt_text.proofs.meanings.status_words.Goals as goal

pub returns : goal.returns
unfolding status_words
returns c = c.words_in.ensures ∙ ap (words_in statuses) c.from.ensures
