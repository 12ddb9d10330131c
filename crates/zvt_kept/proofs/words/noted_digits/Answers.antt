use Rattle.zvt_kept.proofs.WordLemmas.{digits_noted}
use Rattle.zvt_kept.proofs.words.noted_digits.Goals as goal

pub returns : goal.returns
returns c = digits_noted c.args.tail.now c.split_at.result.0.now c.split_at.result.1.now c.in_ok-note.note c.size_before.result c.size_before.ensures.size c.split_at.ensures.front c.split_at.ensures.back c.in_ok-note.ensures
