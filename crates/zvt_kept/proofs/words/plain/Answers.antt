use Rattle.zvt_kept.specs.Records.{ordered}
use Rattle.zvt_kept.proofs.WordLemmas.{plain_noted}
use Rattle.zvt_kept.proofs.words.plain.Goals as goal

pub returns : goal.returns
returns c = plain_noted (ordered c.args.order) c.args.rest.now c.in_ok-note.note c.in_ok-note.ensures
