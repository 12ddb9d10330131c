use Rattle.zvt_kept.specs.Records.{asked}
use Rattle.zvt_kept.proofs.WordLemmas.{plain_noted}
use Rattle.zvt_kept.proofs.words.ask.Goals as goal

pub returns : goal.returns
returns c = plain_noted (λ x. asked x) c.args.rest.now c.in_ok-read.field-0 c.in_ok-read.ensures
