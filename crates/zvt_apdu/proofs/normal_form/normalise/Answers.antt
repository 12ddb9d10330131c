use Rattle.std.proofs.Common.{subst}
use Rattle.zvt_grammar.specs.Reading.{padded}
use Rattle.zvt_apdu.specs.Judging.{Answers}
use Rattle.zvt_apdu.proofs.NormalLemmas.{normal}
use Rattle.zvt_apdu.proofs.normal_form.normalise.Goals as goal

pub returns : goal.returns
returns c =
    normal c.args.bytes.now c.in-Whole.found.0 c.in-Whole.found.1 c.in_ok-strict.strict.items (subst (Answers padded c.args.bytes.now) c.in-Whole.is c.in_ok-found.ensures) c.in_ok-strict.ensures
