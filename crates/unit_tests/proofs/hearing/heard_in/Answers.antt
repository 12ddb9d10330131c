use Rattle.std.proofs.Common.{subst}
use Rattle.zvt_grammar.specs.Reading.{shortest}
use Rattle.zvt_apdu.specs.Judging.{Answers}
use Rattle.zvt_apdu.proofs.ViewLemmas.{spelled_bytes}
use Rattle.unit_tests.proofs.hearing.heard_in.Goals as goal

pub view-requires : goal.view-requires
view-requires g c = spelled_bytes _ _ (subst (Answers shortest c.args.bytes.now) c.in-Whole.is c.in_ok-apdu.ensures).spelled
