use Rattle.std.proofs.Common.{[], subst}
use Rattle.zvt_field.specs.Single.{Saw}
use Rattle.zvt_field.proofs.ViewLemmas.{once_named, plain_named}
use Rattle.zvt_field.proofs.single.Slot.content.Goals as goal

pub returns-in-Once-clause-spelled : goal.returns-in-Once-clause-spelled
returns-in-Once-clause-spelled c =
    plain_named _ c.args.bmp c.plain.result
    (once_named c.args.bmp c.requires.0 c.in-Once.field (subst (λ s. Saw c.args.bmp c.requires.0 s []) c.in-Once.is c.requires.1)) c.plain.ensures.spelled
