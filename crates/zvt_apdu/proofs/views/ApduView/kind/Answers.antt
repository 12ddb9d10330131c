use Rattle.std.proofs.Common.{◌∙◌}
use Rattle.zvt_apdu.proofs.PartLemmas.{kind_shown}
use Rattle.zvt_apdu.proofs.views.ApduView.kind.Goals as goal

pub returns : goal.returns
returns c = c.kind_at.ensures ∙ kind_shown c.args.self.now c.control.result c.control.ensures.named
