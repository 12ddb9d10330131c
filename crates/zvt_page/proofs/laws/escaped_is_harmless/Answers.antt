use Rattle.zvt_page.proofs.Letters.{escaped_is_harmless}
use Rattle.zvt_page.proofs.laws.escaped_is_harmless.Goals as goal

pub returns : goal.returns
returns c = escaped_is_harmless
