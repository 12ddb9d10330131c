use Rattle.zvt_page.proofs.ReadBack.{pages_are_read_back}
use Rattle.zvt_page.proofs.laws.pages_are_read_back.Goals as goal

pub returns : goal.returns
returns c = pages_are_read_back
