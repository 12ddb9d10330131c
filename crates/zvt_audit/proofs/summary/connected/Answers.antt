use Rattle.std.proofs.Common.{[], refl}
use Rattle.zvt_audit.proofs.EndLemmas.{none_yet}
use Rattle.zvt_audit.proofs.summary.connected.Goals as goal

pub returns : goal.returns
returns c = ((c.in_ok-take.ensures [] c.new-books.ensures, c.none.ensures.0, c.none.ensures.1, c.none-3.ensures, none_yet _ _ c.none-4.ensures.0 c.none-4.ensures.1, c.none-2.ensures.0, c.none-2.ensures.1), refl, refl)
