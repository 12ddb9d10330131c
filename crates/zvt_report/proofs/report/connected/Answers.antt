use Rattle.std.proofs.Common.{[], refl}
use Rattle.zvt_report.proofs.report.connected.Goals as goal

pub returns : goal.returns
returns c = ((c.in_ok-take.ensures [] c.new-day.ensures, c.none.ensures, c.new.ensures.items, c.new-2.ensures.statements, c.new-2.ensures.current, refl), c.new-3.ensures, refl, refl)
