use Rattle.std.proofs.Common.{◌∙◌, sym}
use Rattle.zvt_till.proofs.Absences.{no_currency}
use Rattle.zvt_till.proofs.hearing.currency_shown.Goals as goal

pub returns-then-count-eq0 : goal.returns-then-count-eq0
returns-then-count-eq0 c = no_currency c.args.fields.now (sym c.count.ensures ∙ c.if-count-eq0.true)
