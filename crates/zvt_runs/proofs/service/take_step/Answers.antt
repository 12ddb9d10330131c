use Rattle.std.proofs.Common.{◌≡◌, inl, inr, sym, ap, subst, ◌∙◌}
use Rattle.std.proofs.lemmas.Result.{err_from_is_err_and}
use Rattle.zvt_runs.proofs.service.take_step.Goals as goal

pub returns-in_err-pump : goal.returns-in_err-pump
returns-in_err-pump g c =
    let gives = rw c.until_of-until.ensures at c.in_err-pump.ensures.pumps in
    let p = err_from_is_err_and c.from_residual.result c.from_residual.ensures.1 in
    rw (p.1, p.2) (gives.middle, inl gives.falls_short, gives.reported)
