use Rattle.std.proofs.Common.{◌++◌, ◌∷◌, [], codes}
use Rattle.std.proofs.lemmas.Result.{err_from_is_err_and}
use Rattle.zvt_show.proofs.BesideLemmas.{failed_now}
use Rattle.zvt_show.proofs.shown.show_end.Goals as goal

pub returns-in_err-show_loss-clause-shows : goal.returns-in_err-show_loss-clause-shows
returns-in_err-show_loss-clause-shows g c = λ r scope style trace first has.
    let p = err_from_is_err_and c.from_residual.result c.from_residual.ensures.1 in
    rw (p.1, p.2) (failed_now c.show_loss.new.listeners.first.fault c.in_err-show_loss.field-0.0 r scope style (trace ++ (codes "!" ++ 10 ∷ [])) first (g.W.Sink.written c.show_loss.new.listeners.first.listener.output) _ (c.in_err-show_loss.ensures.shows r scope style trace first has))
