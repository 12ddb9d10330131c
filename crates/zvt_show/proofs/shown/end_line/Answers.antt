use Rattle.std.proofs.Common.{◌++◌, ◌∷◌, [], codes, Option, subst}
use Rattle.zvt_trace.specs.declared.fault.TraceFault.{TraceFault}
use Rattle.zvt_show.specs.Beside.{HasTold, showing_of, watching}
use Rattle.zvt_show.specs.Shown.{HasShown}
use Rattle.zvt_show.proofs.BesideLemmas.{failed_end}
use Rattle.zvt_show.proofs.shown.end_line.Goals as goal

pub returns-in-Some-clause-shows : goal.returns-in-Some-clause-shows
returns-in-Some-clause-shows g c = λ r scope style trace first has.
    failed_end c.args.listeners.now.first.fault c.in-Some.fault r scope style trace (codes "!" ++ 10 ∷ []) first (g.W.Sink.written c.args.listeners.now.first.listener.output) _
    (subst (λ (f : Option TraceFault). HasShown g.W.Sink.written r scope style trace first (showing_of (watching c.args.walker f c.args.listeners.now))) c.in-Some.is has)

pub returns-in-None-clause-shows : goal.returns-in-None-clause-shows
returns-in-None-clause-shows g c = λ r scope style trace first has.
    c.show_end.ensures.shows r scope style trace first (subst (λ (f : Option TraceFault). HasShown g.W.Sink.written r scope style trace first (showing_of (watching c.args.walker f c.args.listeners.now))) c.in-None.is has)

pub returns-in-None-clause-tells : goal.returns-in-None-clause-tells
returns-in-None-clause-tells g c = λ r scope trace start has.
    c.show_end.ensures.tells r scope trace start (subst (λ (f : Option TraceFault). HasTold g.L.Listener.hears r scope trace start (watching c.args.walker f c.args.listeners.now)) c.in-None.is has)
