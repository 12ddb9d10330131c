use Rattle.std.proofs.Common.{◌++◌, ◌∷◌, [], codes}
use Rattle.zvt_show.specs.declared.render.Style.TheVariants.{Show}
use Rattle.zvt_text.specs.TextOptions.{safe_text}
use Rattle.zvt_tap.proofs.log.end_log.Goals as goal

pub returns-clause-found : goal.returns-clause-found
returns-clause-found g c = λ r reads_on trace first held has. record {
  traced = c.end.ensures.traced trace first has.traced;
  middle = g.O.Sink.written c.end-shown.result.output;
  shows = c.end-shown.ensures.shown r _ (Show safe_text) trace held has.shows;
  audits = c.write_books-audited.ensures r reads_on (trace ++ (codes "!" ++ 10 ∷ [])) (has.hears.0, has.hears.1, c.end-shown.ensures.told r _ trace has.hears.0 has.hears.2);
}
