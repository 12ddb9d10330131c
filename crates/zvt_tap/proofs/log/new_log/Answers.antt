use Rattle.std.proofs.Common.{[], subst}
use Rattle.zvt_audit.specs.Line.{hears_line}
use Rattle.zvt_grammar.specs.Lengths.{reading_of}
use Rattle.zvt_show.specs.Beside.{HasTold, showing_of}
use Rattle.zvt_show.specs.Shown.{HasShown}
use Rattle.zvt_show.specs.declared.render.Style.TheVariants.{Show}
use Rattle.zvt_text.specs.TextOptions.{safe_text}
use Rattle.zvt_text.specs.declared.text_options.TextOptions.{TextOptions}
use Rattle.zvt_trace.specs.declared.listener.Scope.{Scope}
use Rattle.zvt_tap.proofs.log.new_log.Goals as goal

pub returns-clause-observed : goal.returns-clause-observed
returns-clause-observed g c = λ first traced. record {
  traced = traced;
  shows = subst (λ (s : Scope). HasShown g.O.Sink.written (reading_of c.args.lengths) s (Show safe_text) [] (g.O.Sink.written c.args.output) (showing_of c.new-2.result)) c.of_side-scope.ensures (subst (λ (o : TextOptions). HasShown g.O.Sink.written (reading_of c.args.lengths) c.of_side-scope.result (Show o) [] (g.O.Sink.written c.args.output) (showing_of c.new-2.result)) c.safe.ensures c.new-2.ensures.shown);
  hears = (c.in_ok-audit.audit, c.in_ok-audit.ensures, subst (λ (s : Scope). HasTold hears_line (reading_of c.args.lengths) s [] c.in_ok-audit.audit c.new-2.result) c.of_side-scope.ensures c.new-2.ensures.told);
}
