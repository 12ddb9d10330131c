use Rattle.std.proofs.Common.{inl, inr, refl, sym, ap, ◌∙◌}
use Rattle.zvt_stream.specs.LineRun.{there_at_once}
use Rattle.zvt_stream.proofs.engine.pump.Goals as goal

pub returns-then-is_there-clause-pumps : goal.returns-then-is_there-clause-pumps
returns-then-is_there-clause-pumps g c = inl (record {
  at_once = ap (λ b. there_at_once c.args.until b) (sym c.resting.ensures) ∙ sym c.is_there.ensures ∙ c.if-is_there.true;
  same_end = refl;
  same_machine = refl;
  unfinished = c.held.ensures.unfinished;
})

pub returns-in_default-clause-pumps : goal.returns-in_default-clause-pumps
returns-in_default-clause-pumps g c = inr (
  ap (λ b. there_at_once c.args.until b) (sym c.resting.ensures) ∙ sym c.is_there.ensures ∙ c.if-is_there.false,
  c.in_default.ensures.made,
)

pub returns-clause-pumps : goal.returns-clause-pumps
returns-clause-pumps g c = record {
  middle = c.run_turns.new.machine;
  not_at_once = ap (λ b. there_at_once c.args.until b) (sym c.resting.ensures) ∙ sym c.is_there.ensures ∙ c.if-is_there.false;
  falls_short = c.in-Err.ensures.made;
  reported = c.report.ensures;
}
