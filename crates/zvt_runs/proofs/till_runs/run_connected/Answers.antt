use Rattle.std.proofs.Common.{List, ap, inl, refl, subst, ◌∙◌}
use Rattle.zvt_till.specs.View.{TillValue}
use Rattle.zvt_till.specs.declared.entries.Entry.{Entry}
use Rattle.zvt_runs.specs.Reporting.{ReportsReversals}
use Rattle.zvt_runs.specs.Faults.{by_book}
use Rattle.zvt_runs.specs.Runs.{noting, standing}
use Rattle.zvt_runs.proofs.Seen.{answers_told, then_reversals}
use Rattle.zvt_runs.proofs.till_runs.run_connected.Goals as goal

pub returns-clause-run : goal.returns-clause-run
returns-clause-run g c =
    let reversals = subst (λ (b : List Entry). ReportsReversals (g.E.Sink.written c.run_steps-answer.new.report) (g.E.Sink.written c.report_reversals.new.report) (g.E.Sink.failures c.run_steps-answer.new.report) (g.E.Sink.failures c.report_reversals.new.report) b)
    (c.book.ensures.rows ∙ ap (λ (t : TillValue). t.state.book) c.look.ensures) c.report_reversals.ensures in
    let told = then_reversals _ _ _ _ _ _ (g.K.Keeper.till c.run_steps-answer.new.till).state.book reversals in
    inl (record {
      before = c.args.line.now;
      after = c.run_steps-answer.new.line;
      connected = c.connect.new.self;
      ended = c.run_steps-answer.result;
      begun = refl;
      up = c.in_default.ensures;
      answers = answers_told g.K.Keeper.till (noting g.N.NoteSource.noted g.L.StepLine.makes) c.args.steps.now.options _ _ told c.args.steps.now.plan.now (standing c.args.line.now c.connect.new.self) (standing c.run_steps-answer.new.line c.run_steps-answer.new.till) _ _ c.run_steps-answer.result c.run_steps-answer.ensures.run;
      is = c.by_book.ensures ∙ ap (λ failed. by_book failed c.run_steps-answer.result) c.has_failed.ensures;
    })
