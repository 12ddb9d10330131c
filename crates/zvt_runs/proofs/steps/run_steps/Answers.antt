use Rattle.std.proofs.Common.{◌≡◌, ◌∙◌, ◌||◌, Bool, ℕ, List, ◌++◌, ap, subst, sym}
use Rattle.std.proofs.lemmas.List.{take_all}
use Rattle.std.proofs.lemmas.Result.{err_from_is_err_and}
use Rattle.std.specs.Io.KnownBytes.{Appends}
use Rattle.std.specs.String.{string_bytes}
use Rattle.zvt_io.specs.Devices.{IsPrefix}
use Rattle.zvt_till.specs.View.{TillValue}
use Rattle.zvt_runs.specs.declared.plans.Planned.{Planned}
use Rattle.zvt_runs.specs.Made.{line_of, made_line}
use Rattle.zvt_runs.specs.Notes.{made_note, step_note}
use Rattle.zvt_runs.specs.Reporting.{ReportedSoFar, Reports}
use Rattle.zvt_runs.specs.Runs.{WritesPart, made_of, noting, standing}
use Rattle.zvt_runs.proofs.Noted.{reported}
use Rattle.zvt_runs.proofs.Runs.{SoFar, as_told, broke, broken_total_stops, ended, line_stops, no_check, noted_by, not_short, one_more, runs_out, then, unsuccessful}
use Rattle.zvt_runs.proofs.steps.run_steps.Goals.{else-steps-via-then-steps+else-short, else-steps-via-else-steps}
use Rattle.zvt_runs.proofs.steps.run_steps.Goals as goal

pub returns-in_err-text-clause-run : goal.returns-in_err-text-clause-run
returns-in_err-text-clause-run g c =
    let p = err_from_is_err_and c.from_residual.result c.from_residual.ensures.1 in
    let so = as_told g.K.Keeper.till (noting g.N.NoteSource.noted g.L.StepLine.makes) c.args.steps.now.options (ReportedSoFar c.steps.reports (g.E.Sink.written c.args.report.now) (g.E.Sink.written c.steps.report) (g.E.Sink.failures c.args.report.now) (g.E.Sink.failures c.steps.report)) (λ notes. Reports notes (g.E.Sink.written c.args.report.now) (g.E.Sink.written c.steps.report) (g.E.Sink.failures c.args.report.now) (g.E.Sink.failures c.steps.report)) _ c.steps.short (standing c.args.line.now c.args.till.now) (standing c.steps.line c.steps.till) _ _ (reported c.steps.reports (g.E.Sink.written c.args.report.now) (g.E.Sink.written c.steps.report) (g.E.Sink.failures c.args.report.now) (g.E.Sink.failures c.steps.report)) c.steps.invariant.so_far in
    rw (p.1, p.2, c.in_err-text.ensures.memory) (runs_out g.K.Keeper.till (noting g.N.NoteSource.noted g.L.StepLine.makes) c.args.steps.now.options (λ notes. Reports notes (g.E.Sink.written c.args.report.now) (g.E.Sink.written c.steps.report) (g.E.Sink.failures c.args.report.now) (g.E.Sink.failures c.steps.report)) c.args.steps.now.plan.now c.steps.planned-index c.planned-item.result c.make-made.result c.steps.short (standing c.args.line.now c.args.till.now) (standing c.steps.line c.steps.till) (standing c.make-made.new.self c.make-made.new.till) _ _ c.steps-test.true c.planned-item.is so (noted_by g.N.NoteSource.noted g.L.StepLine.makes c.steps.line c.steps.till c.note_next.new.till c.planned-item.result c.make-made.result c.make-made.new.self c.make-made.new.till c.as_bytes.result.now c.as_bytes.ensures.value c.note_next.ensures c.make-made.ensures))

pub returns-in_err-note-clause-run : goal.returns-in_err-note-clause-run
returns-in_err-note-clause-run g c =
    let p = err_from_is_err_and c.from_residual-in_err-note.result c.from_residual-in_err-note.ensures.1 in
    let so = as_told g.K.Keeper.till (noting g.N.NoteSource.noted g.L.StepLine.makes) c.args.steps.now.options (ReportedSoFar c.steps.reports (g.E.Sink.written c.args.report.now) (g.E.Sink.written c.steps.report) (g.E.Sink.failures c.args.report.now) (g.E.Sink.failures c.steps.report)) (λ notes. Reports notes (g.E.Sink.written c.args.report.now) (g.E.Sink.written c.steps.report) (g.E.Sink.failures c.args.report.now) (g.E.Sink.failures c.steps.report)) _ c.steps.short (standing c.args.line.now c.args.till.now) (standing c.steps.line c.steps.till) _ _ (reported c.steps.reports (g.E.Sink.written c.args.report.now) (g.E.Sink.written c.steps.report) (g.E.Sink.failures c.args.report.now) (g.E.Sink.failures c.steps.report)) c.steps.invariant.so_far in
    rw (p.1, p.2, c.in_err-note.ensures.memory) (runs_out g.K.Keeper.till (noting g.N.NoteSource.noted g.L.StepLine.makes) c.args.steps.now.options (λ notes. Reports notes (g.E.Sink.written c.args.report.now) (g.E.Sink.written c.steps.report) (g.E.Sink.failures c.args.report.now) (g.E.Sink.failures c.steps.report)) c.args.steps.now.plan.now c.steps.planned-index c.planned-item.result c.make-made.result c.steps.short (standing c.args.line.now c.args.till.now) (standing c.steps.line c.steps.till) (standing c.make-made.new.self c.make-made.new.till) _ _ c.steps-test.true c.planned-item.is so (noted_by g.N.NoteSource.noted g.L.StepLine.makes c.steps.line c.steps.till c.note_next.new.till c.planned-item.result c.make-made.result c.make-made.new.self c.make-made.new.till c.as_bytes.result.now c.as_bytes.ensures.value c.note_next.ensures c.make-made.ensures))

pub returns-in_err-write_all-clause-run : goal.returns-in_err-write_all-clause-run
returns-in_err-write_all-clause-run g c =
    let p = err_from_is_err_and c.from_residual-in_err-write_all.result c.from_residual-in_err-write_all.ensures.1 in
    let named : c.in_ok-note.note ≡ made_note (made_of g.K.Keeper.till c.planned-item.result c.make-made.result c.make-made.new.till) = c.in_ok-note.ensures.text ∙ ap (λ (t : TillValue). step_note (string_bytes c.planned-item.result.word) c.planned-item.result.step c.make-made.result t) c.look-in-steps.ensures in
    let lined : c.bytes.result.now ≡ made_line c.args.steps.now.options.form (made_of g.K.Keeper.till c.planned-item.result c.make-made.result c.make-made.new.till) = c.bytes.ensures ∙ c.in_ok-text.ensures.text ∙ ap (λ (t : TillValue). line_of c.args.steps.now.options.form (string_bytes c.planned-item.result.word) c.planned-item.result.step c.make-made.result t.state.last_outcome) c.look.ensures in
    let so = then g.K.Keeper.till (noting g.N.NoteSource.noted g.L.StepLine.makes) c.args.steps.now.options (ReportedSoFar c.steps.reports (g.E.Sink.written c.args.report.now) (g.E.Sink.written c.steps.report) (g.E.Sink.failures c.args.report.now) (g.E.Sink.failures c.steps.report)) (λ notes. Reports notes (g.E.Sink.written c.args.report.now) (g.E.Sink.written c.report_note-reports.new.report) (g.E.Sink.failures c.args.report.now) (g.E.Sink.failures c.report_note-reports.new.report)) _ c.planned-item.result c.make-made.result c.steps.short (standing c.args.line.now c.args.till.now) (standing c.steps.line c.steps.till) (standing c.make-made.new.self c.make-made.new.till) _ _ c.steps.invariant.so_far (noted_by g.N.NoteSource.noted g.L.StepLine.makes c.steps.line c.steps.till c.note_next.new.till c.planned-item.result c.make-made.result c.make-made.new.self c.make-made.new.till c.as_bytes.result.now c.as_bytes.ensures.value c.note_next.ensures c.make-made.ensures) (λ text told. reported c.report_note-reports.result (g.E.Sink.written c.args.report.now) (g.E.Sink.written c.report_note-reports.new.report) (g.E.Sink.failures c.args.report.now) (g.E.Sink.failures c.report_note-reports.new.report) _ (subst (λ (n : List ℕ). ReportedSoFar c.report_note-reports.result (g.E.Sink.written c.args.report.now) (g.E.Sink.written c.report_note-reports.new.report) (g.E.Sink.failures c.args.report.now) (g.E.Sink.failures c.report_note-reports.new.report) (text ++ n)) named (c.report_note-reports.ensures (g.E.Sink.written c.args.report.now) (g.E.Sink.failures c.args.report.now) text told))) in
    let partly = subst (λ (t : List ℕ). WritesPart IsPrefix t (g.W.Sink.written c.steps.writer) (g.W.Sink.written c.write_all.new.self)) lined c.in_err-write_all.ensures.bytes in
    rw (p.1, p.2) (line_stops g.K.Keeper.till (noting g.N.NoteSource.noted g.L.StepLine.makes) c.args.steps.now.options (λ notes. Reports notes (g.E.Sink.written c.args.report.now) (g.E.Sink.written c.report_note-reports.new.report) (g.E.Sink.failures c.args.report.now) (g.E.Sink.failures c.report_note-reports.new.report)) c.args.steps.now.plan.now c.steps.planned-index c.planned-item.result c.make-made.result c.steps.short (standing c.args.line.now c.args.till.now) (standing c.make-made.new.self c.make-made.new.till) _ _ _ c.steps-test.true c.planned-item.is so partly)

pub returns-in_err-write_total-clause-run : goal.returns-in_err-write_total-clause-run
returns-in_err-write_total-clause-run g c =
    let p = err_from_is_err_and c.from_residual-in_err-write_total.result c.from_residual-in_err-write_total.ensures.1 in
    let named : c.in_ok-note.note ≡ made_note (made_of g.K.Keeper.till c.planned-item.result c.make-made.result c.make-made.new.till) = c.in_ok-note.ensures.text ∙ ap (λ (t : TillValue). step_note (string_bytes c.planned-item.result.word) c.planned-item.result.step c.make-made.result t) c.look-in-steps.ensures in
    let lined : c.bytes.result.now ≡ made_line c.args.steps.now.options.form (made_of g.K.Keeper.till c.planned-item.result c.make-made.result c.make-made.new.till) = c.bytes.ensures ∙ c.in_ok-text.ensures.text ∙ ap (λ (t : TillValue). line_of c.args.steps.now.options.form (string_bytes c.planned-item.result.word) c.planned-item.result.step c.make-made.result t.state.last_outcome) c.look.ensures in
    let so = then g.K.Keeper.till (noting g.N.NoteSource.noted g.L.StepLine.makes) c.args.steps.now.options (ReportedSoFar c.steps.reports (g.E.Sink.written c.args.report.now) (g.E.Sink.written c.steps.report) (g.E.Sink.failures c.args.report.now) (g.E.Sink.failures c.steps.report)) (λ notes. Reports notes (g.E.Sink.written c.args.report.now) (g.E.Sink.written c.report_note-reports.new.report) (g.E.Sink.failures c.args.report.now) (g.E.Sink.failures c.report_note-reports.new.report)) _ c.planned-item.result c.make-made.result c.steps.short (standing c.args.line.now c.args.till.now) (standing c.steps.line c.steps.till) (standing c.make-made.new.self c.make-made.new.till) _ _ c.steps.invariant.so_far (noted_by g.N.NoteSource.noted g.L.StepLine.makes c.steps.line c.steps.till c.note_next.new.till c.planned-item.result c.make-made.result c.make-made.new.self c.make-made.new.till c.as_bytes.result.now c.as_bytes.ensures.value c.note_next.ensures c.make-made.ensures) (λ text told. reported c.report_note-reports.result (g.E.Sink.written c.args.report.now) (g.E.Sink.written c.report_note-reports.new.report) (g.E.Sink.failures c.args.report.now) (g.E.Sink.failures c.report_note-reports.new.report) _ (subst (λ (n : List ℕ). ReportedSoFar c.report_note-reports.result (g.E.Sink.written c.args.report.now) (g.E.Sink.written c.report_note-reports.new.report) (g.E.Sink.failures c.args.report.now) (g.E.Sink.failures c.report_note-reports.new.report) (text ++ n)) named (c.report_note-reports.ensures (g.E.Sink.written c.args.report.now) (g.E.Sink.failures c.args.report.now) text told))) in
    rw (p.1, p.2) (broken_total_stops g.K.Keeper.till (noting g.N.NoteSource.noted g.L.StepLine.makes) c.args.steps.now.options (λ notes. Reports notes (g.E.Sink.written c.args.report.now) (g.E.Sink.written c.report_note-reports.new.report) (g.E.Sink.failures c.args.report.now) (g.E.Sink.failures c.report_note-reports.new.report)) c.args.steps.now.plan.now c.steps.planned-index c.planned-item.result c.make-made.result c.in-Some.fault c.steps.short (standing c.args.line.now c.args.till.now) (standing c.make-made.new.self c.make-made.new.till) _ _ _ _ c.in_err-write_total.field-0.0 c.steps-test.true c.planned-item.is (sym c.stop_of.ensures ∙ c.in-Some.is) so
    (subst (λ (t : List ℕ). Appends (g.W.Sink.written c.steps.writer) (g.W.Sink.written c.write_all.new.self) t) lined c.in_ok-write_all.ensures.bytes) c.in_err-write_total.ensures.text)

pub returns-in-Some-clause-run : goal.returns-in-Some-clause-run
returns-in-Some-clause-run g c =
    let named : c.in_ok-note.note ≡ made_note (made_of g.K.Keeper.till c.planned-item.result c.make-made.result c.make-made.new.till) = c.in_ok-note.ensures.text ∙ ap (λ (t : TillValue). step_note (string_bytes c.planned-item.result.word) c.planned-item.result.step c.make-made.result t) c.look-in-steps.ensures in
    let lined : c.bytes.result.now ≡ made_line c.args.steps.now.options.form (made_of g.K.Keeper.till c.planned-item.result c.make-made.result c.make-made.new.till) = c.bytes.ensures ∙ c.in_ok-text.ensures.text ∙ ap (λ (t : TillValue). line_of c.args.steps.now.options.form (string_bytes c.planned-item.result.word) c.planned-item.result.step c.make-made.result t.state.last_outcome) c.look.ensures in
    let so = then g.K.Keeper.till (noting g.N.NoteSource.noted g.L.StepLine.makes) c.args.steps.now.options (ReportedSoFar c.steps.reports (g.E.Sink.written c.args.report.now) (g.E.Sink.written c.steps.report) (g.E.Sink.failures c.args.report.now) (g.E.Sink.failures c.steps.report)) (λ notes. Reports notes (g.E.Sink.written c.args.report.now) (g.E.Sink.written c.report_note-reports.new.report) (g.E.Sink.failures c.args.report.now) (g.E.Sink.failures c.report_note-reports.new.report)) _ c.planned-item.result c.make-made.result c.steps.short (standing c.args.line.now c.args.till.now) (standing c.steps.line c.steps.till) (standing c.make-made.new.self c.make-made.new.till) _ _ c.steps.invariant.so_far (noted_by g.N.NoteSource.noted g.L.StepLine.makes c.steps.line c.steps.till c.note_next.new.till c.planned-item.result c.make-made.result c.make-made.new.self c.make-made.new.till c.as_bytes.result.now c.as_bytes.ensures.value c.note_next.ensures c.make-made.ensures) (λ text told. reported c.report_note-reports.result (g.E.Sink.written c.args.report.now) (g.E.Sink.written c.report_note-reports.new.report) (g.E.Sink.failures c.args.report.now) (g.E.Sink.failures c.report_note-reports.new.report) _ (subst (λ (n : List ℕ). ReportedSoFar c.report_note-reports.result (g.E.Sink.written c.args.report.now) (g.E.Sink.written c.report_note-reports.new.report) (g.E.Sink.failures c.args.report.now) (g.E.Sink.failures c.report_note-reports.new.report) (text ++ n)) named (c.report_note-reports.ensures (g.E.Sink.written c.args.report.now) (g.E.Sink.failures c.args.report.now) text told))) in
    broke g.K.Keeper.till (noting g.N.NoteSource.noted g.L.StepLine.makes) c.args.steps.now.options (λ notes. Reports notes (g.E.Sink.written c.args.report.now) (g.E.Sink.written c.report_note-reports.new.report) (g.E.Sink.failures c.args.report.now) (g.E.Sink.failures c.report_note-reports.new.report)) c.args.steps.now.plan.now c.steps.planned-index c.planned-item.result c.make-made.result c.in-Some.fault c.steps.short (standing c.args.line.now c.args.till.now) (standing c.make-made.new.self c.make-made.new.till) _ _ _ _ c.steps-test.true c.planned-item.is (sym c.stop_of.ensures ∙ c.in-Some.is) so
    (subst (λ (t : List ℕ). Appends (g.W.Sink.written c.steps.writer) (g.W.Sink.written c.write_all.new.self) t) lined c.in_ok-write_all.ensures.bytes) c.in_ok-write_total.ensures.text

pub steps-preserved : goal.steps-preserved
steps-preserved g c =
    let named : c.in_ok-note.note ≡ made_note (made_of g.K.Keeper.till c.planned-item.result c.make-made.result c.make-made.new.till) = c.in_ok-note.ensures.text ∙ ap (λ (t : TillValue). step_note (string_bytes c.planned-item.result.word) c.planned-item.result.step c.make-made.result t) c.look-in-steps.ensures in
    let lined : c.bytes.result.now ≡ made_line c.args.steps.now.options.form (made_of g.K.Keeper.till c.planned-item.result c.make-made.result c.make-made.new.till) = c.bytes.ensures ∙ c.in_ok-text.ensures.text ∙ ap (λ (t : TillValue). line_of c.args.steps.now.options.form (string_bytes c.planned-item.result.word) c.planned-item.result.step c.make-made.result t.state.last_outcome) c.look.ensures in
    let so = then g.K.Keeper.till (noting g.N.NoteSource.noted g.L.StepLine.makes) c.args.steps.now.options (ReportedSoFar c.steps.reports (g.E.Sink.written c.args.report.now) (g.E.Sink.written c.steps.report) (g.E.Sink.failures c.args.report.now) (g.E.Sink.failures c.steps.report)) (ReportedSoFar c.report_note-reports.result (g.E.Sink.written c.args.report.now) (g.E.Sink.written c.report_note-reports.new.report) (g.E.Sink.failures c.args.report.now) (g.E.Sink.failures c.report_note-reports.new.report)) _ c.planned-item.result c.make-made.result c.steps.short (standing c.args.line.now c.args.till.now) (standing c.steps.line c.steps.till) (standing c.make-made.new.self c.make-made.new.till) _ _ c.steps.invariant.so_far (noted_by g.N.NoteSource.noted g.L.StepLine.makes c.steps.line c.steps.till c.note_next.new.till c.planned-item.result c.make-made.result c.make-made.new.self c.make-made.new.till c.as_bytes.result.now c.as_bytes.ensures.value c.note_next.ensures c.make-made.ensures) (λ text told. subst (λ (n : List ℕ). ReportedSoFar c.report_note-reports.result (g.E.Sink.written c.args.report.now) (g.E.Sink.written c.report_note-reports.new.report) (g.E.Sink.failures c.args.report.now) (g.E.Sink.failures c.report_note-reports.new.report) (text ++ n)) named (c.report_note-reports.ensures (g.E.Sink.written c.args.report.now) (g.E.Sink.failures c.args.report.now) text told)) in
    record {
      so_far = one_more g.K.Keeper.till (noting g.N.NoteSource.noted g.L.StepLine.makes) c.args.steps.now.options (ReportedSoFar c.report_note-reports.result (g.E.Sink.written c.args.report.now) (g.E.Sink.written c.report_note-reports.new.report) (g.E.Sink.failures c.args.report.now) (g.E.Sink.failures c.report_note-reports.new.report)) c.args.steps.now.plan.now c.steps.planned-index c.planned-item.result c.make-made.result c.steps.short _ (standing c.args.line.now c.args.till.now) (standing c.make-made.new.self c.make-made.new.till) _ _ _ c.steps-test.true c.planned-item.is (sym c.stop_of.ensures ∙ c.in_default.is, c.in_ok-text.ensures.sent)
          (ap (λ (b : Bool). c.steps.short || b) c.fell_short-short.ensures) so (subst (λ (t : List ℕ). Appends (g.W.Sink.written c.steps.writer) (g.W.Sink.written c.write_all.new.self) t) lined c.in_ok-write_all.ensures.bytes);
      failures = c.in_ok-write_all.ensures.failures ∙ c.steps.invariant.failures;
    }

pub returns-then-short-clause-run : goal.returns-then-short-clause-run
returns-then-short-clause-run g c =
    let so = as_told g.K.Keeper.till (noting g.N.NoteSource.noted g.L.StepLine.makes) c.args.steps.now.options (ReportedSoFar c.steps.reports (g.E.Sink.written c.args.report.now) (g.E.Sink.written c.steps.report) (g.E.Sink.failures c.args.report.now) (g.E.Sink.failures c.steps.report)) (λ notes. Reports notes (g.E.Sink.written c.args.report.now) (g.E.Sink.written c.steps.report) (g.E.Sink.failures c.args.report.now) (g.E.Sink.failures c.steps.report)) _ c.steps.short (standing c.args.line.now c.args.till.now) (standing c.steps.line c.steps.till) _ _ (reported c.steps.reports (g.E.Sink.written c.args.report.now) (g.E.Sink.written c.steps.report) (g.E.Sink.failures c.args.report.now) (g.E.Sink.failures c.steps.report)) c.steps.invariant.so_far in
    let all = subst (λ (done : List Planned). SoFar g.K.Keeper.till (noting g.N.NoteSource.noted g.L.StepLine.makes) c.args.steps.now.options (λ notes. Reports notes (g.E.Sink.written c.args.report.now) (g.E.Sink.written c.steps.report) (g.E.Sink.failures c.args.report.now) (g.E.Sink.failures c.steps.report)) done c.steps.short (standing c.args.line.now c.args.till.now) (standing c.steps.line c.steps.till) (g.W.Sink.written c.args.writer.now) (g.W.Sink.written c.steps.writer)) (take_all c.steps.planned-index c.args.steps.now.plan.now c.steps-test.false) so in
    unsuccessful g.K.Keeper.till (noting g.N.NoteSource.noted g.L.StepLine.makes) c.args.steps.now.options (λ notes. Reports notes (g.E.Sink.written c.args.report.now) (g.E.Sink.written c.steps.report) (g.E.Sink.failures c.args.report.now) (g.E.Sink.failures c.steps.report)) c.args.steps.now.plan.now c.steps.short (standing c.args.line.now c.args.till.now) (standing c.steps.line c.steps.till) _ _ _ all c.in_ok-write_total-2.ensures.text c.if-steps.true c.if-short.true

pub returns-clause-run : goal.returns-clause-run
returns-clause-run g c =
    let so = as_told g.K.Keeper.till (noting g.N.NoteSource.noted g.L.StepLine.makes) c.args.steps.now.options (ReportedSoFar c.steps.reports (g.E.Sink.written c.args.report.now) (g.E.Sink.written c.steps.report) (g.E.Sink.failures c.args.report.now) (g.E.Sink.failures c.steps.report)) (λ notes. Reports notes (g.E.Sink.written c.args.report.now) (g.E.Sink.written c.steps.report) (g.E.Sink.failures c.args.report.now) (g.E.Sink.failures c.steps.report)) _ c.steps.short (standing c.args.line.now c.args.till.now) (standing c.steps.line c.steps.till) _ _ (reported c.steps.reports (g.E.Sink.written c.args.report.now) (g.E.Sink.written c.steps.report) (g.E.Sink.failures c.args.report.now) (g.E.Sink.failures c.steps.report)) c.steps.invariant.so_far in
    let all = subst (λ (done : List Planned). SoFar g.K.Keeper.till (noting g.N.NoteSource.noted g.L.StepLine.makes) c.args.steps.now.options (λ notes. Reports notes (g.E.Sink.written c.args.report.now) (g.E.Sink.written c.steps.report) (g.E.Sink.failures c.args.report.now) (g.E.Sink.failures c.steps.report)) done c.steps.short (standing c.args.line.now c.args.till.now) (standing c.steps.line c.steps.till) (g.W.Sink.written c.args.writer.now) (g.W.Sink.written c.steps.writer)) (take_all c.steps.planned-index c.args.steps.now.plan.now c.steps-test.false) so in
    ended g.K.Keeper.till (noting g.N.NoteSource.noted g.L.StepLine.makes) c.args.steps.now.options (λ notes. Reports notes (g.E.Sink.written c.args.report.now) (g.E.Sink.written c.steps.report) (g.E.Sink.failures c.args.report.now) (g.E.Sink.failures c.steps.report)) c.args.steps.now.plan.now c.steps.short (standing c.args.line.now c.args.till.now) (standing c.steps.line c.steps.till) _ _ _ all c.in_ok-write_total-2.ensures.text
    elim c.else-steps.branch [
      | else-steps-via-then-steps+else-short w ↦ not_short c.args.steps.now.options.check c.steps.short w.if-short.false
      | else-steps-via-else-steps w ↦ no_check c.args.steps.now.options.check c.steps.short w.if-steps.false
    ]
