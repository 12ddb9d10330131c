use Rattle.std.proofs.Common.{ℕ, List, Option, ◌≡◌, ◌+◌, ◌<◌, ◌≤◌, ◌∙◌, arith}
use Rattle.std.proofs.lemmas.Result.{err_from_is_err_and}
use Rattle.std.specs.Io.KnownBytes.{Appends}
use Rattle.std.specs.Str.Lines.{lines}
use Rattle.zvt_trace.specs.Written.{AppendsPrefix}
use Rattle.zvt_show.specs.Printed.{printed}
use Rattle.zvt_show.specs.Text.{rendering_of}
use Rattle.zvt_show.proofs.PageLemmas.{least, not_written, rendered, unread, write_counted, written}
use Rattle.zvt_show.proofs.PrinterLemmas.{on_page, walk_ended, walk_written}
use Rattle.zvt_show.proofs.pages.render_trace.Goals as goal

pub returns-in_err-times-clause-writes : goal.returns-in_err-times-clause-writes
returns-in_err-times-clause-writes g c =
    let p = err_from_is_err_and c.from_residual.result c.from_residual.ensures.1 in
    rw (p.1, p.2) (unread _ _ (rendering_of c.args.style c.args.timed (lines c.args.trace.now)) (lines c.args.trace.now) _)

pub returns-in_err-flush-clause-writes : goal.returns-in_err-flush-clause-writes
returns-in_err-flush-clause-writes g c =
    let p = err_from_is_err_and c.from_residual-in_err-flush.result c.from_residual-in_err-flush.ensures.1 in
    let are = walk_ended g.W.Sink.written g.W.Sink.failures _ c.walk-answer.new.listener _ _ _ _ _ c.walk-answer.result c.pages-2-1.given.1 c.writer-1.given.1 c.walk-answer.ensures in
    rw (p.1, p.2, c.in_err-flush.ensures.fault)
    (not_written _ _ (printed g.W.Sink.written g.W.Sink.failures) (rendering_of c.args.style c.args.timed (lines c.args.trace.now)) (lines c.args.trace.now) c.walk-answer.result _ c.walk-answer.new.listener (g.W.Sink.written c.flush.new.writer)
    (rendered c.args.timed (lines c.args.trace.now) c.args.style _ _ c.new-pages.ensures.style (c.as_slice.ensures.value ∙ c.in_ok-times.ensures)) c.new-pages.ensures.empty (walk_written g.W.Sink.written g.W.Sink.failures _ c.walk-answer.new.listener _ _ _ c.walk-answer.result c.walk-answer.ensures)
    (on_page g.W.Sink.written g.W.Sink.failures _ c.walk-answer.new.listener _ _ (λ (first : Option (List ℕ)) (block : List ℕ) (failed : ℕ). AppendsPrefix first (g.W.Sink.written c.flush.new.writer) block) are c.in_err-flush.ensures.prefix))

pub returns-in_err-flush-clause-write : goal.returns-in_err-flush-clause-write
returns-in_err-flush-clause-write g c = λ is.
    let are = walk_ended g.W.Sink.written g.W.Sink.failures _ c.walk-answer.new.listener _ _ _ _ _ c.walk-answer.result c.pages-2-1.given.1 c.writer-1.given.1 c.walk-answer.ensures in
    let kept : g.W.Sink.failures c.args.writer.now ≤ g.W.Sink.failures c.walk-answer.new.listener.writer.now = least _ _ (printed g.W.Sink.written g.W.Sink.failures) (lines c.args.trace.now) c.walk-answer.result _ c.walk-answer.new.listener c.new-pages.ensures.empty
    (walk_written g.W.Sink.written g.W.Sink.failures _ c.walk-answer.new.listener _ _ _ c.walk-answer.result c.walk-answer.ensures) in
    omega (arith, kept, on_page g.W.Sink.written g.W.Sink.failures _ c.walk-answer.new.listener _ _ (λ (first : Option (List ℕ)) (block : List ℕ) (failed : ℕ). g.W.Sink.failures c.flush.new.writer ≡ failed + 1) are c.in_err-flush.ensures.failures)

pub returns-clause-writes : goal.returns-clause-writes
returns-clause-writes g c =
    let are = walk_ended g.W.Sink.written g.W.Sink.failures _ c.walk-answer.new.listener _ _ _ _ _ c.walk-answer.result c.pages-2-1.given.1 c.writer-1.given.1 c.walk-answer.ensures in
    written _ _ (printed g.W.Sink.written g.W.Sink.failures) (rendering_of c.args.style c.args.timed (lines c.args.trace.now)) (lines c.args.trace.now) c.walk-answer.result _ c.walk-answer.new.listener (g.W.Sink.written c.flush.new.writer)
    (rendered c.args.timed (lines c.args.trace.now) c.args.style _ _ c.new-pages.ensures.style (c.as_slice.ensures.value ∙ c.in_ok-times.ensures)) c.new-pages.ensures.empty (walk_written g.W.Sink.written g.W.Sink.failures _ c.walk-answer.new.listener _ _ _ c.walk-answer.result c.walk-answer.ensures)
    (on_page g.W.Sink.written g.W.Sink.failures _ c.walk-answer.new.listener _ _ (λ (first : Option (List ℕ)) (block : List ℕ) (failed : ℕ). Appends first (g.W.Sink.written c.flush.new.writer) block) are c.in_ok-flush.ensures.bytes)

pub returns-clause-write : goal.returns-clause-write
returns-clause-write g c = λ is.
    let are = walk_ended g.W.Sink.written g.W.Sink.failures _ c.walk-answer.new.listener _ _ _ _ _ c.walk-answer.result c.pages-2-1.given.1 c.writer-1.given.1 c.walk-answer.ensures in
    let counted : g.W.Sink.failures c.args.writer.now < g.W.Sink.failures c.walk-answer.new.listener.writer.now = write_counted _ _ (printed g.W.Sink.written g.W.Sink.failures) (lines c.args.trace.now) c.walk-answer.result _ c.walk-answer.new.listener
    (walk_written g.W.Sink.written g.W.Sink.failures _ c.walk-answer.new.listener _ _ _ c.walk-answer.result c.walk-answer.ensures) is in
    omega (arith, counted, on_page g.W.Sink.written g.W.Sink.failures _ c.walk-answer.new.listener _ _ (λ (first : Option (List ℕ)) (block : List ℕ) (failed : ℕ). g.W.Sink.failures c.flush.new.writer ≡ failed) are c.in_ok-flush.ensures.failures)
