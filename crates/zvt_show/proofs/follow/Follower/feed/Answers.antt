use Rattle.std.proofs.Common.{◌≡◌, ◌<◌, ◌≤◌, ◌+◌, ◌∙◌, ◌++◌, ℕ, List, Option, ap, arith}
use Rattle.std.proofs.lemmas.Result.{err_from_is_err_and}
use Rattle.std.specs.Io.KnownBytes.{Appends}
use Rattle.zvt_trace.specs.Written.{AppendsPrefix}
use Rattle.zvt_show.specs.Text.{untimed}
use Rattle.zvt_show.specs.Printed.{FailsPrinting, Prints, printed}
use Rattle.zvt_show.specs.declared.pages.Pages.{Pages}
use Rattle.zvt_show.proofs.PrinterLemmas.{feed_ended, feed_written, on_page}
use Rattle.zvt_show.proofs.TurnLemmas.{turn_counted, turn_fed, turn_lost, turn_said, turn_written}
use Rattle.zvt_show.proofs.follow.Follower.feed.Goals as goal

pub returns-in_err-flush-clause-writes : goal.returns-in_err-flush-clause-writes
returns-in_err-flush-clause-writes g c = λ r scope style bytes first has.
    let p = err_from_is_err_and c.from_residual.result c.from_residual.ensures.1 in
    let fed = turn_fed r scope (Prints g.W.Sink.written g.W.Sink.failures) (FailsPrinting g.W.Sink.written g.W.Sink.failures) style bytes (bytes ++ c.args.chunk.now) first _ c.args.self.now c.feed-answer.new.self c.feed-answer.result _ c.feed-answer.new.listener has (c.feed-answer.ensures.reads bytes has.events) in
    let are = feed_ended g.W.Sink.written g.W.Sink.failures _ c.feed-answer.new.listener _ _ r scope _ _ _ c.feed-answer.result c.pages-2-1.given.1 c.writer-1.given.1 fed in
    let said = feed_written g.W.Sink.written g.W.Sink.failures _ c.feed-answer.new.listener r scope _ _ _ c.feed-answer.result fed in
    rw (p.1, p.2, c.in_err-flush.ensures.fault)
    (turn_lost r scope (printed g.W.Sink.written g.W.Sink.failures) style (bytes ++ c.args.chunk.now) has.events first _ c.feed-answer.new.self c.feed-answer.result _ c.feed-answer.new.listener (ap untimed (ap (λ (p : Pages). p.style) c.take-pages.ensures ∙ has.in_style))
    (turn_said r scope style bytes first _ c.args.self.now has (ap (λ (p : Pages). p.block) c.take-pages.ensures ∙ c.requires.following.empty)) said
    (on_page g.W.Sink.written g.W.Sink.failures _ c.feed-answer.new.listener _ _ (λ (held : Option (List ℕ)) (block : List ℕ) (failed : ℕ). AppendsPrefix held (g.W.Sink.written c.flush.new.writer) block) are c.in_err-flush.ensures.prefix))

pub returns-in_err-flush-clause-counts : goal.returns-in_err-flush-clause-counts
returns-in_err-flush-clause-counts g c = λ r scope style bytes first has.
    let fed = turn_fed r scope (Prints g.W.Sink.written g.W.Sink.failures) (FailsPrinting g.W.Sink.written g.W.Sink.failures) style bytes (bytes ++ c.args.chunk.now) first _ c.args.self.now c.feed-answer.new.self c.feed-answer.result _ c.feed-answer.new.listener has (c.feed-answer.ensures.reads bytes has.events) in
    let are = feed_ended g.W.Sink.written g.W.Sink.failures _ c.feed-answer.new.listener _ _ r scope _ _ _ c.feed-answer.result c.pages-2-1.given.1 c.writer-1.given.1 fed in
    let said = feed_written g.W.Sink.written g.W.Sink.failures _ c.feed-answer.new.listener r scope _ _ _ c.feed-answer.result fed in
    let counted = turn_counted r scope (printed g.W.Sink.written g.W.Sink.failures) (bytes ++ c.args.chunk.now) has.events c.feed-answer.new.self c.feed-answer.result _ c.feed-answer.new.listener said in
    let least : g.W.Sink.failures c.args.writer.now ≤ g.W.Sink.failures c.feed-answer.new.listener.writer.now = counted.0 in
    let last = (on_page g.W.Sink.written g.W.Sink.failures _ c.feed-answer.new.listener _ _ (λ (held : Option (List ℕ)) (block : List ℕ) (failed : ℕ). g.W.Sink.failures c.flush.new.writer ≡ failed + 1) are c.in_err-flush.ensures.failures) in
    (omega (arith, least, last), λ is. omega (arith, least, last))

pub returns-clause-writes : goal.returns-clause-writes
returns-clause-writes g c = λ r scope style bytes first has.
    let fed = turn_fed r scope (Prints g.W.Sink.written g.W.Sink.failures) (FailsPrinting g.W.Sink.written g.W.Sink.failures) style bytes (bytes ++ c.args.chunk.now) first _ c.args.self.now c.feed-answer.new.self c.feed-answer.result _ c.feed-answer.new.listener has (c.feed-answer.ensures.reads bytes has.events) in
    let are = feed_ended g.W.Sink.written g.W.Sink.failures _ c.feed-answer.new.listener _ _ r scope _ _ _ c.feed-answer.result c.pages-2-1.given.1 c.writer-1.given.1 fed in
    let said = feed_written g.W.Sink.written g.W.Sink.failures _ c.feed-answer.new.listener r scope _ _ _ c.feed-answer.result fed in
    turn_written r scope (printed g.W.Sink.written g.W.Sink.failures) style (bytes ++ c.args.chunk.now) has.events first _ _ c.feed-answer.result _ c.feed-answer.new.listener (ap untimed (ap (λ (p : Pages). p.style) c.take-pages.ensures ∙ has.in_style))
    (turn_said r scope style bytes first _ c.args.self.now has (ap (λ (p : Pages). p.block) c.take-pages.ensures ∙ c.requires.following.empty)) said
    (on_page g.W.Sink.written g.W.Sink.failures _ c.feed-answer.new.listener _ _ (λ (held : Option (List ℕ)) (block : List ℕ) (failed : ℕ). Appends held (g.W.Sink.written c.flush.new.writer) block) are c.in_ok-flush.ensures.bytes)
    (ap (λ (p : Pages). p.style) are.pages_are) (c.feed-answer.ensures.reading ∙ has.reading) (c.feed-answer.ensures.scope ∙ has.by_scope)

pub returns-clause-counts : goal.returns-clause-counts
returns-clause-counts g c = λ r scope style bytes first has.
    let fed = turn_fed r scope (Prints g.W.Sink.written g.W.Sink.failures) (FailsPrinting g.W.Sink.written g.W.Sink.failures) style bytes (bytes ++ c.args.chunk.now) first _ c.args.self.now c.feed-answer.new.self c.feed-answer.result _ c.feed-answer.new.listener has (c.feed-answer.ensures.reads bytes has.events) in
    let are = feed_ended g.W.Sink.written g.W.Sink.failures _ c.feed-answer.new.listener _ _ r scope _ _ _ c.feed-answer.result c.pages-2-1.given.1 c.writer-1.given.1 fed in
    let said = feed_written g.W.Sink.written g.W.Sink.failures _ c.feed-answer.new.listener r scope _ _ _ c.feed-answer.result fed in
    let counted = turn_counted r scope (printed g.W.Sink.written g.W.Sink.failures) (bytes ++ c.args.chunk.now) has.events c.feed-answer.new.self c.feed-answer.result _ c.feed-answer.new.listener said in
    let least : g.W.Sink.failures c.args.writer.now ≤ g.W.Sink.failures c.feed-answer.new.listener.writer.now = counted.0 in
    let last = (on_page g.W.Sink.written g.W.Sink.failures _ c.feed-answer.new.listener _ _ (λ (held : Option (List ℕ)) (block : List ℕ) (failed : ℕ). g.W.Sink.failures c.flush.new.writer ≡ failed) are c.in_ok-flush.ensures.failures) in (
      omega (arith, least, last),
      λ is.
          let more : g.W.Sink.failures c.args.writer.now < g.W.Sink.failures c.feed-answer.new.listener.writer.now = counted.1 is in
          omega (arith, more, last),
    )
