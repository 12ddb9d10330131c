use Rattle.std.proofs.Common.{◌≡◌, ◌<◌, ◌≤◌, ◌+◌, ℕ, List, Option, ap, arith}
use Rattle.std.proofs.lemmas.Result.{err_from_is_err_and}
use Rattle.std.specs.Io.KnownBytes.{Appends}
use Rattle.std.specs.Str.Lines.{lines}
use Rattle.zvt_trace.specs.Written.{AppendsPrefix}
use Rattle.zvt_show.specs.Text.{untimed}
use Rattle.zvt_show.specs.Printed.{FailsPrinting, Prints, printed}
use Rattle.zvt_show.proofs.FollowLemmas.{end_counted, end_lost, end_written}
use Rattle.zvt_show.proofs.PrinterLemmas.{end_ended, end_written_as, on_page}
use Rattle.zvt_show.proofs.TurnLemmas.{end_fed, turn_said}
use Rattle.zvt_show.proofs.follow.Follower.finish.Goals as goal

pub returns-in_err-flush-clause-writes : goal.returns-in_err-flush-clause-writes
returns-in_err-flush-clause-writes g c = λ r scope style bytes first has.
    let p = err_from_is_err_and c.from_residual.result c.from_residual.ensures.1 in
    let fed = end_fed r scope (Prints g.W.Sink.written g.W.Sink.failures) (FailsPrinting g.W.Sink.written g.W.Sink.failures) style bytes first _ c.args.self c.finish-answer.result _ c.finish-answer.new.listener has (c.finish-answer.ensures bytes has.events) in
    let are = end_ended g.W.Sink.written g.W.Sink.failures _ c.finish-answer.new.listener _ _ r scope _ _ c.finish-answer.result c.pages-2-1.given.1 c.writer-1.given.1 fed in
    let said = end_written_as g.W.Sink.written g.W.Sink.failures _ c.finish-answer.new.listener r scope _ _ c.finish-answer.result fed in
    rw (p.1, p.2, c.in_err-flush.ensures.fault)
    (end_lost r scope (printed g.W.Sink.written g.W.Sink.failures) (untimed style) (lines bytes) has.events first _ c.finish-answer.result _ c.finish-answer.new.listener (ap untimed has.in_style)
    (turn_said r scope style bytes first _ c.args.self has c.requires.following.empty) said
    (on_page g.W.Sink.written g.W.Sink.failures _ c.finish-answer.new.listener _ _ (λ (held : Option (List ℕ)) (block : List ℕ) (failed : ℕ). AppendsPrefix held (g.W.Sink.written c.flush.new.writer) block) are c.in_err-flush.ensures.prefix))

pub returns-in_err-flush-clause-counts : goal.returns-in_err-flush-clause-counts
returns-in_err-flush-clause-counts g c = λ r scope style bytes first has.
    let fed = end_fed r scope (Prints g.W.Sink.written g.W.Sink.failures) (FailsPrinting g.W.Sink.written g.W.Sink.failures) style bytes first _ c.args.self c.finish-answer.result _ c.finish-answer.new.listener has (c.finish-answer.ensures bytes has.events) in
    let are = end_ended g.W.Sink.written g.W.Sink.failures _ c.finish-answer.new.listener _ _ r scope _ _ c.finish-answer.result c.pages-2-1.given.1 c.writer-1.given.1 fed in
    let said = end_written_as g.W.Sink.written g.W.Sink.failures _ c.finish-answer.new.listener r scope _ _ c.finish-answer.result fed in
    let counted = end_counted r scope (printed g.W.Sink.written g.W.Sink.failures) (lines bytes) has.events c.finish-answer.result _ c.finish-answer.new.listener said in
    let least : g.W.Sink.failures c.args.writer.now ≤ g.W.Sink.failures c.finish-answer.new.listener.writer.now = counted.0 in
    let last = (on_page g.W.Sink.written g.W.Sink.failures _ c.finish-answer.new.listener _ _ (λ (held : Option (List ℕ)) (block : List ℕ) (failed : ℕ). g.W.Sink.failures c.flush.new.writer ≡ failed + 1) are c.in_err-flush.ensures.failures) in
    (omega (arith, least, last), λ is. omega (arith, least, last))

pub returns-clause-writes : goal.returns-clause-writes
returns-clause-writes g c = λ r scope style bytes first has.
    let fed = end_fed r scope (Prints g.W.Sink.written g.W.Sink.failures) (FailsPrinting g.W.Sink.written g.W.Sink.failures) style bytes first _ c.args.self c.finish-answer.result _ c.finish-answer.new.listener has (c.finish-answer.ensures bytes has.events) in
    let are = end_ended g.W.Sink.written g.W.Sink.failures _ c.finish-answer.new.listener _ _ r scope _ _ c.finish-answer.result c.pages-2-1.given.1 c.writer-1.given.1 fed in
    let said = end_written_as g.W.Sink.written g.W.Sink.failures _ c.finish-answer.new.listener r scope _ _ c.finish-answer.result fed in
    end_written r scope (printed g.W.Sink.written g.W.Sink.failures) (untimed style) (lines bytes) has.events first _ c.finish-answer.result _ c.finish-answer.new.listener (ap untimed has.in_style)
    (turn_said r scope style bytes first _ c.args.self has c.requires.following.empty) said
    (on_page g.W.Sink.written g.W.Sink.failures _ c.finish-answer.new.listener _ _ (λ (held : Option (List ℕ)) (block : List ℕ) (failed : ℕ). Appends held (g.W.Sink.written c.flush.new.writer) block) are c.in_ok-flush.ensures.bytes)

pub returns-clause-counts : goal.returns-clause-counts
returns-clause-counts g c = λ r scope style bytes first has.
    let fed = end_fed r scope (Prints g.W.Sink.written g.W.Sink.failures) (FailsPrinting g.W.Sink.written g.W.Sink.failures) style bytes first _ c.args.self c.finish-answer.result _ c.finish-answer.new.listener has (c.finish-answer.ensures bytes has.events) in
    let are = end_ended g.W.Sink.written g.W.Sink.failures _ c.finish-answer.new.listener _ _ r scope _ _ c.finish-answer.result c.pages-2-1.given.1 c.writer-1.given.1 fed in
    let said = end_written_as g.W.Sink.written g.W.Sink.failures _ c.finish-answer.new.listener r scope _ _ c.finish-answer.result fed in
    let counted = end_counted r scope (printed g.W.Sink.written g.W.Sink.failures) (lines bytes) has.events c.finish-answer.result _ c.finish-answer.new.listener said in
    let least : g.W.Sink.failures c.args.writer.now ≤ g.W.Sink.failures c.finish-answer.new.listener.writer.now = counted.0 in
    let last = (on_page g.W.Sink.written g.W.Sink.failures _ c.finish-answer.new.listener _ _ (λ (held : Option (List ℕ)) (block : List ℕ) (failed : ℕ). g.W.Sink.failures c.flush.new.writer ≡ failed) are c.in_ok-flush.ensures.failures) in (
      omega (arith, least, last),
      λ is.
          let more : g.W.Sink.failures c.args.writer.now < g.W.Sink.failures c.finish-answer.new.listener.writer.now = counted.1 is in
          omega (arith, more, last),
    )
