use Rattle.std.proofs.Common.{sym, ◌∙◌}
use Rattle.zvt_till.specs.Judging.{books_value, as_book}
use Rattle.zvt_till.proofs.BooksLemmas.{judged-order, judged-rest, judged-end, judged-more}
use Rattle.zvt_till.proofs.log_books.Books.take.Goals as goal

pub returns-in-Some-clause-judged : goal.returns-in-Some-clause-judged
returns-in-Some-clause-judged c log force before =
    rw (c.opened.ensures, force) (judged-order log c.args.happening.now c.in-Some.order _ (sym c.begun.ensures ∙ c.in-Some.is) (c.in_ok-close.ensures.closed log before))

pub returns-in_default-running-clause-judged : goal.returns-in_default-running-clause-judged
returns-in_default-running-clause-judged c log force before =
    let rests = rw c.in_default-running.is at before in
    rw c.in_default-running.is (judged-rest log c.args.happening.now _ (sym c.begun.ensures ∙ c.in_default.is) rests)

pub returns-then-ends-clause-judged : goal.returns-then-ends-clause-judged
returns-then-ends-clause-judged c log force before =
    let runs = rw c.in-Some-running.is at before in
    let outcome = c.outcome_by-outcome.ensures (as_book (books_value c.args.self.now).booked) c.requires in
    let written = rw outcome at c.in_ok-write.ensures.written in
    rw written (judged-end log c.args.happening.now (books_value c.args.self.now) c.in-Some-running.payment (sym c.begun.ensures ∙ c.in_default.is) (sym c.ends.ensures ∙ c.if-ends.true) runs)

pub returns-clause-judged : goal.returns-clause-judged
returns-clause-judged c log force before =
    let runs = rw c.in-Some-running.is at before in
    let next = c.listen.ensures in
    judged-more log c.args.happening.now _ c.in-Some-running.payment _ (sym c.begun.ensures ∙ c.in_default.is) (sym c.ends.ensures ∙ c.if-ends.false) next.amount next.currency next.positive next.statuses runs
