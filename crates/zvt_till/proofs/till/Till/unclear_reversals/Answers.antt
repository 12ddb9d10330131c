use Rattle.std.proofs.Common.{length, sym, ap, ◌∙◌}
use Rattle.std.specs.List.{count_by}
use Rattle.std.proofs.lemmas.List.{take_all}
use Rattle.zvt_till.specs.Doubts.{is_unclear, unclear_reversals}
use Rattle.zvt_till.proofs.Unclear.{count-from}
use Rattle.zvt_till.proofs.till.Till.unclear_reversals.Goals as goal

pub returns : goal.returns
returns c =
    let book = c.book-book.result.now in
    c.entries.invariant.count
    ∙ ap (count_by is_unclear) (take_all c.entries.entry-index book c.entries-test.false)
    ∙ sym (count-from 0 book)
    ∙ ap (λ b. length (unclear_reversals b)) c.book-book.ensures.rows
