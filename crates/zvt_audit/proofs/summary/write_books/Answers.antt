use Rattle.std.proofs.Common.{◌∙◌, ◌++◌, List, ℕ, ap, ap₂, refl, rules, subst}
use Rattle.std.specs.Io.KnownBytes.{Appends}
use Rattle.zvt_till.specs.Judging.{books_value, rows_value}
use Rattle.std.proofs.lemmas.Result.{err_from_is_err_and}
use Rattle.zvt_trace.specs.Written.{AppendsPrefix}
use Rattle.zvt_till.specs.Books.{Books, books}
use Rattle.zvt_audit.specs.Currencies.{agreed}
use Rattle.zvt_audit.specs.Audited.{SumsUp}
use Rattle.zvt_audit.specs.Booked.{total}
use Rattle.zvt_audit.specs.Ends.{lines_of}
use Rattle.zvt_audit.specs.Json.{books_in}
use Rattle.zvt_audit.proofs.summary.write_books.Goals as goal

pub returns-clause-writes : goal.returns-clause-writes
returns-clause-writes g c = λ log judged.
    let says = c.bytes.ensures ∙ c.in_ok-write.ensures ∙ ap (λ t. t ++ books_in c.args.form c.args.tally c.agreed-currency.result (lines_of c.args.audit.listener.ends) c.as_slice.result.now (books_value c.in_ok-found.found)) c.new-text.ensures ∙ ap₂ (λ currency found. books_in c.args.form c.args.tally currency (lines_of c.args.audit.listener.ends) c.as_slice.result.now found) c.agreed-currency.ensures (c.in_ok-found.ensures log judged) ∙ ap (λ orders. books_in c.args.form c.args.tally (agreed c.args.audit.listener.named) (lines_of c.args.audit.listener.ends) orders (books log)) (c.as_slice.ensures.value ∙ c.in_ok-unfollowed.ensures) in
    let own : SumsUp (record { tally = c.args.tally; total = c.total.result; unclear = c.len.result; swapped = c.are_swapped-swapped.result; unfollowed = c.in_ok-unfollowed.unfollowed; passed = c.args.audit.passed }) (books_value c.in_ok-found.found) =
    record { total = c.total.ensures ∙ ap (λ rows. total (rows_value rows)) c.as_slice-2.ensures.value; unclear = search rules } in
    let sums = subst (λ (b : Books). SumsUp (record { tally = c.args.tally; total = c.total.result; unclear = c.len.result; swapped = c.are_swapped-swapped.result; unfollowed = c.in_ok-unfollowed.unfollowed; passed = c.args.audit.passed }) b) (c.in_ok-found.ensures log judged) own in
    (subst (λ (t : List ℕ). Appends (g.W.Sink.written c.args.writer.now) (g.W.Sink.written c.write_all.new.self) t) says c.in_ok-write_all.ensures.bytes, refl, c.are_swapped-swapped.ensures, sums, c.in_ok-unfollowed.ensures, refl)

pub returns-in_err-write_all-clause-writes : goal.returns-in_err-write_all-clause-writes
returns-in_err-write_all-clause-writes g c = λ log judged.
    let p = err_from_is_err_and c.from_residual-in_err-write_all.result c.from_residual-in_err-write_all.ensures.1 in
    let says = c.bytes.ensures ∙ c.in_ok-write.ensures ∙ ap (λ t. t ++ books_in c.args.form c.args.tally c.agreed-currency.result (lines_of c.args.audit.listener.ends) c.as_slice.result.now (books_value c.in_ok-found.found)) c.new-text.ensures ∙ ap₂ (λ currency found. books_in c.args.form c.args.tally currency (lines_of c.args.audit.listener.ends) c.as_slice.result.now found) c.agreed-currency.ensures (c.in_ok-found.ensures log judged) ∙ ap (λ orders. books_in c.args.form c.args.tally (agreed c.args.audit.listener.named) (lines_of c.args.audit.listener.ends) orders (books log)) (c.as_slice.ensures.value ∙ c.in_ok-unfollowed.ensures) in
    rw (p.1, p.2) (subst (λ (t : List ℕ). AppendsPrefix (g.W.Sink.written c.args.writer.now) (g.W.Sink.written c.write_all.new.self) t) says c.in_err-write_all.ensures.bytes)
