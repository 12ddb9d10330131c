use Rattle.std.proofs.Common.{ap, inr, ◌+◌, ◌∙◌}
use Rattle.zvt_runs.proofs.Unclear.{adds_entry, stops_at_entry}
use Rattle.zvt_runs.proofs.reversals.report_reversals.Goals as goal

pub entries-preserved : goal.entries-preserved
entries-preserved g c =
    let so = c.entries.invariant in
    let named = ap (λ n. n + 1) so.number in
    record {
      number = named;
      so_far = adds_entry c.args.book.now c.entries.entry-index _ c.entry-item.result _ _ _ c.entries-test.true c.entry-item.is named so.so_far c.in_default.ensures.bytes;
      failures = c.in_default.ensures.failures ∙ so.failures;
    }

pub returns-in-Err : goal.returns-in-Err
returns-in-Err g c =
    let so = c.entries.invariant in
    let written = stops_at_entry c.args.book.now c.entries.entry-index _ c.entry-item.result _ _ _ c.entries-test.true c.entry-item.is (ap (λ n. n + 1) so.number) so.so_far c.in-Err.ensures.bytes in
    inr (c.in-Err.ensures.failures ∙ ap (λ n. n + 1) so.failures, written.0, written.1, written.2)
