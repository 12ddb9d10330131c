use Rattle.std.proofs.Common.{◌≡◌, ◌==◌, ◌∙◌, ℕ, List, Option, get_or, take, drop, ap, refl, unwrap_or}
use Rattle.zvt_till.specs.declared.entries.Doubt.{Doubt}
use Rattle.zvt_till.proofs.SnapshotNumbers.{some-same}
use Rattle.zvt_till.proofs.SnapshotRows.{all-trailing, entry-doubt, entry-receipt, mark-is}
use Rattle.zvt_till.proofs.snapshot.input.read_entry.Goals as goal

pub returns-clause-value : goal.returns-clause-value
returns-clause-value c entry held is =
    let row = c.args.row.now in
    let a : c.in_ok-amount.amount ≡ entry.amount = some-same _ _ (c.in_ok-amount.ensures entry.amount held.0.amount (ap (take 6) is)) in
    let t : c.in_ok-trace.trace ≡ entry.trace = some-same _ _ (c.in_ok-trace.ensures entry.trace held.0.trace (ap (λ (b : List ℕ). take 3 (drop 6 b)) is)) in
    let r : c.read_receipt-receipt.result ≡ entry.receipt = c.read_receipt-receipt.ensures entry.receipt held.0.receipt (entry-receipt c.args.layout entry row held.0 is) in
    let m : (get_or row 9 0 == 1) ≡ entry.reversed = ap (λ (b : List ℕ). get_or b 9 0 == 1) is ∙ mark-is entry.reversed in
    let d : c.in_ok-doubt.doubt ≡ entry.doubt =
    ap (λ (o : Option Doubt). unwrap_or o entry.doubt) (c.in_ok-doubt.ensures.value entry.doubt held.1 (all-trailing 13 row ∙ entry-doubt c.args.layout entry row held.0 is)) in
    rw (a, t, r, m, d) refl
