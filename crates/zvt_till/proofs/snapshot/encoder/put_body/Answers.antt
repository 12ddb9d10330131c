use Rattle.std.proofs.Common.{◌≡◌, ◌+◌, ◌≤◌, ℕ, ◌∙◌, sym, ap, ap₂, length, length-append, rules}
use Rattle.std.specs.List.{All}
use Rattle.zvt_till.specs.declared.happenings.Happening.TheVariants.{Lost}
use Rattle.zvt_till.specs.Till.{step}
use Rattle.zvt_till.specs.SnapshotEncoded.{left_book, open_rows, IsEntry, IsOutcome, IsUnclear}
use Rattle.zvt_till.proofs.SnapshotBodies.{body-joined, on_ok}
use Rattle.zvt_till.proofs.SnapshotLostLine.{lost-kept}
use Rattle.zvt_till.proofs.snapshot.encoder.put_body.Goals as goal

pub returns-clause-bytes : goal.returns-clause-bytes
returns-clause-bytes c =
    let s = c.args.till.now.state in
    let settled = c.settle-settled.ensures in
    let n : c.unclear.result.now ≡ s.unclear = c.unclear.ensures.rows in
    on_ok c.put_open.result (λ is.
    body-joined c.args.layout s (step s Lost) c.settle-settled.result.left c.settle-settled.result.doubted c.settle-settled.result.last (length c.unclear.result.now + c.rows_left.result)
    c.args.bytes.now.items c.put_counts.new.bytes.items c.put_settings.new.bytes.items c.put_left_book.new.bytes.items c.put_rows.new.bytes.items c.put_open.new.bytes.items
    settled.unclear settled.last settled.book settled.settings (ap₂ (λ (a b : ℕ). a + b) (ap length n) c.rows_left.ensures.count ∙ sym (length-append s.unclear (open_rows c.settle-settled.result.left)))
    (search rules) (search rules) (search rules) (search rules) is) c.put_open.ensures.bytes

pub returns-clause-kept : goal.returns-clause-kept
returns-clause-kept c =
    let s = c.args.till.now.state in
    let settled = c.settle-settled.ensures in
    let entries : All IsEntry (left_book s.book c.settle-settled.result.doubted) = search rules in
    let rows : All IsUnclear s.unclear = search rules in
    let outcome : IsOutcome c.settle-settled.result.last = search rules in
    let currency : s.settings.currency ≤ 9999 = search rules in
    let password : length s.settings.password ≡ 3 = search rules in
    on_ok c.put_open.result (λ opened.
    lost-kept s c.settle-settled.result.left c.settle-settled.result.doubted c.settle-settled.result.last settled.unclear settled.last settled.book settled.settings
    c.can_be_restored.ensures entries rows opened outcome currency password) c.put_open.ensures.fit
