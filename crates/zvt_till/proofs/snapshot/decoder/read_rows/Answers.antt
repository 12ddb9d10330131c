use Rattle.std.proofs.Common.{◌≡◌, ℕ, ◌≤◌, ◌<◌, ◌++◌, ◌∷◌, [], Option, length, sym, ap, unwrap_or, ◌∙◌, rules, lit<}
use Rattle.zvt_till.specs.declared.outcomes.Cause.{Cause}
use Rattle.zvt_till.specs.SnapshotEncoded.{unclear_bytes, IsUnclear}
use Rattle.zvt_till.proofs.SnapshotNumbers.{none-some}
use Rattle.zvt_till.proofs.SnapshotRows.{unclear-long, first, read-all, read-more}
use Rattle.zvt_till.proofs.snapshot.decoder.read_rows.Goals as goal

pub returns-in_default : goal.returns-in_default
returns-in_default c all are is =
    let within : 7 ≤ length c.rows.rest.now = search rules in
    let b = c.rows.invariant all are is in
    let h = first unclear_bytes IsUnclear 7 unclear-long (lit< tt) b.0 c.rows.rest.now b.2 b.3 within in
    absurd (none-some h.row (sym c.in_default.is ∙ c.read_unclear.ensures h.row h.good (c.split_at.ensures.front ∙ h.prefix)))

pub rows-preserved : goal.rows-preserved
rows-preserved c =
    let within : 7 ≤ length c.rows.rest.now = search rules in
    let pushed : c.push.new.self.items ≡ c.rows.rows.items ++ c.in-Some.pair ∷ [] = search rules in
    read-more unclear_bytes IsUnclear 7 unclear-long (lit< tt) c.args.bytes.now c.rows.rest.now c.split_at.result.1.now c.rows.rows.items c.push.new.self.items c.in-Some.pair
    within c.split_at.ensures.back pushed
    (λ x good prefix. ap (λ (o : Option (ℕ × Cause)). unwrap_or o x) (sym c.in-Some.is ∙ c.read_unclear.ensures x good (c.split_at.ensures.front ∙ prefix))) c.rows.invariant

pub returns : goal.returns
returns c all are is =
    let short : length c.rows.rest.now < 7 = search rules in
    read-all unclear_bytes IsUnclear 7 unclear-long c.args.bytes.now c.rows.rest.now c.rows.rows.items short c.rows.invariant all are is
