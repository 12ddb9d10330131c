use Rattle.std.proofs.Common.{◌≡◌, ◌<◌, arith, subst, length, get_or, rules}
use Rattle.std.proofs.lemmas.Grind.{common_steps}
use Rattle.std.proofs.lemmas.List.Elements.{All-more}
use Rattle.zvt_till.specs.SnapshotEncoded.{IsUnclear}
use Rattle.zvt_till.proofs.snapshot.encoder.put_rows.Goals as goal

pub rows-preserved : goal.rows-preserved
rows-preserved c =
    let within : c.rows.row-index < length c.args.rows.now = search rules in
    let is : c.row-item.result ≡ get_or c.args.rows.now c.rows.row-index c.row-item.result = search rules in
    record {
      bytes = grind (arith, common_steps);
      fit = All-more IsUnclear c.args.rows.now c.rows.row-index c.row-item.result within c.rows.invariant.fit (subst IsUnclear is c.in_ok-put_unclear.ensures.fits);
    }
