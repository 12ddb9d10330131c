use Rattle.std.proofs.Common.{◌≡◌, ◌<◌, arith, subst, length, get_or, rules}
use Rattle.std.proofs.lemmas.Grind.{common_steps}
use Rattle.std.proofs.lemmas.List.Elements.{All-more}
use Rattle.zvt_till.specs.SnapshotEncoded.{IsEntry}
use Rattle.zvt_till.proofs.snapshot.encoder.put_book.Goals as goal

pub rows-preserved : goal.rows-preserved
rows-preserved c =
    let within : c.rows.entry-index < length c.args.book.now = search rules in
    let is : c.entry-item.result ≡ get_or c.args.book.now c.rows.entry-index c.entry-item.result = search rules in
    record {
      bytes = grind (arith, common_steps);
      fit = All-more IsEntry c.args.book.now c.rows.entry-index c.entry-item.result within c.rows.invariant.fit (subst IsEntry is c.in_ok-put_entry.ensures.fits);
    }
