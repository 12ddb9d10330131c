use Rattle.std.proofs.Common.{◌≡◌, ◌≤◌, ◌<◌, ◌++◌, List, ◌∷◌, [], Option, length, sym, ap, subst, unwrap_or, ◌∙◌, rules}
use Rattle.std.specs.List.{All}
use Rattle.std.proofs.lemmas.List.Elements.{All-push}
use Rattle.zvt_till.specs.declared.entries.Entry.{Entry}
use Rattle.zvt_till.specs.SnapshotReading.{HasDoubtOf, HasRowOf}
use Rattle.zvt_till.specs.SnapshotEncoded.{entry_bytes, entry_size}
use Rattle.zvt_till.proofs.SnapshotNumbers.{none-some}
use Rattle.zvt_till.proofs.SnapshotRows.{row-long, row-some, first, read-all, read-more}
use Rattle.zvt_till.proofs.snapshot.decoder.read_book.Goals as goal

pub returns-in_default-clause-value : goal.returns-in_default-clause-value
returns-in_default-clause-value c all are is =
    let layout = c.args.layout in
    let w = c.entry_size-size.result in
    let size : w ≡ entry_size layout = c.entry_size-size.ensures in
    let within : w ≤ length c.rows.rest.now = search rules in
    let b = c.rows.invariant.read all are is in
    let h = first (entry_bytes layout) (HasRowOf layout) w (row-long layout w size) (row-some layout w size) b.0 c.rows.rest.now b.2 b.3 within in
    absurd (none-some h.row (sym c.in_default.is ∙ c.read_entry.ensures.value h.row h.good (c.split_at.ensures.front ∙ h.prefix)))

pub rows-preserved : goal.rows-preserved
rows-preserved c =
    let layout = c.args.layout in
    let w = c.entry_size-size.result in
    let size : w ≡ entry_size layout = c.entry_size-size.ensures in
    let within : w ≤ length c.rows.rest.now = search rules in
    let pushed : c.push.new.self.items ≡ c.rows.rows.items ++ c.in-Some.entry ∷ [] = search rules in
    let last : HasDoubtOf layout c.in-Some.entry.doubt = search rules in
    record {
      read =
          read-more (entry_bytes layout) (HasRowOf layout) w (row-long layout w size) (row-some layout w size) c.args.bytes.now c.rows.rest.now c.split_at.result.1.now c.rows.rows.items c.push.new.self.items c.in-Some.entry
          within c.split_at.ensures.back pushed
          (λ x good prefix. ap (λ (o : Option (Entry)). unwrap_or o x) (sym c.in-Some.is ∙ c.read_entry.ensures.value x good (c.split_at.ensures.front ∙ prefix))) c.rows.invariant.read;
      held =
          subst (λ (rows : List Entry). All (λ entry. HasDoubtOf layout entry.doubt) rows) (sym pushed)
          (All-push (λ (entry : Entry). HasDoubtOf layout entry.doubt) c.rows.rows.items c.in-Some.entry c.rows.invariant.held last);
    }

pub returns-clause-value : goal.returns-clause-value
returns-clause-value c all are is =
    let layout = c.args.layout in
    let w = c.entry_size-size.result in
    let size : w ≡ entry_size layout = c.entry_size-size.ensures in
    let short : length c.rows.rest.now < w = search rules in
    read-all (entry_bytes layout) (HasRowOf layout) w (row-long layout w size) c.args.bytes.now c.rows.rest.now c.rows.rows.items short c.rows.invariant.read all are is
