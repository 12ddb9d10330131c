use Rattle.std.proofs.Common.{◌≡◌, ◌+◌, ◌<◌, ◌++◌, ◌∙◌, List, Some, length, take, get_or, ap, subst, rules}
use Rattle.std.specs.List.{All}
use Rattle.std.specs.Prelude.{flat_map}
use Rattle.zvt_till.specs.declared.entries.Entry.{Entry}
use Rattle.zvt_till.specs.SnapshotEncoded.{entry_bytes, IsEntry}
use Rattle.zvt_till.proofs.SnapshotBodies.{on_ok}
use Rattle.zvt_till.proofs.SnapshotLeft.{doubted, get-row, left-fits, left-written}
use Rattle.zvt_till.proofs.SnapshotRows.{all-trailing}
use Rattle.zvt_till.proofs.snapshot.encoder.put_left_book.Goals as goal

pub returns-clause-bytes : goal.returns-clause-bytes
returns-clause-bytes c =
    let here : c.args.doubted ≡ Some c.in-Some.place = search rules in
    let within : c.in-Some.place < length c.args.book.now = search rules in
    let item : c.in-Some-get.entry.now ≡ get_or c.args.book.now c.in-Some.place c.in-Some-get.entry.now = search rules in
    rw here (on_ok c.put_book-3.result (λ is.
    left-written c.args.layout c.args.book.now c.in-Some.place c.in-Some-get.entry.now c.args.bytes.now.items c.put_book-2.new.bytes.items c.put_entry.new.bytes.items c.put_book-3.new.bytes.items
    (get-row c.args.book.now c.in-Some.place c.in-Some-get.entry.now within item) (search rules) (search rules)
    (is ∙ ap (λ (rows : List Entry). c.put_entry.new.bytes.items ++ flat_map (entry_bytes c.args.layout) rows) (all-trailing (c.in-Some.place + 1) c.args.book.now))) c.put_book-3.ensures.bytes)

pub returns-clause-fit : goal.returns-clause-fit
returns-clause-fit c =
    let here : c.args.doubted ≡ Some c.in-Some.place = search rules in
    let within : c.in-Some.place < length c.args.book.now = search rules in
    let item : c.in-Some-get.entry.now ≡ get_or c.args.book.now c.in-Some.place c.in-Some-get.entry.now = search rules in
    let found = get-row c.args.book.now c.in-Some.place c.in-Some-get.entry.now within item in
    let prefix : All IsEntry (take c.in-Some.place c.args.book.now) = search rules in
    let fits : IsEntry (doubted c.in-Some-get.entry.now) = search rules in
    rw here (on_ok c.put_book-3.result (λ back.
    left-fits c.args.book.now c.in-Some.place c.in-Some-get.entry.now found prefix fits
    (subst (λ (rows : List Entry). All IsEntry rows) (all-trailing (c.in-Some.place + 1) c.args.book.now) back)) c.put_book-3.ensures.fit)
