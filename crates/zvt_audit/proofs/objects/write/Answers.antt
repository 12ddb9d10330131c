use Rattle.std.proofs.Common.{◌≡◌, ◌++◌, ◌∷◌, [], ◌∙◌, add-one, ap, arith, length, sym, take}
use Rattle.std.proofs.Math.Seq.{take-suc}
use Rattle.std.proofs.lemmas.Grind.{common_steps}
use Rattle.std.proofs.lemmas.List.{length-map, length-take, map_push}
use Rattle.std.specs.List.{slice_get}
use Rattle.zvt_till.specs.Judging.{books_value, row_value, rows_value}
use Rattle.zvt_audit.specs.Ends.{lines_of}
use Rattle.zvt_audit.specs.Json.{booked_text, unclear_text}
use Rattle.zvt_audit.proofs.JsonLemmas.{books_said, item_copied, one_row}
use Rattle.zvt_audit.proofs.objects.write.Goals as goal

pub loop-at-preserved : goal.loop-at-preserved
loop-at-preserved c =
    let items = c.deref-row-items.result.now in
    let grown = ap (λ k. take k items) (add-one c.loop-at.at) ∙ take-suc items c.loop-at.at c.row-item.result c.loop-at-test.true ∙ ap (λ row. take c.loop-at.at items ++ row ∷ []) (sym c.row-item.is) in
    let size : length (rows_value (take c.loop-at.at items)) ≡ c.loop-at.at = length-map (take c.loop-at.at items) row_value ∙ omega (arith, length-take c.loop-at.at items, c.loop-at-test.true) in
    let line : c.copied.result ≡ slice_get c.args.ends.now.booked.items c.loop-at.at =
    c.copied.ensures ∙ item_copied c.deref.result.now c.loop-at.at c.get.result c.get.ensures.lookup ∙ ap (λ l. slice_get l c.loop-at.at) c.deref.ensures.value in
    one_row booked_text c.args.ends.now.booked.items (rows_value (take c.loop-at.at items)) _ (row_value c.row-item.result) c.copied.result c.args.text.now c.loop-at.text c.booked_row.new.text (ap rows_value grown ∙ map_push row_value (take c.loop-at.at items) c.row-item.result) (line ∙ ap (slice_get c.args.ends.now.booked.items) (sym size)) c.loop-at.invariant c.in_ok-booked_row.ensures

pub loop-at-2-preserved : goal.loop-at-2-preserved
loop-at-2-preserved c =
    let items = c.deref-row-items-2.result.now in
    let grown = ap (λ k. take k items) (add-one c.loop-at-2.at) ∙ take-suc items c.loop-at-2.at c.row-item-in-loop-at-2.result c.loop-at-2-test.true ∙ ap (λ row. take c.loop-at-2.at items ++ row ∷ []) (sym c.row-item-in-loop-at-2.is) in
    let size : length (take c.loop-at-2.at items) ≡ c.loop-at-2.at = omega (arith, length-take c.loop-at-2.at items, c.loop-at-2-test.true) in
    let line : c.copied-in-loop-at-2.result ≡ slice_get c.args.ends.now.unclear.items c.loop-at-2.at =
    c.copied-in-loop-at-2.ensures ∙ item_copied c.deref-in-loop-at-2.result.now c.loop-at-2.at c.get-in-loop-at-2.result c.get-in-loop-at-2.ensures.lookup ∙ ap (λ l. slice_get l c.loop-at-2.at) c.deref-in-loop-at-2.ensures.value in
    one_row unclear_text c.args.ends.now.unclear.items (take c.loop-at-2.at items) _ c.row-item-in-loop-at-2.result c.copied-in-loop-at-2.result c.loop-at.text c.loop-at-2.text c.unclear_row.new.text grown (line ∙ ap (slice_get c.args.ends.now.unclear.items) (sym size)) c.loop-at-2.invariant c.in_ok-unclear_row.ensures

pub returns : goal.returns
returns c = let h = books_said c.args.tally c.args.currency (lines_of c.args.ends.now) c.args.unfollowed.now (books_value c.args.books.now) in grind (arith, common_steps, h)
