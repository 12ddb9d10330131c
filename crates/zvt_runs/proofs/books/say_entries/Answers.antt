use Rattle.std.proofs.Common.{◌≡◌, ◌++◌, ◌∷◌, [], ◌∙◌, ◌+◌, add-one, ap, arith, length, sym, take, slice_get, List, ℕ}
use Rattle.std.proofs.Math.Seq.{take-suc}
use Rattle.std.proofs.lemmas.List.{length-take}
use Rattle.zvt_runs.specs.Books.{entry_text}
use Rattle.zvt_runs.proofs.Rows.{row_added}
use Rattle.zvt_runs.proofs.books.say_entries.Goals as goal

pub loop-at-preserved : goal.loop-at-preserved
loop-at-preserved c =
    let rows = c.args.book.now in
    let first = take c.loop-at.at rows in
    let row = c.index-book-at.result in
    let grown : take (c.loop-at.at + 1) rows ≡ first ++ row ∷ [] =
    ap (λ k. take k rows) (add-one c.loop-at.at) ∙ take-suc rows c.loop-at.at row c.loop-at-test.true ∙ ap (λ it. first ++ it ∷ []) (sym c.index-book-at.is) in
    let size : c.loop-at.at ≡ 0 + length first = omega (arith, length-take c.loop-at.at rows, c.loop-at-test.true) in
    let said = c.in_ok-say_entry.ensures ∙ ap (λ n. c.loop-at.text ++ entry_text row n) c.note_at.ensures in
    row_added (λ it. entry_text it.1 (slice_get c.args.notes.now it.0)) 0 first (take (c.loop-at.at + 1) rows) row c.args.text.now c.loop-at.text c.say_entry.new.text c.loop-at.at size grown
    c.loop-at.invariant said
