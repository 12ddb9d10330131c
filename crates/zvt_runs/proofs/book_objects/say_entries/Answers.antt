use Rattle.std.proofs.Common.{◌≡◌, ◌++◌, ◌∷◌, [], ◌∙◌, ◌+◌, add-one, ap, arith, length, sym, take, slice_get, List, ℕ}
use Rattle.std.proofs.Math.Seq.{take-suc}
use Rattle.std.proofs.lemmas.List.{length-take}
use Rattle.zvt_json.specs.Strings.{line_text}
use Rattle.zvt_runs.specs.BookObjects.{entry_value}
use Rattle.zvt_runs.proofs.Rows.{row_added}
use Rattle.zvt_runs.proofs.book_objects.say_entries.Goals as goal

pub loop-at-preserved : goal.loop-at-preserved
loop-at-preserved c =
    let book = c.args.book.now in
    let first = take c.loop-at.at book in
    let entry = c.index-book-at.result in
    let grown : take (c.loop-at.at + 1) book ≡ first ++ entry ∷ [] =
    ap (λ k. take k book) (add-one c.loop-at.at) ∙ take-suc book c.loop-at.at entry c.loop-at-test.true ∙ ap (λ it. first ++ it ∷ []) (sym c.index-book-at.is) in
    let size : c.loop-at.at ≡ 0 + length first = omega (arith, length-take c.loop-at.at book, c.loop-at-test.true) in
    let said = c.in_ok-say_entry.ensures ∙ ap (λ n. c.loop-at.text ++ line_text (entry_value c.args.currency (c.loop-at.at + 1) entry n)) c.note_at.ensures in
    row_added (λ it. line_text (entry_value c.args.currency (it.0 + 1) it.1 (slice_get c.args.notes.now it.0))) 0 first (take (c.loop-at.at + 1) book) entry c.args.text.now c.loop-at.text c.say_entry.new.text c.loop-at.at size grown
    c.loop-at.invariant said
