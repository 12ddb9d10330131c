-- The lines of a till's book.
use Rattle.std.specs.Prelude.{ℕ, List, ◌++◌}
use Rattle.zvt_json.specs.Strings.{line_text}
use Rattle.zvt_text.specs.declared.form.Form.{Form}
use Rattle.zvt_text.specs.declared.form.Form.TheVariants.{Text, Json}
use Rattle.zvt_till.specs.Marks.{total}
use Rattle.zvt_kept.specs.declared.recovery.Recovered.{Recovered}
use Rattle.zvt_runs.specs.BookObjects.{entries_json, sum_value, unclears_json}
use Rattle.zvt_runs.specs.Books.{entries_text, unclears_text}
use Rattle.zvt_runs.specs.Outcomes.{total_text}
use Rattle.zvt_runs.specs.SettledSum.{settled_part}

-- The entries, the unclear payments, and what the asks have settled; the sum of what was settled as paid, and the sum of
-- the entries that were not reversed.
abbrev pub book_text : Recovered → List ℕ
book_text recovered =
    let till = recovered.till.till in
    entries_text till.state.book recovered.booked.items ++ unclears_text till.state.unclear till.heard recovered.unclear.items
    ++ settled_part Text till.state.book till.state.unclear recovered.till.settled.items ++ total_text (total till.state.book)

-- the same as objects
abbrev pub book_json : Recovered → List ℕ
book_json recovered =
    let till = recovered.till.till in
    let s = till.state in
    entries_json s.settings.currency s.book recovered.booked.items
    ++ unclears_json s.settings.currency s.unclear till.heard recovered.unclear.items
    ++ settled_part Json s.book s.unclear recovered.till.settled.items
    ++ line_text (sum_value s.settings.currency (total s.book))

-- the book in this form
abbrev pub book_lines : Form → Recovered → List ℕ
book_lines Text recovered = book_text recovered
book_lines Json recovered = book_json recovered
