-- The table of a page with the ends of day that closed a day.
use Rattle.std.specs.Prelude.{◌≡◌, ℕ, ◌+◌, ◌-◌, ◌==◌, nat_le, cond, List, [], ◌∷◌, codes, Option, Some, None, is_some, refl}
use Rattle.std.specs.Fmt.{digits}
use Rattle.std.specs.List.{list_any}
use Rattle.zvt_page.specs.Html.{Html, nothing, both, element, leaf, all, render, attribute_text, end_tag, escaped, start_tag}
use Rattle.zvt_page.specs.declared.elements.Element.TheVariants.{H2, Td, Tr}
use Rattle.zvt_till.specs.declared.happenings.Sent.TheVariants.{CloseDay}
use Rattle.zvt_till.specs.declared.outcomes.Outcome.TheVariants.{DayClosed}
use Rattle.zvt_report.specs.Amounts.{amount_text}
use Rattle.zvt_report.specs.Differing.{closing_at}
use Rattle.zvt_report.specs.PageGroups.{group_tables}
use Rattle.zvt_report.specs.PageParts.{amount_or_nothing, column, lines_cell}
use Rattle.zvt_report.specs.PageTables.{table}
use Rattle.zvt_report.specs.declared.closings.Closing.{Closing}
use Rattle.zvt_report.specs.declared.currencies.Decimals.{Decimals}
use Rattle.zvt_report.specs.declared.explaining.Explained.TheVariants.{Nothing}
use Rattle.zvt_report.specs.declared.currencies.Decimals.TheVariants.{Two}
use Rattle.zvt_report.specs.declared.rows.OrderRow.{OrderRow}

unfoldable pub close_columns : Html
close_columns =
    all (column (codes "n am") (codes "Terminal") ∷ column (codes "n am") (codes "Book") ∷ column (codes "n am") (codes "Difference")
    ∷ column (codes "ln") (codes "Lines") ∷ [])

-- the first sum less the second one
abbrev pub less_text : Decimals → (more less : ℕ) → List ℕ
less_text decimals more less = cond (nat_le less more) (amount_text decimals (more - less)) (45 ∷ amount_text decimals (less - more))

-- how much more the terminal states than the book has; nothing if it states no total
abbrev pub gap_text : Decimals → (booked : ℕ) → (covered : Option ℕ) → List ℕ
gap_text decimals booked None = []
gap_text decimals booked (Some covered) = cond (covered == booked) (codes "none") (less_text decimals covered booked)

unfoldable pub closing_row : Decimals → OrderRow → Closing → Html
closing_row decimals row closing =
    element Tr []
    (all (leaf Td (codes "n am") (amount_or_nothing decimals closing.stated) ∷ leaf Td (codes "n am") (less_text decimals closing.booked closing.taken_back)
    ∷ leaf Td (codes "n am") (gap_text decimals closing.booked closing.covered) ∷ lines_cell row.first row.last ∷ []))

abbrev pub closing_of : Decimals → OrderRow → Option Closing → Html
closing_of decimals row None = nothing
closing_of decimals row (Some closing) = closing_row decimals row closing

-- the ends of day among these rows; the first row has this place
abbrev pub closing_rows : Decimals → List (Option Closing) → (place : ℕ) → List OrderRow → Html
closing_rows decimals closings place [] = nothing
closing_rows decimals closings place (row ∷ rows) = both (closing_of decimals row (closing_at closings place)) (closing_rows decimals closings (place + 1) rows)

unfoldable pub closings_table : Decimals → List (Option Closing) → List OrderRow → Html
closings_table decimals closings rows = table close_columns (closing_rows decimals closings 0 rows)

-- the table under its heading, and the totals by card
unfoldable pub titled_closings : Decimals → List (Option Closing) → List OrderRow → Html
titled_closings decimals closings rows = both (leaf H2 [] (codes "End of day")) (both (closings_table decimals closings rows) (group_tables decimals closings 0 rows))

-- both, if an order closed a day
unfoldable pub closings_section : Decimals → List (Option Closing) → List OrderRow → Html
closings_section decimals closings rows = cond (list_any is_some closings) (titled_closings decimals closings rows) nothing

-- ---- a row worked by hand

a_difference : render (closing_rows Two (Some (record { stated = Some 17212; totals = None; booked = 15713; taken_back = 1500; covered = Some 18712; explained = Nothing }) ∷ []) 0
    (record { order = CloseDay; first = 346; last = 366; outcome = DayClosed; approval = None; time = None; card = None } ∷ []))
    ≡ codes "<tr><td class=\"n am\">172.12</td><td class=\"n am\">142.13</td><td class=\"n am\">29.99</td><td class=\"ln\">346-366</td></tr>"
unfolding amount_text attribute_text closing_row digits end_tag escaped lines_cell start_tag
a_difference = refl
