-- The tables of a page with the totals by card of the ends of day.
use Rattle.std.specs.Prelude.{◌≡◌, ℕ, ◌+◌, cond, List, [], ◌∷◌, ◌++◌, codes, Option, Some, None, refl}
use Rattle.std.specs.Fmt.{decimal, digits}
use Rattle.std.specs.List.{list_any}
use Rattle.zvt_page.specs.Html.{Html, nothing, both, element, leaf, all, render, attribute_text, end_tag, escaped, start_tag}
use Rattle.zvt_page.specs.declared.elements.Element.TheVariants.{H3, Td, Tr}
use Rattle.zvt_report.specs.Amounts.{amount_text}
use Rattle.zvt_report.specs.CardTotals.{brand_name, is_used}
use Rattle.zvt_report.specs.Differing.{closing_at}
use Rattle.zvt_report.specs.PageParts.{column, from_to}
use Rattle.zvt_report.specs.PageTables.{table}
use Rattle.zvt_report.specs.declared.card_totals.CardBrand.TheVariants.{Girocard, Jcb}
use Rattle.zvt_report.specs.declared.card_totals.CardGroup.{CardGroup}
use Rattle.zvt_report.specs.declared.card_totals.CardTotals.{CardTotals}
use Rattle.zvt_report.specs.declared.closings.Closing.{Closing}
use Rattle.zvt_report.specs.declared.currencies.Decimals.{Decimals}
use Rattle.zvt_report.specs.declared.currencies.Decimals.TheVariants.{Two}
use Rattle.zvt_report.specs.declared.rows.OrderRow.{OrderRow}

unfoldable pub group_columns : Html
group_columns = all (column (codes "ca") (codes "Card") ∷ column (codes "n") (codes "Count") ∷ column (codes "n am") (codes "Amount") ∷ [])

unfoldable pub group_row : Decimals → CardGroup → Html
group_row decimals group =
    element Tr [] (all (leaf Td (codes "ca") (brand_name group.brand) ∷ leaf Td (codes "n") (decimal group.count) ∷ leaf Td (codes "n am") (amount_text decimals group.sum) ∷ []))

abbrev pub row_if_used : Decimals → CardGroup → Html
row_if_used decimals group = cond (is_used group) (group_row decimals group) nothing

-- the rows of the groups that have a payment or a sum
abbrev pub group_rows : Decimals → List CardGroup → Html
group_rows decimals [] = nothing
group_rows decimals (group ∷ groups) = both (row_if_used decimals group) (group_rows decimals groups)

-- which end of day it is
unfoldable pub groups_title : (first last : ℕ) → Html
groups_title first last = leaf H3 [] (codes "Terminal by card, lines " ++ from_to first last)

unfoldable pub groups_table : Decimals → List CardGroup → Html
groups_table decimals groups = table group_columns (group_rows decimals groups)

-- the table under its heading, if a group has a payment or a sum
abbrev pub titled_table : Decimals → OrderRow → List CardGroup → Html
titled_table decimals row groups = cond (list_any is_used groups) (both (groups_title row.first row.last) (groups_table decimals groups)) nothing

abbrev pub table_by : Decimals → OrderRow → Option CardTotals → Html
table_by decimals row None = nothing
table_by decimals row (Some totals) = titled_table decimals row totals.groups

abbrev pub table_of : Decimals → OrderRow → Option Closing → Html
table_of decimals row None = nothing
table_of decimals row (Some closing) = table_by decimals row closing.totals

-- the tables of the ends of day among these rows; the first row has this place
abbrev pub group_tables : Decimals → List (Option Closing) → (place : ℕ) → List OrderRow → Html
group_tables decimals closings place [] = nothing
group_tables decimals closings place (row ∷ rows) = both (table_of decimals row (closing_at closings place)) (group_tables decimals closings (place + 1) rows)

-- ---- a row worked by hand

two_groups : render (group_rows Two (record { brand = Girocard; count = 4; sum = 3424 } ∷ record { brand = Jcb; count = 0; sum = 0 } ∷ []))
    ≡ codes "<tr><td class=\"ca\">girocard</td><td class=\"n\">4</td><td class=\"n am\">34.24</td></tr>"
unfolding amount_text attribute_text digits end_tag escaped group_row start_tag
two_groups = refl
