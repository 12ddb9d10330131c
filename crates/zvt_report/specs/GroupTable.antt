-- The totals by card of an end of day, as text.
use Rattle.std.specs.Prelude.{◌≡◌, ℕ, cond, List, [], ◌∷◌, ◌++◌, codes, Option, Some, None, refl}
use Rattle.std.specs.Fmt.{decimal, digits}
use Rattle.std.specs.List.{flat_map, list_any}
use Rattle.zvt_report.specs.Amounts.{amount_column}
use Rattle.zvt_report.specs.CardTotals.{brand_name, is_used}
use Rattle.zvt_report.specs.Columns.{left_aligned, right_aligned}
use Rattle.zvt_report.specs.declared.card_totals.CardBrand.TheVariants.{Girocard, Jcb, AmericanExpress}
use Rattle.zvt_report.specs.declared.card_totals.CardGroup.{CardGroup}
use Rattle.zvt_report.specs.declared.card_totals.CardTotals.{CardTotals}
use Rattle.zvt_report.specs.declared.currencies.Decimals.{Decimals}
use Rattle.zvt_report.specs.declared.currencies.Decimals.TheVariants.{Two}

unfoldable pub group_line : Decimals → CardGroup → List ℕ
group_line decimals group =
    codes "  " ++ left_aligned 18 (brand_name group.brand) ++ right_aligned 5 (decimal group.count) ++ amount_column decimals [] group.sum ++ 10 ∷ []

abbrev pub line_if_used : Decimals → CardGroup → List ℕ
line_if_used decimals group = cond (is_used group) (group_line decimals group) []

abbrev pub group_lines : Decimals → List CardGroup → List ℕ
group_lines decimals groups = flat_map (line_if_used decimals) groups

unfoldable pub headed_lines : Decimals → List CardGroup → List ℕ
headed_lines decimals groups = codes "\n  Terminal by card  Count         Amount\n" ++ group_lines decimals groups

-- a heading and a line for each group that has a payment or a sum; nothing if no group has
abbrev pub groups_table : Decimals → List CardGroup → List ℕ
groups_table decimals groups = cond (list_any is_used groups) (headed_lines decimals groups) []

unfoldable pub groups_part : Decimals → Option CardTotals → List ℕ
groups_part decimals None = []
groups_part decimals (Some totals) = groups_table decimals totals.groups

-- ---- rows worked by hand

abbrev some_totals : (count sum : ℕ) → Option CardTotals
some_totals count sum =
    Some (record {
      first = 0x00 ∷ 0x05 ∷ [];
      last = 0x00 ∷ 0x15 ∷ [];
      groups = record { brand = Girocard; count = count; sum = sum } ∷ record { brand = Jcb; count = 0; sum = 0 } ∷ record { brand = AmericanExpress; count = count; sum = 0 } ∷ [];
    })

two_groups : groups_part Two (some_totals 12 3424)
    ≡ codes "\n  Terminal by card  Count         Amount\n" ++ codes "  girocard             12          34.24\n" ++ codes "  American Express     12           0.00\n"
unfolding amount_column digits group_line groups_part headed_lines
two_groups = refl

no_group : groups_part Two (some_totals 0 0) ≡ []
unfolding groups_part
no_group = refl
