-- The ends of day that closed a day, as text.
use Rattle.std.specs.Prelude.{◌≡◌, ℕ, ◌+◌, ◌-◌, ◌==◌, nat_le, cond, List, [], ◌∷◌, ◌++◌, codes, Option, Some, None, slice_get, refl}
use Rattle.std.specs.Fmt.{decimal, digits}
use Rattle.hex.specs.Hex.{encode_upper, encode_with}
use Rattle.zvt_till.specs.declared.happenings.Sent.TheVariants.{CloseDay}
use Rattle.zvt_till.specs.declared.outcomes.Outcome.TheVariants.{DayClosed}
use Rattle.zvt_report.specs.Amounts.{amount_column}
use Rattle.zvt_report.specs.Differing.{closing_at}
use Rattle.zvt_report.specs.GroupTable.{groups_part}
use Rattle.zvt_report.specs.Times.{time_first}
use Rattle.zvt_report.specs.LookList.{lines_part}
use Rattle.zvt_report.specs.declared.card_totals.CardTotals.{CardTotals}
use Rattle.zvt_report.specs.declared.closings.Closing.{Closing}
use Rattle.zvt_report.specs.declared.currencies.Decimals.{Decimals}
use Rattle.zvt_report.specs.declared.currencies.Decimals.TheVariants.{Two as Cents}
use Rattle.zvt_report.specs.declared.explaining.Explained.{Explained}
use Rattle.zvt_report.specs.declared.explaining.Explained.TheVariants.{Nothing, Empty, One, Two, Three, Several}
use Rattle.zvt_report.specs.declared.rows.OrderRow.{OrderRow}

-- a sum less another one, in a column
unfoldable pub difference_column : Decimals → (more less : ℕ) → List ℕ
difference_column decimals more less =
    cond (nat_le less more) (amount_column decimals [] (more - less)) (amount_column decimals (codes "-") (less - more))

unfoldable pub receipts_part : Option CardTotals → List ℕ
receipts_part None = []
receipts_part (Some totals) = codes "  receipts " ++ encode_upper totals.first ++ codes " to " ++ encode_upper totals.last

-- the total that the terminal states
unfoldable pub terminal_line : Decimals → Option CardTotals → Option ℕ → List ℕ
terminal_line decimals totals None = []
terminal_line decimals totals (Some stated) = codes "  terminal  " ++ amount_column decimals [] stated ++ receipts_part totals ++ 10 ∷ []

-- what was booked less what was taken back
unfoldable pub book_line : Decimals → (booked taken_back : ℕ) → List ℕ
book_line decimals booked taken_back = codes "  book      " ++ difference_column decimals booked taken_back ++ 10 ∷ []

unfoldable pub differs_line : Decimals → (booked : ℕ) → (covered : Option ℕ) → List ℕ
differs_line decimals booked None = []
differs_line decimals booked (Some covered) = cond (covered == booked) [] (codes "  differs   " ++ difference_column decimals covered booked ++ 10 ∷ [])

-- the line at which the order with this index begins
abbrev pub line_of : List OrderRow → (order : ℕ) → ℕ
line_of rows order = elim (slice_get rows order) [ None ↦ 0 | Some row ↦ row.first ]

abbrev pub one_order : (a : ℕ) → List ℕ
one_order a = codes "  explained by the order of line " ++ decimal a ++ codes "\n"

abbrev pub two_orders : (a b : ℕ) → List ℕ
two_orders a b = codes "  explained by the orders of lines " ++ decimal a ++ codes " and " ++ decimal b ++ codes "\n"

abbrev pub three_orders : (a b c : ℕ) → List ℕ
three_orders a b c = codes "  explained by the orders of lines " ++ decimal a ++ codes ", " ++ decimal b ++ codes " and " ++ decimal c ++ codes "\n"

abbrev pub explained_line : List OrderRow → Explained → List ℕ
explained_line rows Nothing = []
explained_line rows Empty = []
explained_line rows (One a) = one_order (line_of rows a)
explained_line rows (Two a b) = two_orders (line_of rows a) (line_of rows b)
explained_line rows (Three a b c) = three_orders (line_of rows a) (line_of rows b) (line_of rows c)
explained_line rows Several = []

unfoldable pub closing_text : Decimals → (all : List OrderRow) → OrderRow → Closing → List ℕ
closing_text decimals all row closing =
    codes "\nEnd of day" ++ lines_part row ++ terminal_line decimals closing.totals closing.stated
    ++ book_line decimals closing.booked closing.taken_back ++ differs_line decimals closing.booked closing.covered ++ explained_line all closing.explained

unfoldable pub closing_if : Decimals → (all : List OrderRow) → OrderRow → Option Closing → List ℕ
closing_if decimals all row None = []
closing_if decimals all row (Some closing) = closing_text decimals all row closing ++ groups_part decimals closing.totals

-- the ends of day among these rows; the first row has this place among all
abbrev pub closings_from : Decimals → List (Option Closing) → (all : List OrderRow) → (place : ℕ) → List OrderRow → List ℕ
closings_from decimals closings all place [] = []
closings_from decimals closings all place (row ∷ rows) = closing_if decimals all row (closing_at closings place) ++ closings_from decimals closings all (place + 1) rows

abbrev pub closings_text : Decimals → List (Option Closing) → List OrderRow → List ℕ
closings_text decimals closings rows = closings_from decimals closings rows 0 rows

-- ---- rows worked by hand

abbrev a_close : OrderRow
a_close = record { order = CloseDay; first = 346; last = 366; outcome = DayClosed; approval = None; time = None; card = None }

abbrev a_closing : (booked taken_back : ℕ) → Closing
a_closing booked taken_back =
    record {
      stated = Some 17212;
      totals = Some (record { first = 0x00 ∷ 0x05 ∷ []; last = 0x00 ∷ 0x15 ∷ []; groups = [] });
      booked = booked;
      taken_back = taken_back;
      covered = Some (17212 + taken_back);
      explained = Two 0 1;
    }

differs : closings_text Cents (Some (a_closing 15713 1500) ∷ []) (a_close ∷ [])
    ≡ codes "\nEnd of day (lines 346-366)\n" ++ codes "  terminal           172.12  receipts 0005 to 0015\n"
    ++ codes "  book               142.13\n" ++ codes "  differs             29.99\n" ++ codes "  explained by the orders of lines 346 and 0\n"
unfolding amount_column book_line closing_if closing_text difference_column differs_line digits encode_with groups_part lines_part receipts_part terminal_line time_first
differs = refl

agrees : closings_text Cents (None ∷ Some (record (a_closing 17212 0) { explained = Nothing }) ∷ []) (a_close ∷ a_close ∷ [])
    ≡ codes "\nEnd of day (lines 346-366)\n" ++ codes "  terminal           172.12  receipts 0005 to 0015\n" ++ codes "  book               172.12\n"
unfolding amount_column book_line closing_if closing_text difference_column differs_line digits encode_with groups_part lines_part receipts_part terminal_line time_first
agrees = refl
