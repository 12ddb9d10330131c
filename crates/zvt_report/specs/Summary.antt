-- The summary of a day: what stands, what was taken back, and what is unclear.
use Rattle.std.specs.Prelude.{◌≡◌, ℕ, ◌==◌, cond, Bool, true, false, List, [], ◌∷◌, ◌++◌, codes, length, Option, Some, None, refl}
use Rattle.std.specs.Fmt.{digits}
use Rattle.zvt_till.specs.Marks.{total}
use Rattle.zvt_till.specs.declared.entries.Doubt.{Doubt}
use Rattle.zvt_till.specs.declared.entries.Doubt.TheVariants.{No, Unclear}
use Rattle.zvt_till.specs.declared.entries.Entry.{Entry}
use Rattle.zvt_till.specs.declared.outcomes.Cause.{Cause}
use Rattle.zvt_till.specs.declared.outcomes.Cause.TheVariants.{Line}
use Rattle.zvt_report.specs.Amounts.{amount_column, count_text}
use Rattle.zvt_report.specs.Currencies.{decimals_of, money_of}
use Rattle.zvt_report.specs.Day.{DayValue}
use Rattle.zvt_report.specs.Laws.{booked_total, taken_back}
use Rattle.zvt_report.specs.Sums.{reversed_count, unclear_reversals, unclear_total}
use Rattle.zvt_report.specs.declared.currencies.Money.{Money}

-- the letters of the currency; an amount of an unknown currency is in its smallest unit
unfoldable pub unit_text : Option Money → List ℕ
unit_text None = codes " in the smallest unit of the currency"
unit_text (Some money) = 32 ∷ money.letters

unfoldable pub net_line : Option Money → List Entry → List ℕ
net_line money book = codes "Net total   " ++ amount_column (decimals_of money) [] (total book) ++ unit_text money ++ 10 ∷ []

unfoldable pub booked_line : Option Money → List Entry → List ℕ
booked_line money book = codes "  booked    " ++ amount_column (decimals_of money) [] (booked_total book) ++ codes "  " ++ count_text (length book) (codes "payment") ++ 10 ∷ []

-- the sign of a sum that was taken back
unfoldable pub minus : ℕ → List ℕ
minus units = cond (units == 0) [] (codes "-")

unfoldable pub taken_back_line : Option Money → List Entry → List ℕ
taken_back_line money book =
    codes "  taken back" ++ amount_column (decimals_of money) (minus (taken_back book)) (taken_back book) ++ codes "  " ++ count_text (reversed_count book) (codes "reversal") ++ 10 ∷ []

unfoldable pub unclear_line : Option Money → List Entry → List (ℕ × Cause) → List ℕ
unclear_line money book unclear =
    codes "Unclear     " ++ amount_column (decimals_of money) [] (unclear_total unclear) ++ codes "  " ++ count_text (length unclear) (codes "payment") ++ codes ", "
    ++ count_text (unclear_reversals book) (codes "reversal") ++ 10 ∷ []

-- the net total, the booked payments and the reversals that make it up, and what is in no total
abbrev pub summary_text : Option Money → DayValue → List ℕ
summary_text money books =
    net_line money books.book ++ booked_line money books.book ++ taken_back_line money books.book ++ unclear_line money books.book books.unclear

-- ---- a summary worked by hand

abbrev an_entry : (amount : ℕ) → (reversed : Bool) → Doubt → Entry
an_entry amount reversed doubt = record { amount = amount; trace = 1; receipt = None; reversed = reversed; doubt = doubt }

abbrev a_day : DayValue
a_day =
    record {
      book = an_entry 1234 false No ∷ an_entry 1500 true No ∷ an_entry 2300 false (Unclear Line) ∷ [];
      unclear = (3499, Line) ∷ [];
      orders = [];
    }

in_euros : summary_text (money_of (Some 978)) a_day
    ≡ codes "Net total             35.34 EUR\n" ++ codes "  booked              50.34  3 payments\n" ++ codes "  taken back         -15.00  1 reversal\n"
    ++ codes "Unclear               34.99  1 payment, 1 reversal\n"
unfolding amount_column booked_line count_text decimals_of digits minus net_line taken_back_line unclear_line unit_text
in_euros = refl

in_units : net_line (money_of None) a_day.book ≡ codes "Net total           3534 in the smallest unit of the currency\n"
unfolding amount_column decimals_of digits net_line unit_text
in_units = refl
