-- Amounts as text.
use Rattle.std.specs.Prelude.{◌≡◌, ℕ, ◌==◌, ◌/◌, ◌%◌, List, [], ◌∷◌, ◌++◌, codes, if◌then◌else◌, refl}
use Rattle.std.specs.Fmt.{decimal, digits}
use Rattle.zvt_text.specs.Numbers.{zero_padded}
use Rattle.zvt_report.specs.Columns.{right_aligned}
use Rattle.zvt_report.specs.declared.currencies.Decimals.{Decimals}
use Rattle.zvt_report.specs.declared.currencies.Decimals.TheVariants.{Zero, Two, Three}

-- the number before the point, of an amount in the smallest unit
abbrev pub whole : Decimals → ℕ → ℕ
whole Zero units = units
whole Two units = units / 100
whole Three units = units / 1000

-- the point and the digits after it
abbrev pub fraction : Decimals → ℕ → List ℕ
fraction Zero units = []
fraction Two units = 46 ∷ zero_padded 2 (units % 100)
fraction Three units = 46 ∷ zero_padded 3 (units % 1000)

unfoldable pub amount_text : Decimals → ℕ → List ℕ
amount_text decimals units = decimal (whole decimals units) ++ fraction decimals units

-- in a column, aligned by the point; the digits of every amount have room before it
unfoldable pub amount_column : Decimals → (sign : List ℕ) → ℕ → List ℕ
amount_column decimals sign units = right_aligned 12 (sign ++ decimal (whole decimals units)) ++ fraction decimals units

-- a number of things
unfoldable pub count_text : ℕ → (word : List ℕ) → List ℕ
count_text count word = decimal count ++ 32 ∷ word ++ (if count == 1 then [] else codes "s")

-- ---- rows worked by hand

cents : amount_text Two 123405 ≡ codes "1234.05"
unfolding amount_text digits
cents = refl

below_one : amount_text Two 7 ≡ codes "0.07"
unfolding amount_text digits
below_one = refl

no_fraction : amount_text Zero 1234 ≡ codes "1234"
unfolding amount_text digits
no_fraction = refl

thousandths : amount_text Three 1234 ≡ codes "1.234"
unfolding amount_text digits
thousandths = refl

aligned : amount_column Two (codes "-") 1500 ≡ codes "         -15.00"
unfolding amount_column digits
aligned = refl

one_payment : count_text 1 (codes "payment") ++ count_text 12 (codes "payment") ≡ codes "1 payment12 payments"
unfolding count_text digits
one_payment = refl
