-- The sum of the net totals of several reports.
use Rattle.std.specs.Prelude.{◌≡◌, ℕ, min, nat_eq, Bool, false, cond, List, [], ◌∷◌, Option, Some, None, sum_by, refl}
use Rattle.std.specs.List.{list_all}
use Rattle.zvt_till.specs.Marks.{total}
use Rattle.zvt_till.specs.declared.entries.Entry.{Entry}
use Rattle.zvt_report.specs.declared.net_sum.Net.{Net}

abbrev pub net_of : (currency : Option ℕ) → (book : List Entry) → Net
net_of currency book = record { currency = currency; units = total book }

abbrev pub is_in : (currency : ℕ) → Net → Bool
is_in currency net = elim net.currency [ None ↦ false | Some own ↦ nat_eq own currency ]

-- at most what 128 bits hold
abbrev pub all_units : List Net → ℕ
all_units nets = min (sum_by (λ (net : Net). net.units) nets) 340282366920938463463374607431768211455

abbrev pub are_in : (currency : ℕ) → List Net → Bool
are_in currency nets = list_all (is_in currency) nets

-- the sum, if all are in this currency
abbrev pub summed : (currency : ℕ) → List Net → Option Net
summed currency nets = cond (are_in currency nets) (Some (record { currency = Some currency; units = all_units nets })) None

abbrev pub summed_in : (currency : Option ℕ) → List Net → Option Net
summed_in None nets = None
summed_in (Some currency) nets = summed currency nets

-- the sum of two at least in one currency
abbrev pub sum_of : List Net → Option Net
sum_of [] = None
sum_of (net ∷ []) = None
sum_of (first ∷ second ∷ later) = summed_in first.currency (first ∷ second ∷ later)

-- ---- rows worked by hand

abbrev net : (currency : Option ℕ) → (units : ℕ) → Net
net currency units = record { currency = currency; units = units }

of_one : sum_of (net (Some 978) 500 ∷ []) ≡ None
of_one = refl

of_three : sum_of (net (Some 978) 500 ∷ net (Some 978) 0 ∷ net (Some 978) 1234 ∷ []) ≡ Some (net (Some 978) 1734)
of_three = refl

of_two_currencies : sum_of (net (Some 978) 500 ∷ net (Some 978) 0 ∷ net (Some 756) 1234 ∷ []) ≡ None
of_two_currencies = refl

of_no_currency : sum_of (net None 500 ∷ net None 500 ∷ []) ≡ None
of_no_currency = refl

of_one_unknown : sum_of (net (Some 978) 500 ∷ net None 500 ∷ []) ≡ None
of_one_unknown = refl
