-- How amounts of a currency are written.
use Rattle.std.specs.Prelude.{◌≡◌, ℕ, ◌==◌, Option, Some, None, find, map, option_map, codes, refl, List, [], ◌∷◌}
use Rattle.zvt_report.specs.declared.currencies.Decimals.{Decimals}
use Rattle.zvt_report.specs.declared.currencies.Decimals.TheVariants.{Zero, Two, Three}
use Rattle.zvt_report.specs.declared.currencies.Money.{Money}
use Rattle.zvt_report.specs.declared.currencies.TheConstants.{CURRENCIES}

-- the known currency with this number
abbrev pub money_of : Option ℕ → Option Money
money_of None = None
money_of (Some number) = find (λ money. money.number == number) CURRENCIES

-- an amount of an unknown currency is written in its smallest unit
unfoldable pub decimals_of : Option Money → Decimals
decimals_of None = Zero
decimals_of (Some money) = money.decimals

-- ---- rows worked by hand

abbrev letters_of : ℕ → Option (List ℕ)
letters_of number = option_map (λ (money : Money). money.letters) (money_of (Some number))

the_euro : letters_of 978 ≡ Some (codes "EUR")
the_euro = refl

the_franc : letters_of 756 ≡ Some (codes "CHF")
the_franc = refl

no_decimals : map (λ number. decimals_of (money_of (Some number))) (978 ∷ 392 ∷ 414 ∷ 999 ∷ []) ≡ Two ∷ Zero ∷ Three ∷ Zero ∷ []
unfolding decimals_of
no_decimals = refl
