-- The one currency of what was noticed.
use Rattle.std.proofs.Common.{◌≡◌, ℕ, Bool, true, false, cond, nat_eq, ◌&&◌, List, [], ◌∷◌, Option, Some, None, refl}
use Rattle.std.specs.List.{cons_option, list_all}
use Rattle.zvt_audit.specs.Currencies.{agreed, chosen, named_after, one_currency}
use Rattle.zvt_audit.specs.declared.currencies.NamedCurrency.{NamedCurrency}
use Rattle.zvt_audit.specs.declared.currencies.NamedCurrency.TheVariants.{Absent, Single, Mixed}

-- what is noticed by these currencies, one after another
abbrev pub after_all : NamedCurrency → List ℕ → NamedCurrency
after_all named [] = named
after_all named (currency ∷ more) = after_all (chosen named currency) more

pub one_more : (named : NamedCurrency) (first : Option ℕ) (more : List ℕ) → after_all (named_after named first) more ≡ after_all named (cons_option first more)
one_more named None more = refl
one_more named (Some currency) more = refl

mixed_stays : (more : List ℕ) → agreed (after_all Mixed more) ≡ None
mixed_stays [] = refl
mixed_stays (currency ∷ more) = mixed_stays more

single_agreed : (first : ℕ) (more : List ℕ) → agreed (after_all (Single first) more) ≡ cond (list_all (nat_eq first) more) (Some first) None
single_agreed first [] = refl
single_agreed first (currency ∷ more) = by (nat_eq first currency) (single_agreed first more)
  where
    by : (same : Bool) → agreed (after_all (Single first) more) ≡ cond (list_all (nat_eq first) more) (Some first) None → agreed (after_all (cond same (Single first) Mixed) more) ≡ cond (same && list_all (nat_eq first) more) (Some first) None
    by true later = later
    by false later = mixed_stays more

pub all_agreed : (currencies : List ℕ) → agreed (after_all Absent currencies) ≡ one_currency currencies
all_agreed [] = refl
all_agreed (currency ∷ more) = single_agreed currency more
