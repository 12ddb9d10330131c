-- What fields say of a currency that is not among them.
use Rattle.std.proofs.Common.{◌≡◌, ◌∙◌, ℕ, ◌==◌, cond, Some, None, List, [], filter, option_and_then, refl}
use Rattle.std.specs.Option.{option_map}
use Rattle.std.proofs.lemmas.List.{nil_from_length}
use Rattle.std.proofs.lemmas.List.Sums.{length-filter}
use Rattle.zvt_bcd.specs.Digits.{number_of}
use Rattle.zvt_field.specs.Grammar.{Field}
use Rattle.zvt_field.specs.Named.{bytes_of, count_of, is_named, sole}
use Rattle.zvt_till.specs.Hearing.{currency_in}
use Rattle.zvt_till.specs.declared.messages.CurrencyFact.TheVariants.{Absent as NoCurrency, Once as OneCurrency, Many as ManyCurrencies}

none_named : (bmp : ℕ) (fields : List Field) → count_of bmp fields ≡ 0 → filter (is_named bmp) fields ≡ []
none_named bmp fields none = nil_from_length (filter (is_named bmp) fields) (length-filter (is_named bmp) fields ∙ none)

no_currency_in : (named : List Field) (n : ℕ) → named ≡ [] → n ≡ 0
    → NoCurrency ≡ elim (option_map number_of (option_and_then bytes_of (sole named))) [ None ↦ cond (n == 0) NoCurrency ManyCurrencies | Some currency ↦ OneCurrency currency ]
no_currency_in named n none zero = rw (none, zero) refl

pub no_currency : (fields : List Field) → count_of 0x49 fields ≡ 0 → NoCurrency ≡ currency_in fields
no_currency fields none = no_currency_in (filter (is_named 0x49) fields) (count_of 0x49 fields) (none_named 0x49 fields none) none
