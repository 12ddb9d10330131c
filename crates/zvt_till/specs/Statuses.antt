-- The meaning of one status under an order, and the combined meaning of an order's statuses.
use Rattle.std.specs.Prelude.{ℕ, Bool, true, false, not, cond, ◌&&◌, ◌==◌, List, [], ◌∷◌, Option, Some, None}
use Rattle.std.specs.List.{list_all, find}
use Rattle.std.specs.Str.{bytes_eq}
use Rattle.zvt_bcd.specs.Digits.{is_digit_pair, number_of}
use Rattle.zvt_till.specs.declared.messages.StatusFacts.{StatusFacts}
use Rattle.zvt_till.specs.declared.messages.Original.{Original}
use Rattle.zvt_till.specs.declared.messages.Original.TheVariants.{Absent, Once, Many}
use Rattle.zvt_till.specs.declared.messages.CurrencyFact.{CurrencyFact}
use Rattle.zvt_till.specs.declared.messages.CurrencyFact.TheVariants.{Absent as NoCurrency, Once as OneCurrency, Many as ManyCurrencies}
use Rattle.zvt_till.specs.declared.outcomes.Cause.{Cause}
use Rattle.zvt_till.specs.declared.outcomes.Cause.TheVariants.{Conflict, AmountDiffers, NoTrace, WrongCurrency}
pub use Rattle.zvt_till.specs.declared.statuses.Charge.{Charge}
pub use Rattle.zvt_till.specs.declared.statuses.Demand.{Demand}
pub use Rattle.zvt_till.specs.declared.statuses.Demand.TheVariants.{Payment, Reversal, Closing}
pub use Rattle.zvt_till.specs.declared.statuses.Class.{Class}
pub use Rattle.zvt_till.specs.declared.statuses.Class.TheVariants.{Good, Declining, Doubtful}

-- the field appears once, with this value
abbrev pub is_value : Option ℕ → ℕ → Bool
is_value None x = false
is_value (Some y) x = y == x

-- digits that spell the number
abbrev pub spells : List ℕ → ℕ → Bool
spells bytes number = list_all is_digit_pair bytes && (number_of bytes == number)

-- no payment is named
abbrev pub is_absent : Original → Bool
is_absent Absent = true
is_absent (Once bytes) = false
is_absent Many = false

-- the payment with this trace number is named, and none else
abbrev pub names : Original → ℕ → Bool
names Absent trace = false
names (Once bytes) trace = spells bytes trace
names Many trace = false

-- no currency is named, or exactly one, which is the currency in force if there is one
abbrev pub is_in_currency : Option ℕ → CurrencyFact → Bool
is_in_currency force NoCurrency = true
is_in_currency force (OneCurrency named) = elim force [ None ↦ true | Some own ↦ named == own ]
is_in_currency force ManyCurrencies = false

-- no payment is named, and one receipt number is, which differs from this one
abbrev pub is_by_receipt : Option (List ℕ) → Original → Option (List ℕ) → Bool
is_by_receipt None original receipt = false
is_by_receipt (Some own) original None = false
is_by_receipt (Some own) original (Some other) = is_absent original && list_all is_digit_pair other && not (bytes_eq other own)

-- an approval of the charge under this trace number: result 0, the amount and the trace number each stand once, no other payment is named, and no other currency
abbrev pub approves : Charge → ℕ → StatusFacts → Bool
approves charge trace s =
    is_value s.result 0 && is_absent s.original && is_in_currency charge.currency s.currency && is_value s.amount charge.amount && is_value s.trace trace

-- the class of a status that declines nothing and names one result
abbrev pub class_undeclined : Demand → StatusFacts → Class
class_undeclined (Payment charge) s =
    cond (is_absent s.original)
    (cond (is_in_currency charge.currency s.currency)
    (cond (is_value s.amount charge.amount) (elim s.trace [ None ↦ Doubtful NoTrace | Some t ↦ Good (Some t) ]) (Doubtful AmountDiffers))
    (Doubtful WrongCurrency))
    (Doubtful Conflict)
class_undeclined (Reversal charge trace sole) s =
    cond (is_in_currency charge.currency s.currency)
    (cond (is_value s.amount charge.amount)
    (cond (names s.original trace) (Good None) (cond (is_by_receipt sole s.original s.receipt) (Good None) (Doubtful NoTrace)))
    (Doubtful AmountDiffers))
    (Doubtful WrongCurrency)
class_undeclined (Closing by_completion) s = Good None

-- the class of a status that does not name one result: an end of day by completion needs none
abbrev pub class_unnamed : Demand → StatusFacts → Class
class_unnamed (Payment charge) s = Doubtful Conflict
class_unnamed (Reversal charge trace sole) s = Doubtful Conflict
class_unnamed (Closing by_completion) s = cond (by_completion && not s.has_result) (Good None) (Doubtful Conflict)

-- one result other than 0 declines, whatever else the status contains
abbrev pub class_by : Option ℕ → Demand → StatusFacts → Class
class_by None d s = class_unnamed d s
class_by (Some code) d s = cond (code == 0) (class_undeclined d s) (Declining code)

abbrev pub class_of : Demand → StatusFacts → Class
class_of d s = class_by s.result d s

-- the same number, or both none
abbrev pub same_trace : Option ℕ → Option ℕ → Bool
same_trace None None = true
same_trace None (Some t) = false
same_trace (Some u) None = false
same_trace (Some u) (Some t) = u == t

-- two classes agree: good under one trace number, or both declining
abbrev pub agrees : Class → Class → Bool
agrees (Good t) (Good u) = same_trace u t
agrees (Good t) (Declining c) = false
agrees (Good t) (Doubtful c) = false
agrees (Declining c) (Declining d) = true
agrees (Declining c) (Good t) = false
agrees (Declining c) (Doubtful d) = false
agrees (Doubtful c) other = false

-- the first status that does not agree with the very first one, which may be that one itself
abbrev pub dissenter : List Class → Option Class
dissenter [] = None
dissenter (c ∷ cs) = find (λ d. not (agrees c d)) (c ∷ cs)

-- the cause that a disagreeing status leads to
abbrev pub objection : Class → Cause
objection (Good t) = Conflict
objection (Declining c) = Conflict
objection (Doubtful cause) = cause

abbrev pub is_declining : Class → Bool
is_declining (Good t) = false
is_declining (Declining c) = true
is_declining (Doubtful c) = false

-- no status, or all declining
abbrev pub is_declined : List Class → Bool
is_declined cs = list_all is_declining cs

-- some status, and all of them good under one trace
abbrev pub is_good : List Class → Bool
is_good [] = false
is_good (Good t ∷ cs) = list_all (λ c. agrees (Good t) c) cs
is_good (Declining d ∷ cs) = false
is_good (Doubtful d ∷ cs) = false
