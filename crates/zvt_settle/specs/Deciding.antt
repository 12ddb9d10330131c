-- What an answer of the terminal decides, by the definitions of the till's book.
use Rattle.std.specs.Prelude.{ℕ, ◌==◌, Bool, true, false, not, cond, ◌&&◌, nat_eq, List, [], ◌∷◌, Option, Some, None, slice_get, option_map}
use Rattle.std.specs.Option.{option_eq}
use Rattle.std.specs.Str.{bytes_eq}
use Rattle.zvt_till.specs.declared.entries.Entry.{Entry}
use Rattle.zvt_till.specs.declared.happenings.Sent.TheVariants.{Reverse}
use Rattle.zvt_till.specs.declared.messages.StatusFacts.{StatusFacts}
use Rattle.zvt_till.specs.declared.messages.Original.{Original}
use Rattle.zvt_till.specs.declared.messages.Original.TheVariants.{Absent, Once, Many}
use Rattle.zvt_till.specs.declared.messages.CurrencyFact.{CurrencyFact}
use Rattle.zvt_till.specs.declared.messages.CurrencyFact.TheVariants.{Absent as NoCurrency, Once as OneCurrency, Many as ManyCurrencies}
use Rattle.zvt_till.specs.Books.{Booked, earned}
use Rattle.zvt_till.specs.Laws.{row_of}
use Rattle.zvt_till.specs.Marks.{takes_back}
use Rattle.zvt_till.specs.Outcomes.{charged}
use Rattle.zvt_till.specs.Segments.{Opening}
use Rattle.zvt_till.specs.Statuses.{approves, is_value, is_in_currency, names}
use Rattle.zvt_settle.specs.declared.deciding.Pending.{Pending}
use Rattle.zvt_settle.specs.declared.deciding.Settlement.{Settlement}
use Rattle.zvt_settle.specs.declared.deciding.Settlement.TheVariants.{Paid, NotPaid, Reversed, NotReversed}
use Rattle.zvt_settle.specs.declared.deciding.StatusSoFar.{StatusSoFar}
use Rattle.zvt_settle.specs.declared.deciding.StatusSoFar.TheVariants.{Nothing, One, Mixed}
use Rattle.zvt_settle.specs.declared.deciding.What.{What}
use Rattle.zvt_settle.specs.declared.deciding.What.TheVariants.{Payment, Reversal}

abbrev pub same_original : Original → Original → Bool
same_original Absent Absent = true
same_original Absent (Once y) = false
same_original Absent Many = false
same_original (Once x) Absent = false
same_original (Once x) (Once y) = bytes_eq x y
same_original (Once x) Many = false
same_original Many Absent = false
same_original Many (Once y) = false
same_original Many Many = true

abbrev pub same_currency : CurrencyFact → CurrencyFact → Bool
same_currency NoCurrency NoCurrency = true
same_currency NoCurrency (OneCurrency y) = false
same_currency NoCurrency ManyCurrencies = false
same_currency (OneCurrency x) NoCurrency = false
same_currency (OneCurrency x) (OneCurrency y) = x == y
same_currency (OneCurrency x) ManyCurrencies = false
same_currency ManyCurrencies NoCurrency = false
same_currency ManyCurrencies (OneCurrency y) = false
same_currency ManyCurrencies ManyCurrencies = true

abbrev pub same_flags : Bool → Bool → Bool
same_flags a b = cond a b (not b)

-- two statuses have the same values
abbrev pub same : StatusFacts → StatusFacts → Bool
same a b =
    option_eq nat_eq a.result b.result && same_flags a.has_result b.has_result && option_eq nat_eq a.amount b.amount && option_eq nat_eq a.trace b.trace && option_eq bytes_eq a.receipt b.receipt
    && same_original a.original b.original && same_currency a.currency b.currency

-- after one more status
abbrev pub status_after : StatusSoFar → StatusFacts → StatusSoFar
status_after Nothing s = One s
status_after (One first) s = cond (same first s) (One first) Mixed
status_after Mixed s = Mixed

-- the status, if it names a trace number: without one it could belong to any transaction
abbrev pub if_numbered : StatusFacts → Option StatusFacts
if_numbered s = elim s.trace [ None ↦ None | Some t ↦ Some s ]

-- the status, if there is only one
abbrev pub one_status : StatusSoFar → Option StatusFacts
one_status Nothing = None
one_status (One s) = if_numbered s
one_status Mixed = None

-- the trace number under which a status approves a payment of the amount
abbrev pub approved_as : (currency amount : ℕ) → StatusFacts → Option ℕ
approved_as currency amount s = elim s.trace [ None ↦ None | Some t ↦ cond (approves (charged (Some currency) amount) t s) (Some t) None ]

-- a status reverses the payment with this amount and trace number
abbrev pub reverses_as : (currency amount trace : ℕ) → StatusFacts → Bool
reverses_as currency amount trace s = is_value s.result 0 && is_in_currency (Some currency) s.currency && is_value s.amount amount && names s.original trace

-- the settlement of an order that did not happen
abbrev pub did_not : What → Settlement
did_not (Payment row amount) = NotPaid row
did_not (Reversal entry) = NotReversed entry

abbrev pub paid_as : ℕ → Booked → Settlement
paid_as row b = Paid row b.trace b.receipt

abbrev pub reversing : (currency entry : ℕ) → Opening
reversing currency entry = record { order = Reverse entry; currency = Some currency; sole = None }

abbrev pub taken_back : (currency : ℕ) → List StatusFacts → ℕ → Option Entry → Option Settlement
taken_back currency ss entry None = None
taken_back currency ss entry (Some row) = cond (takes_back (reversing currency entry) (row_of row) ss) (Some (Reversed entry)) None

-- a new answer settles the payment that it would have booked, or the reversal that it would have completed
abbrev pub happened : (currency : ℕ) → List Entry → (used : List ℕ) → What → StatusFacts → Option Settlement
happened currency book used (Payment row amount) s = option_map (paid_as row) (earned (charged (Some currency) amount) used (s ∷ []))
happened currency book used (Reversal entry) s = taken_back currency (s ∷ []) entry (slice_get book entry)

-- If the answer is the one from before the order, the order did not happen.
abbrev pub decision : (currency : ℕ) → List Entry → (used : List ℕ) → Pending → StatusFacts → Option Settlement
decision currency book used pending s = cond (same pending.before s) (Some (did_not pending.what)) (happened currency book used pending.what s)
