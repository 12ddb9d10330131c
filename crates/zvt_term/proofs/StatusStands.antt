-- What a status of the terminal does to an order of the till. For the proof that settlements agree with the ledger.
use Rattle.std.proofs.Common.{◌≡◌, ℕ, Bool, true, false, cond, ◌==◌, List, Option, Some, None, map, slice_get, option_map, refl, sym, subst, ◌∙◌}
use Rattle.std.proofs.lemmas.Option.{slice_get-map}
use Rattle.zvt_apdu.specs.Briefs.{digits}
use Rattle.zvt_till.specs.declared.entries.Entry.{Entry}
use Rattle.zvt_till.specs.declared.messages.StatusFacts.{StatusFacts}
use Rattle.zvt_till.specs.declared.orders.Order.{Order}
use Rattle.zvt_till.specs.declared.orders.Order.TheVariants.{Register, Pay, Reverse, CloseDay, Cancel}
use Rattle.zvt_till.specs.declared.outcomes.Cause.{Cause}
use Rattle.zvt_till.specs.declared.outcomes.Cause.TheVariants.{AmountDiffers, NoTrace, WrongCurrency}
use Rattle.zvt_till.specs.declared.settings.Rules.{Rules}
use Rattle.zvt_till.specs.declared.statuses.Class.{Class}
use Rattle.zvt_till.specs.declared.statuses.Class.TheVariants.{Good, Declining, Doubtful}
use Rattle.zvt_till.specs.declared.statuses.Demand.TheVariants.{Payment as PaymentDemand, Reversal as ReversalDemand}
use Rattle.zvt_till.specs.declared.statuses.Statuses.{Statuses}
use Rattle.zvt_till.specs.declared.statuses.Statuses.TheVariants.{Nothing as NoStatuses, Good as AllGood, Declining as AllDeclining, Fault}
use Rattle.zvt_till.specs.Books.{Booked}
use Rattle.zvt_till.specs.ByReceipt.{sole_receipt}
use Rattle.zvt_till.specs.Laws.{row_of}
use Rattle.zvt_till.specs.Outcomes.{charged, demand_of, note, note_class}
use Rattle.zvt_till.specs.Statuses.{is_value, is_in_currency, names, is_by_receipt, class_of}
use Rattle.zvt_term.specs.declared.ledger.Row.{Row}
use Rattle.zvt_term.proofs.Facts.{code_status}
use Rattle.zvt_term.specs.AskedWorld.{payment_row}
use Rattle.zvt_term.specs.Ledgers.{status_of_row, reversal_row}
use Rattle.zvt_term.proofs.Standing.{RowFor, Claims, NotGood}
use Rattle.zvt_term.proofs.TillStands.{Pays}

abbrev NoGood : Class → Type 0
NoGood (Good t) = ⊥
NoGood (Declining c) = Unit {0}
NoGood (Doubtful x) = Unit {0}

not-good-note : (st : Statuses) (c : Class) (r : Option (List ℕ)) → NotGood st → NoGood c → NotGood (note_class st c r)
not-good-note NoStatuses (Good t) r n k = absurd k
not-good-note NoStatuses (Declining c) r n k = tt
not-good-note NoStatuses (Doubtful x) r n k = tt
not-good-note (AllGood t q) c r n k = absurd n
not-good-note (AllDeclining d) (Good t) r n k = tt
not-good-note (AllDeclining d) (Declining c) r n k = tt
not-good-note (AllDeclining d) (Doubtful x) r n k = tt
not-good-note (Fault y) (Good t) r n k = tt
not-good-note (Fault y) (Declining c) r n k = tt
not-good-note (Fault y) (Doubtful x) r n k = tt

code-class : (code : ℕ) → NoGood (cond (code == 0) (Doubtful AmountDiffers) (Declining code))
code-class code = by_code (code == 0)
  where
    by_code : (b : Bool) → NoGood (cond b (Doubtful AmountDiffers) (Declining code))
    by_code true = tt
    by_code false = tt

-- a status with a code alone is good for no payment and no reversal
pub code-note : (rules : Rules) (currency : Option ℕ) (book : List Entry) (loose : List (ℕ × Cause)) (o : Order) (st : Statuses) (code : ℕ) → Pays o → NotGood st
    → NotGood (note (demand_of rules currency book loose o) st (code_status code))
code-note rules currency book loose (Pay a) st code pays n = not-good-note st (class_of (PaymentDemand (charged currency a)) (code_status code)) None n (code-class code)
code-note rules currency book loose (Reverse e) st code pays n = by_entry (slice_get book e)
  where
    by_entry : (x : Option Entry) → NotGood (note (option_map (λ row. ReversalDemand (charged currency row.amount) row.trace (sole_receipt rules.reversal_by_receipt book loose row)) x) st (code_status code))
    by_entry None = n
    by_entry (Some row) =
        not-good-note st (class_of (ReversalDemand (charged currency row.amount) row.trace (sole_receipt rules.reversal_by_receipt book loose row)) (code_status code)) None n (code-class code)
code-note rules currency book loose o st code pays n = absurd pays

payment-claims : (currency : Option ℕ) (a : ℕ) (row : Row) (own : ℕ) → row ≡ payment_row row.number a own
    → Claims (Pay a) row (note_class NoStatuses (class_of (PaymentDemand (charged currency a)) (status_of_row row)) (Some (digits 2 row.number)))
payment-claims currency a row own is =
    subst (λ (r : Row). Claims (Pay a) r (note_class NoStatuses (class_of (PaymentDemand (charged currency a)) (status_of_row r)) (Some (digits 2 r.number)))) (sym is)
    (by_tests row.number (is_in_currency currency (status_of_row (payment_row row.number a own)).currency) (is_value (Some a) a))
  where
    by_tests : (n : ℕ) (same_currency same_amount : Bool)
        → Claims (Pay a) (payment_row n a own) (note_class NoStatuses (cond same_currency (cond same_amount (Good (Some n)) (Doubtful AmountDiffers)) (Doubtful WrongCurrency)) (Some (digits 2 n)))
    by_tests n true true = (refl, refl)
    by_tests n true false = tt
    by_tests n false same_amount = tt

reversal-claims : (currency : Option ℕ) (x : Entry) (sole : Option (List ℕ)) (e : ℕ) (row : Row) (b : Booked) (own : ℕ) → row ≡ reversal_row row.number b.amount b.trace own
    → Claims (Reverse e) row (note_class NoStatuses (class_of (ReversalDemand (charged currency x.amount) x.trace sole) (status_of_row row)) (Some (digits 2 row.number)))
reversal-claims currency x sole e row b own is =
    subst (λ (r : Row). Claims (Reverse e) r (note_class NoStatuses (class_of (ReversalDemand (charged currency x.amount) x.trace sole) (status_of_row r)) (Some (digits 2 r.number)))) (sym is)
    (let f : StatusFacts = status_of_row (reversal_row row.number b.amount b.trace own) in
    by_tests (reversal_row row.number b.amount b.trace own) (is_in_currency currency f.currency) (is_value f.amount x.amount) (names f.original x.trace) (is_by_receipt sole f.original f.receipt) (Some (digits 2 row.number)))
  where
    by_tests : (r : Row) (same_currency same_amount named other : Bool) (receipt : Option (List ℕ))
        → Claims (Reverse e) r (note_class NoStatuses (cond same_currency (cond same_amount (cond named (Good None) (cond other (Good None) (Doubtful NoTrace))) (Doubtful AmountDiffers)) (Doubtful WrongCurrency)) receipt)
    by_tests r true true true other receipt = tt
    by_tests r true true false true receipt = tt
    by_tests r true true false false receipt = tt
    by_tests r true false named other receipt = tt
    by_tests r false same_amount named other receipt = tt

pub found-entry : (book : List Entry) (e : ℕ) (b : Booked) → slice_get (map row_of book) e ≡ Some b → (x : Entry) × (slice_get book e ≡ Some x) × (row_of x ≡ b)
found-entry book e b found = by_entry (slice_get book e) refl (sym (slice_get-map row_of book e) ∙ found)
  where
    by_entry : (o : Option Entry) → slice_get book e ≡ o → option_map row_of o ≡ Some b → (x : Entry) × (slice_get book e ≡ Some x) × (row_of x ≡ b)
    by_entry None is q = absurd cc
    by_entry (Some x) is q = (x, is, cc)

-- the status of its row is never taken for a decline of the order
pub row-note : (rules : Rules) (currency : Option ℕ) (book : List Entry) (loose : List (ℕ × Cause)) (o : Order) (row : Row) (own : ℕ) → RowFor own (map row_of book) o row
    → Claims o row (note (demand_of rules currency book loose o) NoStatuses (status_of_row row))
row-note rules currency book loose Register row own is = absurd is
row-note rules currency book loose (Pay a) row own is = payment-claims currency a row own is
row-note rules currency book loose (Reverse e) row own is =
    let w = found-entry book e is.0 is.1 in
    subst (λ o. Claims (Reverse e) row (note (option_map (λ (x : Entry). ReversalDemand (charged currency x.amount) x.trace (sole_receipt rules.reversal_by_receipt book loose x)) o) NoStatuses (status_of_row row))) (sym w.1)
    (reversal-claims currency w.0 (sole_receipt rules.reversal_by_receipt book loose w.0) e row is.0 own is.2)
row-note rules currency book loose CloseDay row own is = absurd is
row-note rules currency book loose Cancel row own is = absurd is
