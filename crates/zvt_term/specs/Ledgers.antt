-- What the simulated terminal's answer decides, by its ledger before the order and its ledger at the answer.
use Rattle.std.specs.Prelude.{◌≡◌, ℕ, ◌+◌, ◌≤◌, true, nat_eq, List, [], ◌∷◌, ◌++◌, length, Option, Some, None, slice_get}
use Rattle.std.specs.List.{list_any}
use Rattle.zvt_apdu.specs.Briefs.{digits}
use Rattle.zvt_till.specs.declared.entries.Entry.{Entry}
use Rattle.zvt_till.specs.declared.messages.StatusFacts.{StatusFacts}
use Rattle.zvt_till.specs.declared.messages.Original.TheVariants.{Absent, Once}
use Rattle.zvt_till.specs.declared.messages.CurrencyFact.{CurrencyFact}
use Rattle.zvt_till.specs.declared.messages.CurrencyFact.TheVariants.{Absent as NoCurrency, Once as OneCurrency}
use Rattle.zvt_term.specs.declared.ledger.Row.{Row}
use Rattle.zvt_term.specs.Ledger.{NumberedFrom}
use Rattle.zvt_settle.specs.declared.deciding.Settlement.TheVariants.{Paid, Reversed}
use Rattle.zvt_settle.specs.declared.deciding.What.{What}
use Rattle.zvt_settle.specs.declared.deciding.What.TheVariants.{Payment, Reversal}
use Rattle.zvt_settle.specs.Deciding.{decision, did_not}
use Rattle.zvt_term.specs.AskedWorld.{payment_row}

abbrev pub currency_fact : Option ℕ → CurrencyFact
currency_fact None = NoCurrency
currency_fact (Some currency) = OneCurrency currency

-- the values of a row's status
abbrev pub status_of_row : Row → StatusFacts
status_of_row row =
    record {
      result = Some 0;
      has_result = true;
      amount = Some row.amount;
      trace = Some row.number;
      receipt = Some (digits 2 row.number);
      original = elim row.reverses [ None ↦ Absent | Some original ↦ Once (digits 3 original) ];
      currency = currency_fact row.currency;
    }

-- each used number is the number of a row
abbrev pub AreOfRows : List ℕ → List Row → Type 0
AreOfRows used ledger = (t : ℕ) → list_any (λ x. nat_eq x t) used ≡ true → t ≤ length ledger

-- If the ledger did not grow, its last row answers as before, and the order did not happen.
abbrev pub SameLedgerDecides : Type 0
SameLedgerDecides =
    (currency : ℕ) (book : List Entry) (used : List ℕ) (last : Row) (what : What)
    → decision currency book used (record { what = what; before = status_of_row last }) (status_of_row last) ≡ Some (did_not what)

-- If the ledger grew by an approval of the amount, the payment happened, under the number of that row.
abbrev pub OnePaymentDecides : Type 0
OnePaymentDecides =
    (currency : ℕ) (book : List Entry) (used : List ℕ) (rows : List Row) (last : Row) (place amount next : ℕ)
    → NumberedFrom 1 (rows ++ last ∷ []) → AreOfRows used (rows ++ last ∷ []) → next ≡ length (rows ++ last ∷ []) + 1
    → decision currency book used (record { what = Payment place amount; before = status_of_row last }) (status_of_row (payment_row next amount currency))
    ≡ Some (Paid place next (Some (digits 2 next)))

abbrev pub reversal_row : (number amount original currency : ℕ) → Row
reversal_row number amount original currency = record { number = number; amount = amount; currency = Some currency; reverses = Some original }

-- If the ledger grew by a row that reverses the entry, the reversal happened.
abbrev pub OneReversalDecides : Type 0
OneReversalDecides =
    (currency : ℕ) (book : List Entry) (used : List ℕ) (rows : List Row) (last : Row) (place next : ℕ) (entry : Entry)
    → NumberedFrom 1 (rows ++ last ∷ []) → next ≡ length (rows ++ last ∷ []) + 1 → slice_get book place ≡ Some entry → entry.trace ≤ 9999
    → decision currency book used (record { what = Reversal place; before = status_of_row last }) (status_of_row (reversal_row next entry.amount entry.trace currency)) ≡ Some (Reversed place)
