-- What the simulated terminal's answer decides.
use Rattle.std.proofs.Common.{arith, ◌≡◌, ℕ, ◌+◌, ◌<◌, Bool, true, false, not, cond, ◌&&◌, nat_eq, List, [], ◌∷◌, ◌++◌, length, Option, Some, None, option_map, refl, ap, ◌∙◌}
use Rattle.std.specs.List.{list_any}
use Rattle.std.specs.Option.{option_eq}
use Rattle.std.specs.Str.{bytes_eq}
use Rattle.std.proofs.lemmas.Bool.Decides.{Decides-eqb}
use Rattle.std.proofs.lemmas.Slice.Eq.{bytes_eq-Decides}
use Rattle.zvt_apdu.specs.Briefs.{digits}
use Rattle.zvt_till.specs.declared.messages.StatusFacts.{StatusFacts}
use Rattle.zvt_till.specs.declared.messages.Original.{Original}
use Rattle.zvt_till.specs.declared.messages.Original.TheVariants.{Absent, Once, Many}
use Rattle.zvt_till.specs.declared.messages.CurrencyFact.{CurrencyFact}
use Rattle.zvt_till.specs.declared.messages.CurrencyFact.TheVariants.{Absent as NoCurrency, Once as OneCurrency, Many as ManyCurrencies}
use Rattle.zvt_till.specs.Books.{booked_as}
use Rattle.zvt_till.specs.Outcomes.{charged}
use Rattle.zvt_till.specs.Statuses.{approves}
use Rattle.zvt_term.specs.declared.ledger.Row.{Row}
use Rattle.zvt_term.specs.Ledger.{NumberedFrom}
use Rattle.zvt_settle.specs.declared.deciding.Settlement.TheVariants.{Paid}
use Rattle.zvt_settle.specs.declared.deciding.What.TheVariants.{Payment}
use Rattle.zvt_settle.specs.Deciding.{same, same_flags, same_original, same_currency, did_not, paid_as, happened}
use Rattle.zvt_term.specs.AskedWorld.{payment_row}
use Rattle.zvt_term.specs.Ledgers.{status_of_row, AreOfRows, SameLedgerDecides, OnePaymentDecides}
use Rattle.zvt_settle.proofs.Sameness.{same_is}

-- ---- each status has the same values as itself

own-number : (x : Option ℕ) → option_eq nat_eq x x ≡ true
own-number None = refl
own-number (Some a) = (Decides-eqb a a).1 refl

own-receipt : (x : Option (List ℕ)) → option_eq bytes_eq x x ≡ true
own-receipt None = refl
own-receipt (Some a) = (bytes_eq-Decides a a).1 refl

own-original : (x : Original) → same_original x x ≡ true
own-original Absent = refl
own-original (Once a) = (bytes_eq-Decides a a).1 refl
own-original Many = refl

own-currency : (x : CurrencyFact) → same_currency x x ≡ true
own-currency NoCurrency = refl
own-currency (OneCurrency a) = (Decides-eqb a a).1 refl
own-currency ManyCurrencies = refl

own-flag : (x : Bool) → same_flags x x ≡ true
own-flag true = refl
own-flag false = refl

all-true : (a b c d e f g : Bool) → a ≡ true → b ≡ true → c ≡ true → d ≡ true → e ≡ true → f ≡ true → g ≡ true → (a && b && c && d && e && f && g) ≡ true
all-true true true true true true true true p q r s t u v = refl
all-true true true true true true true false p q r s t u v = absurd cc
all-true true true true true true false g p q r s t u v = absurd cc
all-true true true true true false f g p q r s t u v = absurd cc
all-true true true true false e f g p q r s t u v = absurd cc
all-true true true false d e f g p q r s t u v = absurd cc
all-true true false c d e f g p q r s t u v = absurd cc
all-true false b c d e f g p q r s t u v = absurd cc

pub same-self : (s : StatusFacts) → same s s ≡ true
same-self s =
    all-true (option_eq nat_eq s.result s.result) (same_flags s.has_result s.has_result) (option_eq nat_eq s.amount s.amount) (option_eq nat_eq s.trace s.trace) (option_eq bytes_eq s.receipt s.receipt) (same_original s.original s.original) (same_currency s.currency s.currency)
    (own-number s.result) (own-flag s.has_result) (own-number s.amount) (own-number s.trace) (own-receipt s.receipt) (own-original s.original) (own-currency s.currency)

pub same_ledger_decides : SameLedgerDecides
same_ledger_decides currency book used last what =
    ap (λ b. cond b (Some (did_not what)) (happened currency book used what (status_of_row last))) (same-self (status_of_row last))

-- ---- one more row

pub last-number : (n : ℕ) (rows : List Row) (last : Row) → NumberedFrom n (rows ++ last ∷ []) → last.number + 1 ≡ n + length (rows ++ last ∷ [])
last-number n [] last h = let e = h.0 in omega arith
last-number n (row ∷ rows) last h = let e = last-number (n + 1) rows last h.1 in omega arith

abbrev pub trace-of : Option ℕ → ℕ
trace-of None = 0
trace-of (Some n) = n

differs : (last : Row) (amount next currency : ℕ) → last.number < next → (b : Bool) → same (status_of_row last) (status_of_row (payment_row next amount currency)) ≡ b → b ≡ false
differs last amount next currency h false e = refl
differs last amount next currency h true e =
    let traces : last.number ≡ next = ap (λ (s : StatusFacts). trace-of s.trace) (same_is (status_of_row last) (status_of_row (payment_row next amount currency)) e) in absurd (omega arith)

five-true : (a b c d e : Bool) → a ≡ true → b ≡ true → c ≡ true → d ≡ true → e ≡ true → (a && b && c && d && e) ≡ true
five-true true true true true true p q r s t = refl
five-true true true true true false p q r s t = absurd cc
five-true true true true false e p q r s t = absurd cc
five-true true true false d e p q r s t = absurd cc
five-true true false c d e p q r s t = absurd cc
five-true false b c d e p q r s t = absurd cc

row-approves : (next amount currency : ℕ) → approves (charged (Some currency) amount) next (status_of_row (payment_row next amount currency)) ≡ true
row-approves next amount currency =
    five-true true true (nat_eq currency currency) (nat_eq amount amount) (nat_eq next next) refl refl ((Decides-eqb currency currency).1 refl) ((Decides-eqb amount amount).1 refl) ((Decides-eqb next next).1 refl)

fresh-next : (used : List ℕ) (ledger : List Row) (next : ℕ) → AreOfRows used ledger → length ledger < next → (b : Bool) → list_any (λ x. nat_eq x next) used ≡ b → b ≡ false
fresh-next used ledger next k h false e = refl
fresh-next used ledger next k h true e = let small = k next e in absurd (omega arith)

earned-next : (used : List ℕ) (place amount next currency : ℕ) (receipt : Option (List ℕ)) (b c : Bool) → b ≡ true → c ≡ false
    → option_map (paid_as place) (cond ((b && true) && not c) (Some (booked_as amount next receipt)) None) ≡ Some (Paid place next receipt)
earned-next used place amount next currency receipt true false p q = refl
earned-next used place amount next currency receipt true true p q = absurd cc
earned-next used place amount next currency receipt false c p q = absurd cc

pub one_payment_decides : OnePaymentDecides
one_payment_decides currency book used rows last place amount next numbered rows-only is-next =
    let ended = last-number 1 rows last numbered in
    let s = status_of_row (payment_row next amount currency) in
    ap (λ b. cond b (Some (did_not (Payment place amount))) (happened currency book used (Payment place amount) s))
    (differs last amount next currency (omega arith) (same (status_of_row last) s) refl)
    ∙ earned-next used place amount next currency (Some (digits 2 next)) (approves (charged (Some currency) amount) next s) (list_any (λ x. nat_eq x next) used)
    (row-approves next amount currency) (fresh-next used (rows ++ last ∷ []) next rows-only (omega arith) (list_any (λ x. nat_eq x next) used) refl)
