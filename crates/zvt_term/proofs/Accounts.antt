-- What the till has still to hear of its order, and how that accounts for each approval.
use Rattle.std.proofs.Common.{◌≡◌, ℕ, zero, suc, ◌+◌, ◌≤◌, ◌⊎◌, inl, inr, Bool, true, false, cond, ◌==◌, List, [], ◌∷◌, ◌++◌, Option, Some, None, filter, sum_by, refl, sym, ap, ◌∙◌, slice_get, slice_set, arith}
use Rattle.std.proofs.lemmas.List.Sums.{sum_by_push, sum_by-cons}
use Rattle.zvt_till.specs.declared.happenings.Happening.TheVariants.{Heard as HeardIn, Lost}
use Rattle.zvt_till.specs.declared.messages.Heard.{Heard}
use Rattle.zvt_till.specs.declared.messages.Heard.TheVariants.{Positive, Negative, Status, Completion, Abort}
use Rattle.zvt_till.specs.declared.messages.CurrencyFact.{CurrencyFact}
use Rattle.zvt_till.specs.declared.statuses.Statuses.{Statuses}
use Rattle.zvt_till.specs.declared.statuses.Statuses.TheVariants.{Good as AllGood, Fault}
use Rattle.zvt_till.specs.declared.statuses.Running.{Running}
use Rattle.zvt_till.specs.declared.statuses.Demand.TheVariants.{Payment}
use Rattle.zvt_till.specs.declared.entries.Doubt.TheVariants.{No}
use Rattle.zvt_till.specs.declared.entries.Entry.{Entry}
use Rattle.zvt_till.specs.declared.outcomes.Cause.{Cause}
use Rattle.zvt_till.specs.declared.outcomes.Cause.TheVariants.{TraceUsed}
use Rattle.zvt_till.specs.declared.orders.Order.{Order}
use Rattle.zvt_till.specs.declared.orders.Order.TheVariants.{Register as RegisterOrder, Pay as PayOrder, Reverse as ReverseOrder, CloseDay as CloseDayOrder, Cancel as CancelOrder}
use Rattle.zvt_till.specs.declared.outcomes.Outcome.{Outcome}
use Rattle.zvt_till.specs.declared.outcomes.Outcome.TheVariants.{Paid, Refused as RefusedOutcome, Aborted, Unclear as UnclearOutcome}
use Rattle.zvt_till.specs.Books.{Booked}
use Rattle.zvt_till.specs.Outcomes.{charged, note, trace_used, payment_outcome, broken_outcome, outcome_by}
use Rattle.zvt_till.specs.Till.{entry_after, book_after, unclear_after}
use Rattle.zvt_till.proofs.BookStepLemmas.{same-row}
use Rattle.zvt_term.specs.declared.messages.Asked.{Asked}
use Rattle.zvt_term.specs.declared.messages.Asked.TheVariants.{Authorisation, AbortOrder, Answer}
use Rattle.zvt_term.specs.declared.ledger.Row.{Row}
use Rattle.zvt_term.specs.Orderly.{approves_amount, approvals, entries_of_amount, unclear_of_amount, pays_amount, running_of_amount}

-- what is on the way, without what decides nothing: of the till's messages the orders, of the terminal's all but the positive answers

abbrev pub is_order : Asked → Bool
is_order AbortOrder = false
is_order Answer = false
is_order m = true

abbrev pub orders_in : List Asked → List Asked
orders_in q = filter is_order q

abbrev pub is_word : Heard → Bool
is_word Positive = false
is_word m = true

abbrev pub words : List Heard → List Heard
words ms = filter is_word ms

-- the sums

abbrev pub asks_amount : ℕ → Asked → ℕ
asks_amount b (Authorisation (Some a) named) = cond (a == b) 1 0
asks_amount b m = 0

abbrev pub on_the_way : ℕ → List Asked → ℕ
on_the_way b q = sum_by (asks_amount b) q

pub on_the_way-first : (b : ℕ) (m : Asked) (q : List Asked) → on_the_way b (orders_in (m ∷ q)) ≡ asks_amount b m + on_the_way b (orders_in q)
on_the_way-first b AbortOrder q = omega arith
on_the_way-first b Answer q = omega arith
on_the_way-first b m q = sum_by-cons (asks_amount b) m (orders_in q)

pub approvals-push : (b : ℕ) (l : List Row) (row : Row) → approvals b (l ++ row ∷ []) ≡ approvals b l + cond (approves_amount b row) 1 0
approvals-push b l row = sum_by_push (λ r. cond (approves_amount b r) 1 0) l row

entries-push : (b : ℕ) (book : List Entry) (e : Entry) → entries_of_amount b (book ++ e ∷ []) ≡ entries_of_amount b book + cond (e.amount == b) 1 0
entries-push b book e = sum_by_push (λ (x : Entry). cond (x.amount == b) 1 0) book e

unclear-push : (b : ℕ) (u : List (ℕ × Cause)) (row : ℕ × Cause) → unclear_of_amount b (u ++ row ∷ []) ≡ unclear_of_amount b u + cond (row.0 == b) 1 0
unclear-push b u row = sum_by_push (λ (x : ℕ × Cause). cond (x.0 == b) 1 0) u row

entries-set : (b : ℕ) (book : List Entry) (i : ℕ) (row v : Entry) → slice_get book i ≡ Some row → v.amount ≡ row.amount → entries_of_amount b (slice_set book i v) ≡ entries_of_amount b book
entries-set b [] i row v e q = absurd cc
entries-set b (x ∷ book) zero row v e q =
    let same : x ≡ row = cc in
    let f : Entry → ℕ = λ (y : Entry). cond (y.amount == b) 1 0 in
    let amounts : v.amount ≡ x.amount = q ∙ ap (λ (y : Entry). y.amount) (sym same) in
    sum_by-cons f v book ∙ ap (λ (n : ℕ). cond (n == b) 1 0 + sum_by f book) amounts ∙ sym (sum_by-cons f x book)
entries-set b (x ∷ book) (suc i) row v e q =
    let f : Entry → ℕ = λ (y : Entry). cond (y.amount == b) 1 0 in
    sum_by-cons f x (slice_set book i v) ∙ ap (λ (n : ℕ). f x + n) (entries-set b book i row v e q) ∙ sym (sum_by-cons f x book)

-- a reversal leaves the amounts, however it ends
entries-reversed : (b : ℕ) (book : List Entry) (i : ℕ) (out : Outcome) → entries_of_amount b (book_after book (ReverseOrder i) out) ≡ entries_of_amount b book
entries-reversed b book i out = by_entry (slice_get book i) refl
  where
    by_entry : (o : Option Entry) → slice_get book i ≡ o
        → entries_of_amount b (elim o as (λ x. List Entry) [ None ↦ book | Some row ↦ slice_set book i (entry_after row out) ]) ≡ entries_of_amount b book
    by_entry None e = refl
    by_entry (Some row) e = entries-set b book i row (entry_after row out) e (ap (λ (x : Booked). x.amount) (same-row row out))

-- what holds of the numbers, with a payment running and without

abbrev pub Accounts : List Row → List Asked → List Entry → List (ℕ × Cause) → Option Running → Type 0
Accounts l asked book u run =
    (b : ℕ) → approvals b l + on_the_way b asked ≤ entries_of_amount b book + unclear_of_amount b u + running_of_amount b run

-- all is accounted for even without the running payment
abbrev pub Covered : List Row → List Asked → List Entry → List (ℕ × Cause) → Type 0
Covered l asked book u = (b : ℕ) → approvals b l + on_the_way b asked ≤ entries_of_amount b book + unclear_of_amount b u

-- what the till has still to hear of its order

-- nothing comes after an end
abbrev pub EndsLast : List Heard → Type 0
EndsLast [] = Unit {0}
EndsLast (Negative c ∷ r) = r ≡ []
EndsLast (Completion ∷ r) = r ≡ []
EndsLast (Abort c ∷ r) = r ≡ []
EndsLast (m ∷ r) = EndsLast r

-- statuses after which no end passes for a payment that did not happen
abbrev pub IsClaimed : Statuses → Type 0
IsClaimed (AllGood t r) = Unit {0}
IsClaimed (Fault x) = Unit {0}
IsClaimed st = ⊥

-- each end among these leaves an entry or an unclear payment, whatever currency is in force
abbrev pub Keeps : ℕ → Statuses → List Heard → Type 0
Keeps a st [] = Unit {0}
Keeps a st (Status f ∷ r) = (currency : Option ℕ) → Keeps a (note (Some (Payment (charged currency a))) st f) r
Keeps a st (Negative c ∷ r) = IsClaimed st
Keeps a st (Completion ∷ r) = IsClaimed st
Keeps a st (Abort c ∷ r) = IsClaimed st
Keeps a st (m ∷ r) = Keeps a st r

-- a payment that was decided: it was not approved, or its approval will be seen
abbrev pub Pledges : List Row → List Asked → List Entry → List (ℕ × Cause) → Order → Statuses → List Heard → Type 0
Pledges l asked book u (PayOrder a) st rest = Covered l asked book u ⊎ Keeps a st rest
Pledges l asked book u o st rest = Unit {0}

-- the message that asks for this order, as far as payments go
abbrev pub Fits : Order → Asked → Type 0
Fits (PayOrder a) m = (named : CurrencyFact) × (m ≡ Authorisation (Some a) named)
Fits o m = Unit {0}

-- an order that runs is still on its way to the terminal, or was taken up there
pub data Stage (l : List Row) (asked : List Asked) (book : List Entry) (u : List (ℕ × Cause)) (r : Running) (rest : List Heard) : Type 0 where
  Asking : (m : Asked) → asked ≡ m ∷ [] → Fits r.order m → rest ≡ [] → Stage l asked book u r rest
  TakenUp : asked ≡ [] → EndsLast rest → Pledges l asked book u r.order r.statuses rest → Stage l asked book u r rest

abbrev pub Dialogue : List Row → List Asked → List Entry → List (ℕ × Cause) → Option Running → List Heard → Type 0
Dialogue l asked book u None rest = (asked ≡ []) × (rest ≡ [])
Dialogue l asked book u (Some r) rest = Stage l asked book u r rest

-- the end of an order

abbrev pub Leaves : Outcome → Type 0
Leaves (Paid t r) = Unit {0}
Leaves (UnclearOutcome x) = Unit {0}
Leaves out = ⊥

abbrev pub Closes : List Row → List Asked → List Entry → List (ℕ × Cause) → Order → Outcome → Type 0
Closes l asked book u (PayOrder a) out = Covered l asked book u ⊎ Leaves out
Closes l asked book u o out = Unit {0}

payment-closed : (l : List Row) (asked : List Asked) (book : List Entry) (u : List (ℕ × Cause)) (a : ℕ) (out : Outcome)
    → ((b : ℕ) → approvals b l + on_the_way b asked ≤ entries_of_amount b book + unclear_of_amount b u + cond (a == b) 1 0) → Leaves out
    → Covered l asked (book_after book (PayOrder a) out) (unclear_after u (PayOrder a) out)
payment-closed l asked book u a (Paid t r) h k = λ b. let e = entries-push b book (record { amount = a; trace = t; receipt = r; reversed = false; doubt = No }) in let n = h b in omega (arith, e, n)
payment-closed l asked book u a (UnclearOutcome x) h k = λ b. let e = unclear-push b u (a, x) in let n = h b in omega (arith, e, n)
payment-closed l asked book u a out h k = absurd k

covered-closed : (l : List Row) (asked : List Asked) (book : List Entry) (u : List (ℕ × Cause)) (a : ℕ) (out : Outcome) → Covered l asked book u
    → Covered l asked (book_after book (PayOrder a) out) (unclear_after u (PayOrder a) out)
covered-closed l asked book u a (Paid t r) h = λ b. let e = entries-push b book (record { amount = a; trace = t; receipt = r; reversed = false; doubt = No }) in let n = h b in omega (arith, e, n)
covered-closed l asked book u a (UnclearOutcome x) h = λ b. let e = unclear-push b u (a, x) in let n = h b in omega (arith, e, n)
covered-closed l asked book u a out h = h

reversal-closed : (l : List Row) (asked : List Asked) (book : List Entry) (u : List (ℕ × Cause)) (i : ℕ) (out : Outcome) → Covered l asked book u
    → Covered l asked (book_after book (ReverseOrder i) out) (unclear_after u (ReverseOrder i) out)
reversal-closed l asked book u i out h = λ b. let e = entries-reversed b book i out in let n = h b in omega (arith, e, n)

pub unpaid : (l : List Row) (asked : List Asked) (book : List Entry) (u : List (ℕ × Cause)) → ((b : ℕ) → approvals b l + on_the_way b asked ≤ entries_of_amount b book + unclear_of_amount b u + 0)
    → Covered l asked book u
unpaid l asked book u h = λ b. let n = h b in omega (arith, n)

pub order-closed : (l : List Row) (asked : List Asked) (book : List Entry) (u : List (ℕ × Cause)) (o : Order) (out : Outcome)
    → ((b : ℕ) → approvals b l + on_the_way b asked ≤ entries_of_amount b book + unclear_of_amount b u + pays_amount b o) → Closes l asked book u o out
    → Covered l asked (book_after book o out) (unclear_after u o out)
order-closed l asked book u RegisterOrder out h k = unpaid l asked book u h
order-closed l asked book u (PayOrder a) out h (inl covered) = covered-closed l asked book u a out covered
order-closed l asked book u (PayOrder a) out h (inr leaves) = payment-closed l asked book u a out h leaves
order-closed l asked book u (ReverseOrder i) out h k = reversal-closed l asked book u i out (unpaid l asked book u h)
order-closed l asked book u CloseDayOrder out h k = unpaid l asked book u h
order-closed l asked book u CancelOrder out h k = unpaid l asked book u h

pub with_none : (l : List Row) (asked : List Asked) (book : List Entry) (u : List (ℕ × Cause)) → Covered l asked book u → Accounts l asked book u None
with_none l asked book u h = λ b. let n = h b in omega (arith, n)

-- which ends leave an entry or an unclear payment

claimed-completion : (book : List Entry) (st : Statuses) → IsClaimed st → Leaves (payment_outcome book st)
claimed-completion book (AllGood None r) k = tt
claimed-completion book (AllGood (Some t) r) k = by_trace (trace_used t book)
  where
    by_trace : (b : Bool) → Leaves (cond b (UnclearOutcome TraceUsed) (Paid t r))
    by_trace true = tt
    by_trace false = tt
claimed-completion book (Fault x) k = tt
claimed-completion book st k = absurd k

claimed-break : (st : Statuses) (out : Outcome) → IsClaimed st → Leaves (broken_outcome st out)
claimed-break (AllGood t r) out k = tt
claimed-break (Fault x) out k = tt
claimed-break st out k = absurd k

pub completion-closes : (l : List Row) (asked : List Asked) (book : List Entry) (u : List (ℕ × Cause)) (o : Order) (st : Statuses) (r : List Heard)
    → Pledges l asked book u o st (Completion ∷ r) → Closes l asked book u o (outcome_by book o st (HeardIn Completion))
completion-closes l asked book u (PayOrder a) st r (inl covered) = inl covered
completion-closes l asked book u (PayOrder a) st r (inr keeps) = inr (claimed-completion book st keeps)
completion-closes l asked book u o st r p = tt

pub abort-closes : (l : List Row) (asked : List Asked) (book : List Entry) (u : List (ℕ × Cause)) (o : Order) (st : Statuses) (c : ℕ) (r : List Heard)
    → Pledges l asked book u o st (Abort c ∷ r) → Closes l asked book u o (outcome_by book o st (HeardIn (Abort c)))
abort-closes l asked book u (PayOrder a) st c r (inl covered) = inl covered
abort-closes l asked book u (PayOrder a) st c r (inr keeps) = inr (claimed-break st (Aborted c) keeps)
abort-closes l asked book u o st c r p = tt

pub negative-closes : (l : List Row) (asked : List Asked) (book : List Entry) (u : List (ℕ × Cause)) (o : Order) (st : Statuses) (c : ℕ) (r : List Heard)
    → Pledges l asked book u o st (Negative c ∷ r) → Closes l asked book u o (outcome_by book o st (HeardIn (Negative c)))
negative-closes l asked book u (PayOrder a) st c r (inl covered) = inl covered
negative-closes l asked book u (PayOrder a) st c r (inr keeps) = inr (claimed-break st (RefusedOutcome c) keeps)
negative-closes l asked book u o st c r p = tt

-- a loss leaves each payment unclear
pub loss-closes : (l : List Row) (asked : List Asked) (book : List Entry) (u : List (ℕ × Cause)) (o : Order) (st : Statuses) → Closes l asked book u o (outcome_by book o st Lost)
loss-closes l asked book u (PayOrder a) st = inr tt
loss-closes l asked book u o st = tt
