-- No trace number appears twice in a book that takes one more payment, or in which an entry changes but for its number.
use Rattle.std.proofs.Common.{◌≡◌, ℕ, zero, suc, ◌<◌, ◌≤◌, Bool, true, false, cond, ◌||◌, nat_eq, IfSome, List, [], ◌∷◌, ◌++◌, length, length-append, Option, Some, None, take, set, get_or, slice_get, option_map, arith, refl, sym, ap, subst, ◌∙◌, inl, inr}
use Rattle.std.proofs.lemmas.Bool.{cases_lt}
use Rattle.std.proofs.lemmas.List.{length-set}
use Rattle.zvt_till.specs.declared.happenings.Happening.{Happening}
use Rattle.zvt_till.specs.declared.happenings.Happening.TheVariants.{Connected, Sent as SentOut, Heard as HeardIn, Malformed, Lost}
use Rattle.zvt_till.specs.declared.messages.Heard.TheVariants.{Positive, Negative, Status, Passing, Completion, Abort, Strange}
use Rattle.zvt_till.specs.declared.orders.Order.{Order}
use Rattle.zvt_till.specs.declared.orders.Order.TheVariants.{Register, Pay, Reverse, CloseDay, Cancel}
use Rattle.zvt_till.specs.declared.statuses.Statuses.{Statuses}
use Rattle.zvt_till.specs.declared.statuses.Statuses.TheVariants.{Nothing, Good, Declining, Fault}
use Rattle.zvt_till.specs.declared.entries.Entry.{Entry}
use Rattle.zvt_till.specs.declared.outcomes.Cause.TheVariants.{TraceUsed}
use Rattle.zvt_till.specs.declared.outcomes.Outcome.{Outcome}
use Rattle.zvt_till.specs.declared.outcomes.Outcome.TheVariants.{Paid, Refused, Aborted, Unclear}
use Rattle.zvt_till.specs.Laws.{trace_of}
use Rattle.zvt_till.specs.Outcomes.{trace_used, payment_outcome, reversal_outcome, closing_outcome, completion_outcome, broken_outcome, outcome_by}
use Rattle.zvt_till.specs.Restoring.{OnceBelow}
use Rattle.zvt_till.specs.View.{CanBook}

-- a row as OnceBelow speaks of it
abbrev IsNew : List Entry → Option Entry → Type 0
IsNew before found = IfSome found (λ row. trace_used row.trace before ≡ false)

-- one more payment

prefix-row : (book : List Entry) (row : Entry) (k : ℕ) → k < length book → slice_get (book ++ row ∷ []) k ≡ slice_get book k
prefix-row [] row k below = absurd (omega (arith, below))
prefix-row (x ∷ book) row zero below = refl
prefix-row (x ∷ book) row (suc k) below = prefix-row book row k (omega (arith, below))

last-row : (book : List Entry) (row : Entry) → slice_get (book ++ row ∷ []) (length book) ≡ Some row
last-row [] row = refl
last-row (x ∷ book) row = last-row book row

prefix : (book : List Entry) (row : Entry) (k : ℕ) → k ≤ length book → take k (book ++ row ∷ []) ≡ take k book
prefix [] row zero within = refl
prefix [] row (suc k) within = absurd (omega (arith, within))
prefix (x ∷ book) row zero within = refl
prefix (x ∷ book) row (suc k) within = ap (λ (b : List Entry). x ∷ b) (prefix book row k (omega (arith, within)))

whole : (book : List Entry) → take (length book) book ≡ book
whole [] = refl
whole (x ∷ book) = ap (λ (b : List Entry). x ∷ b) (whole book)

pub once-pushed : (book : List Entry) (row : Entry) → trace_used row.trace book ≡ false → OnceBelow (length book) book → OnceBelow (length (book ++ row ∷ [])) (book ++ row ∷ [])
once-pushed book row unused once k below =
    elim (cases_lt k (length book)) [
      | inl less ↦
          subst (λ (o : Option Entry). IsNew (take k (book ++ row ∷ [])) o) (sym (prefix-row book row k less))
          (subst (λ (b : List Entry). IsNew b (slice_get book k)) (sym (prefix book row k (omega (arith, less)))) (once k less))
      | inr least ↦
          let last : length book ≡ k = omega (arith, below, least, length-append book (row ∷ [])) in
          subst (λ (n : ℕ). IsNew (take n (book ++ row ∷ [])) (slice_get (book ++ row ∷ []) n)) last
          (subst (λ (o : Option Entry). IsNew (take (length book) (book ++ row ∷ [])) o) (sym (last-row book row))
          (ap (λ (b : List Entry). trace_used row.trace b) (prefix book row (length book) (omega arith) ∙ whole book) ∙ unused))
    ]

-- an entry that changes but for its trace number

changed-row : (book : List Entry) (i : ℕ) (row changed : Entry) → i < length book → row ≡ get_or book i row → changed.trace ≡ row.trace → (k : ℕ)
    → option_map trace_of (slice_get (set book i changed) k) ≡ option_map trace_of (slice_get book k)
changed-row [] i row changed within is same k = absurd (omega (arith, within))
changed-row (x ∷ book) zero row changed within is same zero = ap (λ (t : ℕ). Some t) (same ∙ ap trace_of is)
changed-row (x ∷ book) zero row changed within is same (suc k) = refl
changed-row (x ∷ book) (suc i) row changed within is same zero = refl
changed-row (x ∷ book) (suc i) row changed within is same (suc k) = changed-row book i row changed (omega (arith, within)) is same k

changed-prefix : (number : ℕ) (book : List Entry) (i : ℕ) (row changed : Entry) → i < length book → row ≡ get_or book i row → changed.trace ≡ row.trace → (k : ℕ)
    → trace_used number (take k (set book i changed)) ≡ trace_used number (take k book)
changed-prefix number [] i row changed within is same k = absurd (omega (arith, within))
changed-prefix number (x ∷ book) zero row changed within is same zero = refl
changed-prefix number (x ∷ book) zero row changed within is same (suc k) = ap (λ (t : ℕ). nat_eq t number || trace_used number (take k book)) (same ∙ ap trace_of is)
changed-prefix number (x ∷ book) (suc i) row changed within is same zero = refl
changed-prefix number (x ∷ book) (suc i) row changed within is same (suc k) = ap (λ (b : Bool). nat_eq x.trace number || b) (changed-prefix number book i row changed (omega (arith, within)) is same k)

by-trace : (P : ℕ → Type 0) (one other : Option Entry) → option_map trace_of other ≡ option_map trace_of one
    → IfSome one (λ row. P row.trace) → IfSome other (λ row. P row.trace)
by-trace P None None e p = p
by-trace P None (Some y) e p = absurd (cc)
by-trace P (Some x) None e p = absurd (cc)
by-trace P (Some x) (Some y) e p = let same : x.trace ≡ y.trace = cc in subst P same p

if-more : (P Q : ℕ → Type 0) → ((n : ℕ) → P n → Q n) → (found : Option Entry) → IfSome found (λ row. P row.trace) → IfSome found (λ row. Q row.trace)
if-more P Q more None p = p
if-more P Q more (Some x) p = more x.trace p

pub once-changed : (book : List Entry) (i : ℕ) (row changed : Entry) → i < length book → row ≡ get_or book i row → changed.trace ≡ row.trace
    → OnceBelow (length book) book → OnceBelow (length (set book i changed)) (set book i changed)
once-changed book i row changed within is same once k below =
    let small : k < length book = omega (arith, below, length-set book i changed) in
    if-more (λ (t : ℕ). trace_used t (take k book) ≡ false) (λ (t : ℕ). trace_used t (take k (set book i changed)) ≡ false)
    (λ t unused. changed-prefix t book i row changed within is same k ∙ unused) (slice_get (set book i changed) k)
    (by-trace (λ (t : ℕ). trace_used t (take k book) ≡ false) (slice_get book k) (slice_get (set book i changed) k) (changed-row book i row changed within is same k) (once k small))

-- how an order ends: what is booked has a number that was not used

paid-new : (book : List Entry) (t : ℕ) (r : Option (List ℕ)) (used : Bool) → trace_used t book ≡ used → CanBook (cond used (Unclear TraceUsed) (Paid t r)) book
paid-new book t r true u = tt
paid-new book t r false u = u

payment-new : (book : List Entry) (st : Statuses) → CanBook (payment_outcome book st) book
payment-new book Nothing = tt
payment-new book (Good None r) = tt
payment-new book (Good (Some t) r) = paid-new book t r (trace_used t book) refl
payment-new book (Declining c) = tt
payment-new book (Fault x) = tt

reversal-new : (book : List Entry) (st : Statuses) → CanBook (reversal_outcome st) book
reversal-new book Nothing = tt
reversal-new book (Good t r) = tt
reversal-new book (Declining c) = tt
reversal-new book (Fault x) = tt

closing-new : (book : List Entry) (st : Statuses) → CanBook (closing_outcome st) book
closing-new book Nothing = tt
closing-new book (Good t r) = tt
closing-new book (Declining c) = tt
closing-new book (Fault x) = tt

completion-new : (book : List Entry) (o : Order) (st : Statuses) → CanBook (completion_outcome book o st) book
completion-new book Register st = tt
completion-new book (Pay a) st = payment-new book st
completion-new book (Reverse e) st = reversal-new book st
completion-new book CloseDay st = closing-new book st
completion-new book Cancel st = closing-new book st

broken-new : (book : List Entry) (st : Statuses) (out : Outcome) → CanBook out book → CanBook (broken_outcome st out) book
broken-new book Nothing out n = n
broken-new book (Good t r) out n = tt
broken-new book (Declining c) out n = n
broken-new book (Fault x) out n = tt

pub outcome-new : (book : List Entry) (o : Order) (st : Statuses) (h : Happening) → CanBook (outcome_by book o st h) book
outcome-new book o st Connected = tt
outcome-new book o st (SentOut s) = tt
outcome-new book o st (HeardIn Positive) = tt
outcome-new book o st (HeardIn (Negative c)) = broken-new book st (Refused c) tt
outcome-new book o st (HeardIn (Status f)) = tt
outcome-new book o st (HeardIn Passing) = tt
outcome-new book o st (HeardIn Completion) = completion-new book o st
outcome-new book o st (HeardIn (Abort c)) = broken-new book st (Aborted c) tt
outcome-new book o st (HeardIn Strange) = tt
outcome-new book o st Malformed = tt
outcome-new book o st Lost = tt
