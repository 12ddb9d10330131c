-- No trace number appears twice in the book.
use Rattle.std.proofs.Common.{◌≡◌, ℕ, Bool, true, false, cond, ◌||◌, nat_eq, List, [], ◌∷◌, ◌++◌, Option, Some, None, map, fold, refl, sym, ap, subst, ◌∙◌, inl, inr}
use Rattle.std.specs.List.{AllByRecursion, IsDistinct}
use Rattle.std.proofs.lemmas.List.{map_push}
use Rattle.zvt_till.specs.declared.happenings.Happening.{Happening}
use Rattle.zvt_till.specs.declared.happenings.Happening.TheVariants.{Connected, Sent as SentOut, Heard as HeardIn, Malformed, Lost}
use Rattle.zvt_till.specs.declared.messages.Heard.TheVariants.{Positive, Negative, Status, Passing, Completion, Abort, Strange}
use Rattle.zvt_till.specs.declared.orders.Order.{Order}
use Rattle.zvt_till.specs.declared.orders.Order.TheVariants.{Register, Pay, Reverse, CloseDay, Cancel}
use Rattle.zvt_till.specs.declared.statuses.Statuses.{Statuses}
use Rattle.zvt_till.specs.declared.statuses.Statuses.TheVariants.{Nothing, Good, Declining, Fault}
use Rattle.zvt_till.specs.declared.entries.Doubt.TheVariants.{No}
use Rattle.zvt_till.specs.declared.entries.Entry.{Entry}
use Rattle.zvt_till.specs.declared.outcomes.Cause.TheVariants.{TraceUsed}
use Rattle.zvt_till.specs.declared.outcomes.Outcome.{Outcome}
use Rattle.zvt_till.specs.declared.outcomes.Outcome.TheVariants.{Paid, Refused, Aborted, Unclear}
use Rattle.zvt_till.specs.Outcomes.{trace_used, payment_outcome, broken_outcome, outcome_by}
use Rattle.zvt_till.specs.Books.{Booked}
use Rattle.zvt_till.specs.Till.{TillState, step, new_till, book_after}
use Rattle.zvt_till.specs.Laws.{trace_of, row_of, TracesStayDistinct}
use Rattle.zvt_till.proofs.BookStepLemmas.{BookStep, book-step, reversed-rows}

abbrev AreApart : List Entry → Type 0
AreApart book = IsDistinct nat_eq (map trace_of book)

or-parts : (a b : Bool) → (a || b) ≡ false → (a ≡ false) × (b ≡ false)
or-parts true b e = absurd cc
or-parts false b e = (refl, e)

-- one more number, which stands nowhere

apart-push : (x : ℕ) (ts : List ℕ) (t : ℕ) → AllByRecursion (λ y. nat_eq x y ≡ false) ts → nat_eq x t ≡ false → AllByRecursion (λ y. nat_eq x y ≡ false) (ts ++ t ∷ [])
apart-push x [] t d n = (n, tt)
apart-push x (y ∷ ts) t d n = (d.0, apart-push x ts t d.1 n)

distinct-push : (book : List Entry) (t : ℕ) → AreApart book → trace_used t book ≡ false → IsDistinct nat_eq (map trace_of book ++ t ∷ [])
unfolding IsDistinct
distinct-push [] t d u = (tt, tt)
distinct-push (e ∷ book) t d u =
    let parts = or-parts (nat_eq e.trace t) (trace_used t book) u in (apart-push e.trace (map trace_of book) t d.0 parts.0, distinct-push book t d.1 parts.1)

abbrev booked : ℕ → ℕ → Option (List ℕ) → Entry
booked a t r = record { amount = a; trace = t; receipt = r; reversed = false; doubt = No }

paid-apart : (book : List Entry) (a t : ℕ) (r : Option (List ℕ)) → AreApart book → (used : Bool) → trace_used t book ≡ used
    → AreApart (book_after book (Pay a) (cond used (Unclear TraceUsed) (Paid t r)))
paid-apart book a t r d true u = d
paid-apart book a t r d false u = subst (λ ts. IsDistinct nat_eq ts) (sym (map_push trace_of book (booked a t r))) (distinct-push book t d u)

completed-apart : (book : List Entry) (a : ℕ) (st : Statuses) → AreApart book → AreApart (book_after book (Pay a) (payment_outcome book st))
completed-apart book a Nothing d = d
completed-apart book a (Good None r) d = d
completed-apart book a (Good (Some t) r) d = paid-apart book a t r d (trace_used t book) refl
completed-apart book a (Declining c) d = d
completed-apart book a (Fault x) d = d

broken-apart : (book : List Entry) (a : ℕ) (st : Statuses) (out : Outcome) → AreApart (book_after book (Pay a) out) → AreApart book → AreApart (book_after book (Pay a) (broken_outcome st out))
broken-apart book a Nothing out k d = k
broken-apart book a (Good t r) out k d = d
broken-apart book a (Declining c) out k d = k
broken-apart book a (Fault x) out k d = d

payment-apart : (book : List Entry) (a : ℕ) (st : Statuses) (h : Happening) → AreApart book → AreApart (book_after book (Pay a) (outcome_by book (Pay a) st h))
payment-apart book a st Connected d = d
payment-apart book a st (SentOut o) d = d
payment-apart book a st (HeardIn Positive) d = d
payment-apart book a st (HeardIn (Negative c)) d = broken-apart book a st (Refused c) d d
payment-apart book a st (HeardIn (Status f)) d = d
payment-apart book a st (HeardIn Passing) d = d
payment-apart book a st (HeardIn Completion) d = completed-apart book a st d
payment-apart book a st (HeardIn (Abort c)) d = broken-apart book a st (Aborted c) d d
payment-apart book a st (HeardIn Strange) d = d
payment-apart book a st Malformed d = d
payment-apart book a st Lost d = d

same_traces : (book : List Entry) → map (λ (row : Booked). row.trace) (map row_of book) ≡ map trace_of book
same_traces [] = refl
same_traces (e ∷ book) = ap (λ ts. e.trace ∷ ts) (same_traces book)

reversal-apart : (book : List Entry) (i : ℕ) (out : Outcome) → AreApart book → AreApart (book_after book (Reverse i) out)
reversal-apart book i out d =
    subst (λ ts. IsDistinct nat_eq ts)
    (sym (same_traces book) ∙ ap (map (λ (row : Booked). row.trace)) (sym (reversed-rows book i out)) ∙ same_traces (book_after book (Reverse i) out)) d

ended-apart : (book : List Entry) (o : Order) (st : Statuses) (h : Happening) → AreApart book → AreApart (book_after book o (outcome_by book o st h))
ended-apart book Register st h d = d
ended-apart book (Pay a) st h d = payment-apart book a st h d
ended-apart book (Reverse i) st h d = reversal-apart book i (outcome_by book (Reverse i) st h) d
ended-apart book CloseDay st h d = d
ended-apart book Cancel st h d = d

step-apart : (s : TillState) (h : Happening) (book : List Entry) → BookStep s h book → AreApart s.book → AreApart book
step-apart s h book (inl e) d = subst (λ x. AreApart x) (sym e) d
step-apart s h book (inr w) d = subst (λ x. AreApart x) (sym w.1) (ended-apart s.book w.0.order w.0.statuses h d)

run-apart : (s : TillState) (log : List Happening) → AreApart s.book → AreApart (fold step s log).book
run-apart s [] d = d
run-apart s (h ∷ log) d = run-apart (step s h) log (step-apart s h (step s h).book (book-step s h) d)

pub traces_stay_distinct : TracesStayDistinct
unfolding IsDistinct
traces_stay_distinct settings log = run-apart (new_till settings) log tt
