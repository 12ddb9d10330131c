-- No trace number counts twice.
use Rattle.std.proofs.Common.{◌≡◌, ℕ, Bool, true, false, not, cond, ◌&&◌, ◌||◌, nat_eq, List, [], ◌∷◌, ◌++◌, Option, Some, None, map, fold, filter, length, option_map, option_to_list, slice_get, refl, sym, ap, subst, ◌∙◌}
use Rattle.std.specs.List.{list_any, list_all, AllByRecursion, IsDistinct}
use Rattle.zvt_till.specs.declared.entries.Entry.{Entry}
use Rattle.zvt_till.specs.declared.happenings.Happening.{Happening}
use Rattle.zvt_till.specs.declared.happenings.Happening.TheVariants.{Connected, Sent as SentOut, Heard as HeardIn, Malformed, Lost}
use Rattle.zvt_till.specs.declared.messages.StatusFacts.{StatusFacts}
use Rattle.zvt_till.specs.declared.orders.Order.{Order}
use Rattle.zvt_till.specs.declared.orders.Order.TheVariants.{Register, Pay, Reverse, CloseDay, Cancel}
use Rattle.zvt_till.specs.declared.outcomes.Outcome.{Outcome}
use Rattle.zvt_till.specs.declared.outcomes.Outcome.TheVariants.{Registered, Paid as PaidOutcome, Declined, Refused, Aborted, Unclear, Reversed as ReversedOutcome, DayClosed}
use Rattle.zvt_till.specs.Books.{booked_as}
use Rattle.zvt_till.specs.Marks.{takes_back}
use Rattle.zvt_till.specs.Statuses.{approves}
use Rattle.zvt_till.specs.Laws.{trace_of, row_of, TracesStayDistinct}
use Rattle.zvt_till.specs.Outcomes.{charged, trace_used}
use Rattle.zvt_till.specs.Segments.{ends, is_positive}
use Rattle.zvt_till.specs.Refusals.{order_in}
use Rattle.zvt_till.specs.Till.{TillState, step, outcome_at}
use Rattle.zvt_settle.specs.declared.deciding.Pending.{Pending}
use Rattle.zvt_settle.specs.declared.deciding.Settlement.{Settlement}
use Rattle.zvt_settle.specs.declared.deciding.Settlement.TheVariants.{Paid, NotPaid, Reversed, NotReversed}
use Rattle.zvt_settle.specs.declared.deciding.What.{What}
use Rattle.zvt_settle.specs.declared.deciding.What.TheVariants.{Payment, Reversal}
use Rattle.zvt_settle.specs.Deciding.{same, did_not, paid_as, reversing, taken_back, happened, decision}
use Rattle.zvt_settle.specs.Settling.{Note, Line, Asked, Settling, Both, noted, new_both, counted, paid_traces, used_traces, standing, sent_if, opened_by, opened, ended, ended_as, answer_by, decided, answered, asked, met, meets, settles, take, both_after}
use Rattle.zvt_settle.specs.Laws.{CountsOnce}

-- ---- lists

-- filter of a longer list
kept : (p : ℕ → Bool) (x : ℕ) (xs : List ℕ) (b : Bool) → p x ≡ b → filter p (x ∷ xs) ≡ cond b (x ∷ filter p xs) (filter p xs)
kept p x xs true e = rw e
kept p x xs false e = rw e

all-kept : (P : ℕ → Type 0) (p : ℕ → Bool) (x : ℕ) (xs : List ℕ) (b : Bool) → P x → AllByRecursion P (filter p xs) → AllByRecursion P (cond b (x ∷ filter p xs) (filter p xs))
all-kept P p x xs true h a = (h, a)
all-kept P p x xs false h a = a

all-filter : (P : ℕ → Type 0) (p : ℕ → Bool) (xs : List ℕ) → AllByRecursion P xs → AllByRecursion P (filter p xs)
all-filter P p [] a = tt
all-filter P p (x ∷ xs) a = subst (AllByRecursion P) (sym (kept p x xs (p x) refl)) (all-kept P p x xs (p x) a.0 (all-filter P p xs a.1))

distinct-kept : (p : ℕ → Bool) (x : ℕ) (xs : List ℕ) (b : Bool) → AllByRecursion (λ y. nat_eq x y ≡ false) (filter p xs) → IsDistinct nat_eq (filter p xs) → IsDistinct nat_eq (cond b (x ∷ filter p xs) (filter p xs))
unfolding IsDistinct
distinct-kept p x xs true h d = (h, d)
distinct-kept p x xs false h d = d

distinct-filter : (p : ℕ → Bool) (xs : List ℕ) → IsDistinct nat_eq xs → IsDistinct nat_eq (filter p xs)
unfolding IsDistinct
distinct-filter p [] d = tt
distinct-filter p (x ∷ xs) d =
    subst (λ ys. IsDistinct nat_eq ys) (sym (kept p x xs (p x) refl)) (distinct-kept p x xs (p x) (all-filter (λ y. nat_eq x y ≡ false) p xs d.0) (distinct-filter p xs d.1))

-- what passes a filter passes its test
so_far-kept : (Q : ℕ → Type 0) (p : ℕ → Bool) (f : (t : ℕ) → p t ≡ true → Q t) (x : ℕ) (xs : List ℕ) (b : Bool) → p x ≡ b → AllByRecursion Q (filter p xs) → AllByRecursion Q (cond b (x ∷ filter p xs) (filter p xs))
so_far-kept Q p f x xs true e a = (f x e, a)
so_far-kept Q p f x xs false e a = a

all-so_far : (Q : ℕ → Type 0) (p : ℕ → Bool) → ((t : ℕ) → p t ≡ true → Q t) → (xs : List ℕ) → AllByRecursion Q (filter p xs)
all-so_far Q p f [] = tt
all-so_far Q p f (x ∷ xs) = subst (AllByRecursion Q) (sym (kept p x xs (p x) refl)) (so_far-kept Q p f x xs (p x) refl (all-so_far Q p f xs))

all-append : (P : ℕ → Type 0) (xs ys : List ℕ) → AllByRecursion P xs → AllByRecursion P ys → AllByRecursion P (xs ++ ys)
all-append P [] ys a b = b
all-append P (x ∷ xs) ys a b = (a.0, all-append P xs ys a.1 b)

abbrev Apart : List ℕ → List ℕ → Type 0
Apart xs ys = AllByRecursion (λ x. AllByRecursion (λ y. nat_eq x y ≡ false) ys) xs

distinct-append : (xs ys : List ℕ) → IsDistinct nat_eq xs → IsDistinct nat_eq ys → Apart xs ys → IsDistinct nat_eq (xs ++ ys)
unfolding IsDistinct
distinct-append [] ys d e a = e
distinct-append (x ∷ xs) ys d e a = (all-append (λ y. nat_eq x y ≡ false) xs ys d.0 a.0, distinct-append xs ys d.1 e a.1)

-- one new number at the end
or-first : (a b : Bool) → (a || b) ≡ false → a ≡ false
or-first true b e = absurd cc
or-first false b e = refl

or-second : (a b : Bool) → (a || b) ≡ false → b ≡ false
or-second true b e = absurd cc
or-second false b e = e

apart-one : (t : ℕ) (xs : List ℕ) → list_any (λ x. nat_eq x t) xs ≡ false → Apart xs (t ∷ [])
apart-one t [] e = tt
apart-one t (x ∷ xs) e = ((or-first (nat_eq x t) (list_any (λ y. nat_eq y t) xs) e, tt), apart-one t xs (or-second (nat_eq x t) (list_any (λ y. nat_eq y t) xs) e))

distinct-one : (t : ℕ) → IsDistinct nat_eq (t ∷ [])
unfolding IsDistinct
distinct-one t = (tt, tt)

any-end : (p : ℕ → Bool) (xs ys : List ℕ) → list_any p (xs ++ ys) ≡ false → list_any p ys ≡ false
any-end p [] ys e = e
any-end p (x ∷ xs) ys e = any-end p xs ys (or-second (p x) (list_any p (xs ++ ys)) e)

-- ---- the book and the standing payments are apart

not-false : (b : Bool) → not b ≡ true → b ≡ false
not-false true e = absurd cc
not-false false e = refl

apart-from : (book : List Entry) (ts : List ℕ) (front : List Entry) → ((t : ℕ) → trace_used t book ≡ false → trace_used t front ≡ false)
    → Apart (map trace_of front) (filter (λ t. not (trace_used t book)) ts)
apart-from book ts [] k = tt
apart-from book ts (e ∷ front) k = (
  all-so_far (λ y. nat_eq e.trace y ≡ false) (λ t. not (trace_used t book)) (λ t h. or-first (nat_eq e.trace t) (trace_used t front) (k t (not-false (trace_used t book) h))) ts,
  apart-from book ts front (λ t u. or-second (nat_eq e.trace t) (trace_used t front) (k t u)),
)

-- ---- a settlement adds a new number

abbrev Fresh : List ℕ → Option Settlement → Type 0
Fresh used None = Unit {0}
Fresh used (Some (Paid row t r)) = list_any (λ x. nat_eq x t) used ≡ false
Fresh used (Some (NotPaid row)) = Unit {0}
Fresh used (Some (Reversed entry)) = Unit {0}
Fresh used (Some (NotReversed entry)) = Unit {0}

fresh-earned-at : (used : List ℕ) (row amount t : ℕ) (rc : Option (List ℕ)) (b u : Bool) → list_any (λ x. nat_eq x t) used ≡ u
    → Fresh used (option_map (paid_as row) (cond (b && not u) (Some (booked_as amount t rc)) None))
fresh-earned-at used row amount t rc false u e = tt
fresh-earned-at used row amount t rc true true e = tt
fresh-earned-at used row amount t rc true false e = e

fresh-earned : (used : List ℕ) (currency row amount : ℕ) (s : StatusFacts) (o : Option ℕ)
    → Fresh used (option_map (paid_as row) (elim o [
      | None ↦ None
      | Some t ↦ cond (list_all (approves (charged (Some currency) amount) t) (s ∷ []) && not (list_any (λ x. nat_eq x t) used)) (Some (booked_as amount t s.receipt)) None
    ]))
fresh-earned used currency row amount s None = tt
fresh-earned used currency row amount s (Some t) =
    fresh-earned-at used row amount t s.receipt (list_all (approves (charged (Some currency) amount) t) (s ∷ [])) (list_any (λ x. nat_eq x t) used) refl

fresh-cond : (used : List ℕ) (e : ℕ) (b : Bool) → Fresh used (cond b (Some (Reversed e)) None)
fresh-cond used e true = tt
fresh-cond used e false = tt

fresh-back : (used : List ℕ) (currency : ℕ) (ss : List StatusFacts) (e : ℕ) (o : Option Entry) → Fresh used (taken_back currency ss e o)
fresh-back used currency ss e None = tt
fresh-back used currency ss e (Some row) = fresh-cond used e (takes_back (reversing currency e) (row_of row) ss)

fresh-happened : (currency : ℕ) (book : List Entry) (used : List ℕ) (w : What) (s : StatusFacts) → Fresh used (happened currency book used w s)
fresh-happened currency book used (Payment row amount) s = fresh-earned used currency row amount s s.trace
fresh-happened currency book used (Reversal entry) s = fresh-back used currency (s ∷ []) entry (slice_get book entry)

fresh-not : (used : List ℕ) (w : What) (b : Bool) (o : Option Settlement) → Fresh used o → Fresh used (cond b (Some (did_not w)) o)
fresh-not used (Payment row amount) true o f = tt
fresh-not used (Reversal entry) true o f = tt
fresh-not used w false o f = f

fresh-decision : (currency : ℕ) (book : List Entry) (used : List ℕ) (p : Pending) (s : StatusFacts) → Fresh used (decision currency book used p s)
fresh-decision currency book used p s = fresh-not used p.what (same p.before s) (happened currency book used p.what s) (fresh-happened currency book used p.what s)

fresh-decided : (till : TillState) (settled : List Settlement) (a : StatusFacts) (o : Option Pending) → Fresh (used_traces till.book settled) (decided till settled a o)
fresh-decided till settled a None = tt
fresh-decided till settled a (Some p) = fresh-decision till.settings.currency till.book (used_traces till.book settled) p a

-- ---- the numbers of settled payments stay distinct

abbrev PaidApart : List Settlement → Type 0
PaidApart settled = IsDistinct nat_eq (paid_traces settled)

nil-right : {A : Type 0} (xs : List A) → xs ++ [] ≡ xs
nil-right [] = refl
nil-right (x ∷ xs) = ap (λ ys. x ∷ ys) (nil-right xs)

paid-end : (settled : List Settlement) (s : Settlement) → paid_traces (settled ++ s ∷ []) ≡ paid_traces settled ++ counted s
paid-end [] s = nil-right (counted s)
paid-end (Paid row t r ∷ more) s = ap (λ ys. t ∷ ys) (paid-end more s)
paid-end (NotPaid row ∷ more) s = paid-end more s
paid-end (Reversed e ∷ more) s = paid-end more s
paid-end (NotReversed e ∷ more) s = paid-end more s

same-paid : (settled : List Settlement) (s : Settlement) → counted s ≡ [] → PaidApart settled → PaidApart (settled ++ s ∷ [])
same-paid settled s e d =
    subst (λ ts. IsDistinct nat_eq ts) (sym (paid-end settled s ∙ ap (λ ys. paid_traces settled ++ ys) e ∙ nil-right (paid_traces settled))) d

grow : (booked : List ℕ) (settled : List Settlement) (o : Option Settlement) → PaidApart settled → Fresh (booked ++ paid_traces settled) o → PaidApart (settled ++ option_to_list o)
grow booked settled None d f = subst PaidApart (sym (nil-right settled)) d
grow booked settled (Some (Paid row t r)) d f =
    subst (λ ts. IsDistinct nat_eq ts) (sym (paid-end settled (Paid row t r)))
    (distinct-append (paid_traces settled) (t ∷ []) d (distinct-one t) (apart-one t (paid_traces settled) (any-end (λ x. nat_eq x t) booked (paid_traces settled) f)))
grow booked settled (Some (NotPaid row)) d f = same-paid settled (NotPaid row) refl d
grow booked settled (Some (Reversed e)) d f = same-paid settled (Reversed e) refl d
grow booked settled (Some (NotReversed e)) d f = same-paid settled (NotReversed e) refl d

answered-apart : (till : TillState) (s : Settling) (a : Option StatusFacts) → PaidApart s.settled → PaidApart (answered till s a).settled
answered-apart till s None d = d
answered-apart till s (Some a) d = grow (map trace_of till.book) s.settled (decided till s.settled a s.pending) d (fresh-decided till s.settled a s.pending)

at-cond : (b : Bool) (x y : Settling) → PaidApart x.settled → PaidApart y.settled → PaidApart (cond b x y).settled
at-cond true x y d e = d
at-cond false x y d e = e

asked-apart : (till : TillState) (s : Settling) (positive : Bool) (h : Happening) → PaidApart s.settled → PaidApart (asked till s positive h).settled
asked-apart till s positive h d =
    at-cond (ends positive h) (answered till s (answer_by s.so_far h)) (record s { asking = Some (positive || is_positive h) }) (answered-apart till s (answer_by s.so_far h) d) d

opened-apart : (s : Settling) (w : Option What) → PaidApart s.settled → PaidApart (opened s w).settled
opened-apart s None d = d
opened-apart s (Some w) d = d

ended-apart : (s : Settling) (o : Order) (out : Outcome) (place : ℕ) → PaidApart s.settled → PaidApart (ended s o out place).settled
ended-apart s o Registered place d = d
ended-apart s o (PaidOutcome t r) place d = d
ended-apart s o (Declined c) place d = d
ended-apart s o (Refused c) place d = d
ended-apart s o (Aborted c) place d = d
ended-apart s o (Unclear cause) place d = opened-apart s (opened_by o place) d
ended-apart s o ReversedOutcome place d = d
ended-apart s o DayClosed place d = d

ended-as-apart : (s : Settling) (o : Option Order) (out : Option Outcome) (place : ℕ) → PaidApart s.settled → PaidApart (ended_as s o out place).settled
ended-as-apart s None out place d = d
ended-as-apart s (Some o) None place d = d
ended-as-apart s (Some o) (Some out) place d = ended-apart s o out place d

met-apart : (till : TillState) (s : Settling) (asking : Option Bool) (h : Happening) → PaidApart s.settled → PaidApart (met till s asking h).settled
met-apart till s None h d = ended-as-apart s (option_map (λ r. r.order) till.running) (outcome_at till h) (length till.unclear) d
met-apart till s (Some positive) h d = asked-apart till s positive h d

meets-apart : (till : TillState) (s : Settling) (h : Happening) → PaidApart s.settled → PaidApart (meets till s h).settled
meets-apart till s h d = met-apart till (noted s h) s.asking h d

sent-apart : (s : Settling) (o : Option Order) → PaidApart s.settled → PaidApart (sent_if s o).settled
sent-apart s None d = d
sent-apart s (Some Register) d = d
sent-apart s (Some (Pay a)) d = d
sent-apart s (Some (Reverse e)) d = d
sent-apart s (Some CloseDay) d = d
sent-apart s (Some Cancel) d = d

settles-apart : (till : TillState) (s : Settling) (h : Happening) → PaidApart s.settled → PaidApart (settles till s h).settled
settles-apart till s Connected d = d
settles-apart till s (SentOut o) d = sent-apart s (order_in o) d
settles-apart till s (HeardIn m) d = at-cond till.line_up (meets till s (HeardIn m)) s (meets-apart till s (HeardIn m) d) d
settles-apart till s Malformed d = meets-apart till s Malformed d
settles-apart till s Lost d = meets-apart till s Lost d

run-apart : (b : Both) (notes : List Note) → PaidApart b.settling.settled → PaidApart (fold take b notes).settling.settled
run-apart b [] d = d
run-apart b (Line h ∷ notes) d = run-apart (take b (Line h)) notes (settles-apart b.till b.settling h d)
run-apart b (Asked ∷ notes) d = run-apart (take b Asked) notes d

-- ---- the till inside has the log of its line

pub lines : List Note → List Happening
lines [] = []
lines (Line h ∷ notes) = h ∷ lines notes
lines (Asked ∷ notes) = lines notes

till-run : (b : Both) (notes : List Note) → (fold take b notes).till ≡ fold step b.till (lines notes)
unfolding lines
till-run b [] = refl
till-run b (Line h ∷ notes) = till-run (take b (Line h)) notes
till-run b (Asked ∷ notes) = till-run (take b Asked) notes

none-apart : PaidApart []
unfolding IsDistinct
none-apart = tt

pub counts_once : TracesStayDistinct → CountsOnce
counts_once law settings notes =
    let b = both_after settings notes in
    distinct-append (map trace_of b.till.book) (standing b.till.book b.settling.settled)
    (subst (λ (s : TillState). IsDistinct nat_eq (map trace_of s.book)) (sym (till-run (new_both settings) notes)) (law settings (lines notes)))
    (distinct-filter (λ t. not (trace_used t b.till.book)) (paid_traces b.settling.settled) (run-apart (new_both settings) notes none-apart))
    (apart-from b.till.book (paid_traces b.settling.settled) b.till.book (λ t u. u))
