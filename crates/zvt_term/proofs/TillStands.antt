-- What stays true as the till hears a message or loses its line. For the proof that settlements agree with the ledger.
use Rattle.std.proofs.Common.{◌≡◌, ℕ, zero, suc, ◌⊎◌, inl, inr, Bool, true, false, not, cond, List, [], ◌∷◌, ◌++◌, length, Option, Some, None, map, slice_get, option_map, refl, sym, ap, subst, ◌∙◌}
use Rattle.std.proofs.lemmas.List.{map_push}
use Rattle.zvt_apdu.specs.Briefs.{digits}
use Rattle.zvt_till.specs.declared.entries.Doubt.TheVariants.{No}
use Rattle.zvt_till.specs.declared.entries.Entry.{Entry}
use Rattle.zvt_till.specs.declared.happenings.Happening.{Happening}
use Rattle.zvt_till.specs.declared.happenings.Happening.TheVariants.{Heard as HeardIn}
use Rattle.zvt_till.specs.declared.messages.Heard.TheVariants.{Negative, Completion, Abort}
use Rattle.zvt_till.specs.declared.messages.StatusFacts.{StatusFacts}
use Rattle.zvt_till.specs.declared.orders.Order.{Order}
use Rattle.zvt_till.specs.declared.orders.Order.TheVariants.{Register, Pay, Reverse, CloseDay, Cancel}
use Rattle.zvt_till.specs.declared.outcomes.Cause.{Cause}
use Rattle.zvt_till.specs.declared.outcomes.Outcome.{Outcome}
use Rattle.zvt_till.specs.declared.outcomes.Outcome.TheVariants.{Registered, Paid, Declined, Refused as RefusedOutcome, Aborted, Unclear as UnclearOutcome, Reversed, DayClosed}
use Rattle.zvt_till.specs.declared.statuses.Statuses.{Statuses}
use Rattle.zvt_till.specs.declared.statuses.Statuses.TheVariants.{Nothing as NoStatuses, Good as AllGood, Declining as AllDeclining, Fault}
use Rattle.zvt_till.specs.Books.{Booked, booked_as}
use Rattle.zvt_till.specs.Laws.{row_of}
use Rattle.zvt_till.specs.declared.outcomes.Cause.TheVariants.{TraceUsed}
use Rattle.zvt_till.specs.Outcomes.{trace_used, completion_outcome, broken_outcome, outcome_by}
use Rattle.zvt_till.specs.Till.{book_after, unclear_after}
use Rattle.zvt_till.proofs.BookStepLemmas.{reversed-rows}
use Rattle.zvt_term.specs.declared.ledger.Row.{Row}
use Rattle.zvt_term.proofs.Matching.{slice_get-last}
use Rattle.zvt_settle.specs.declared.deciding.Pending.{Pending}
use Rattle.zvt_settle.specs.declared.deciding.StatusSoFar.TheVariants.{One}
use Rattle.zvt_settle.specs.declared.deciding.What.{What}
use Rattle.zvt_settle.specs.declared.deciding.What.TheVariants.{Payment, Reversal}
use Rattle.zvt_term.specs.AskedWorld.{payment_row}
use Rattle.zvt_settle.specs.Deciding.{one_status}
use Rattle.zvt_term.specs.Ledgers.{status_of_row}
use Rattle.zvt_settle.specs.Settling.{Settling, paid_traces, pending_as, ended}
use Rattle.zvt_settle.specs.Story.{Known as KnownLeft}
use Rattle.zvt_settle.proofs.ChapterEnds.{left_of}
use Rattle.zvt_term.proofs.Standing.{IsLast, KnowsLast, RowFor, GrewFor, Waits, Known, KnownBy, Claims, NotGood, AllIn, Fresh}

-- ---- a payment or a reversal that ends

-- what it leaves to settle, with its place among the unclear payments
abbrev what_of : Order → ℕ → What
what_of (Pay a) place = Payment place a
what_of (Reverse e) place = Reversal e
what_of o place = Reversal 0

abbrev pub Pays : Order → Type 0
Pays Register = ⊥
Pays (Pay a) = Unit {0}
Pays (Reverse e) = Unit {0}
Pays CloseDay = ⊥
Pays Cancel = ⊥

-- the rows of the book do not change as a payment or a reversal ends unclearly
pub unclear-rows : (book : List Entry) (o : Order) (cause : Cause) → map row_of (book_after book o (UnclearOutcome cause)) ≡ map row_of book
unclear-rows book Register cause = refl
unclear-rows book (Pay a) cause = refl
unclear-rows book (Reverse e) cause = reversed-rows book e (UnclearOutcome cause)
unclear-rows book CloseDay cause = refl
unclear-rows book Cancel cause = refl

pub pending-of : (last : Option StatusFacts) (what : What) (p : Pending) → option_map (pending_as what) last ≡ Some p → (f : StatusFacts) × (last ≡ Some f) × (p ≡ pending_as what f)
pending-of None what p e = absurd cc
pending-of (Some f) what p e = (f, refl, cc)

-- a payment or a reversal that ends unclearly can be settled if the last status before it is known
pub doubted : (own : ℕ) (o : Order) (before now : List Row) (book : List Entry) (loose : List (ℕ × Cause)) (s : Settling) (cause : Cause)
    → Pays o → KnowsLast before s.last → GrewFor own (map row_of book) before now o → Fresh own before (map row_of book) (paid_traces s.settled)
    → KnownBy own (map row_of (book_after book o (UnclearOutcome cause))) (unclear_after loose o (UnclearOutcome cause)) before now (ended s o (UnclearOutcome cause) (length loose))
doubted own (Pay a) before now book loose s cause pays last grew fresh =
    record {
      last = λ f e. absurd cc;
      waits = λ p e.
          let w = pending-of s.last (Payment (length loose) a) p e in
          subst (λ (x : Pending). Waits own (map row_of book) (loose ++ (a, cause) ∷ []) (paid_traces s.settled) before now x) (sym w.2)
          (record { last = last w.0 w.1; what = (cause, slice_get-last loose (a, cause)); grew = grew; fresh = fresh });
    }
doubted own (Reverse i) before now book loose s cause pays last grew fresh =
    record {
      last = λ f e. absurd cc;
      waits = λ p e.
          let w = pending-of s.last (Reversal i) p e in
          let same = unclear-rows book (Reverse i) cause in
          subst (λ (x : Pending). Waits own (map row_of (book_after book (Reverse i) (UnclearOutcome cause))) loose (paid_traces s.settled) before now x) (sym w.2)
          (subst (λ rows. Waits own rows loose (paid_traces s.settled) before now (pending_as (Reversal i) w.0)) (sym same) (record { last = last w.0 w.1; what = tt; grew = grew; fresh = fresh }));
    }
doubted own o before now book loose s cause pays last grew fresh = absurd pays

-- ---- an outcome that is not unclear

pub not-known : (o : Order) (st : Statuses) (book : List Entry) (h : Happening) → Pays o → NotGood st → left_of (outcome_by book o st h) ≡ KnownLeft → ⊥
not-known o st book h pays k = by_happening h
  where
    broken : (s : Statuses) (out : Outcome) → NotGood s → (left_of out ≡ KnownLeft → ⊥) → left_of (broken_outcome s out) ≡ KnownLeft → ⊥
    broken NoStatuses out n plain e = plain e
    broken (AllGood t r) out n plain e = n
    broken (AllDeclining c) out n plain e = plain e
    broken (Fault x) out n plain e = cc

    completed : (x : Order) (s : Statuses) → Pays x → NotGood s → left_of (completion_outcome book x s) ≡ KnownLeft → ⊥
    completed Register s p n e = p
    completed (Pay a) NoStatuses p n e = cc
    completed (Pay a) (AllGood t r) p n e = n
    completed (Pay a) (AllDeclining c) p n e = cc
    completed (Pay a) (Fault x) p n e = cc
    completed (Reverse i) NoStatuses p n e = cc
    completed (Reverse i) (AllGood t r) p n e = n
    completed (Reverse i) (AllDeclining c) p n e = cc
    completed (Reverse i) (Fault x) p n e = cc
    completed CloseDay s p n e = p
    completed Cancel s p n e = p

    by_happening : (x : Happening) → left_of (outcome_by book o st x) ≡ KnownLeft → ⊥
    by_happening (HeardIn Completion) e = completed o st pays k e
    by_happening (HeardIn (Abort c)) e = broken st (Aborted c) k (λ q. cc) e
    by_happening (HeardIn (Negative c)) e = broken st (RefusedOutcome c) k (λ q. cc) e
    by_happening x e = cc

-- what is known after a payment or a reversal, and the rows of the book
pub record After (own : ℕ) (before now : List Row) (book : List Entry) (loose : List (ℕ × Cause)) (s : Settling) : Type 0 where
  pub known : KnownBy own (map row_of book) loose before now s
  pub books : AllIn own now (map row_of book)

stays-known : (own : ℕ) (rows : List Booked) (loose : List (ℕ × Cause)) (before now : List Row) (s : Settling) → KnowsLast now s.last → s.pending ≡ None → KnownBy own rows loose before now s
stays-known own rows loose before now s last none = record { last = last; waits = λ p e. let n : None ≡ Some p = sym none ∙ e in absurd cc }

-- only a payment that was paid adds a row
pub same-rows : (book : List Entry) (o : Order) (out : Outcome) → (left_of out ≡ KnownLeft → ⊥) → map row_of (book_after book o out) ≡ map row_of book
same-rows book (Pay a) Registered n = refl
same-rows book (Pay a) (Paid t r) n = absurd (n refl)
same-rows book (Pay a) (Declined c) n = refl
same-rows book (Pay a) (RefusedOutcome c) n = refl
same-rows book (Pay a) (Aborted c) n = refl
same-rows book (Pay a) (UnclearOutcome x) n = refl
same-rows book (Pay a) Reversed n = refl
same-rows book (Pay a) DayClosed n = refl
same-rows book (Reverse i) out n = reversed-rows book i out
same-rows book Register out n = refl
same-rows book CloseDay out n = refl
same-rows book Cancel out n = refl

all-as : (own : ℕ) (now : List Row) (rows more : List Booked) → more ≡ rows → AllIn own now rows → AllIn own now more
all-as own now rows more e k = subst (AllIn own now) (sym e) k

-- an order that wrote no row
pub denied-ends : (own : ℕ) (o : Order) (before now : List Row) (book : List Entry) (loose : List (ℕ × Cause)) (s : Settling) (out : Outcome)
    → Pays o → KnowsLast before s.last → s.pending ≡ None → Fresh own before (map row_of book) (paid_traces s.settled) → now ≡ before → AllIn own now (map row_of book) → (left_of out ≡ KnownLeft → ⊥)
    → After own before now (book_after book o out) (unclear_after loose o out) (ended s o out (length loose))
denied-ends own o before now book loose s out pays last none fresh same all n =
    record { known = by_outcome out n; books = all-as own now (map row_of book) (map row_of (book_after book o out)) (same-rows book o out n) all }
  where
    here : KnowsLast now s.last
    here = subst (λ l. KnowsLast l s.last) (sym same) last

    by_outcome : (x : Outcome) → (left_of x ≡ KnownLeft → ⊥) → KnownBy own (map row_of (book_after book o x)) (unclear_after loose o x) before now (ended s o x (length loose))
    by_outcome Registered m = stays-known own (map row_of (book_after book o Registered)) (unclear_after loose o Registered) before now s here none
    by_outcome (Paid t r) m = absurd (m refl)
    by_outcome (Declined c) m = stays-known own (map row_of (book_after book o (Declined c))) (unclear_after loose o (Declined c)) before now s here none
    by_outcome (RefusedOutcome c) m = stays-known own (map row_of (book_after book o (RefusedOutcome c))) (unclear_after loose o (RefusedOutcome c)) before now s here none
    by_outcome (Aborted c) m = stays-known own (map row_of (book_after book o (Aborted c))) (unclear_after loose o (Aborted c)) before now s here none
    by_outcome (UnclearOutcome cause) m = doubted own o before now book loose s cause pays last (inl same) fresh
    by_outcome Reversed m = absurd (m refl)
    by_outcome DayClosed m = stays-known own (map row_of (book_after book o DayClosed)) (unclear_after loose o DayClosed) before now s here none

-- ---- an order whose row is written

pub unclear-ends : (own : ℕ) (o : Order) (before now : List Row) (book : List Entry) (loose : List (ℕ × Cause)) (s : Settling) (cause : Cause)
    → Pays o → KnowsLast before s.last → GrewFor own (map row_of book) before now o → Fresh own before (map row_of book) (paid_traces s.settled) → AllIn own now (map row_of book)
    → After own before now (book_after book o (UnclearOutcome cause)) (unclear_after loose o (UnclearOutcome cause)) (ended s o (UnclearOutcome cause) (length loose))
unclear-ends own o before now book loose s cause pays last grew fresh all =
    record { known = doubted own o before now book loose s cause pays last grew fresh; books = all-as own now (map row_of book) (map row_of (book_after book o (UnclearOutcome cause))) (unclear-rows book o cause) all }

one-more : {X : Type 0} (xs : List X) (x y : X) (i : ℕ) → slice_get (xs ++ x ∷ []) i ≡ Some y → (slice_get xs i ≡ Some y) ⊎ (x ≡ y)
one-more [] x y zero e = inr cc
one-more [] x y (suc i) e = absurd cc
one-more (z ∷ xs) x y zero e = inl e
one-more (z ∷ xs) x y (suc i) e = one-more xs x y i e

-- the status of the row is the last one then
known-ends : (own : ℕ) (rows : List Booked) (loose : List (ℕ × Cause)) (traces : List ℕ) (before now : List Row) (s : Settling) (row : Row) → now ≡ before ++ row ∷ [] → s.so_far ≡ One (status_of_row row) → s.pending ≡ None
    → Known own rows loose traces before now (one_status s.so_far) s.pending
known-ends own rows loose traces before now s row grew one none =
    record {
      last = λ f e.
          let told : one_status s.so_far ≡ Some (status_of_row row) = ap one_status one in
          let same : status_of_row row ≡ f = some-same (status_of_row row) f (sym told ∙ e) in
          subst (λ x. IsLast now x) same (record { rows = before; row = row; is = grew; tells = refl });
      waits = λ p e. let n : None ≡ Some p = sym none ∙ e in absurd cc;
    }
  where
    some-same : (x y : StatusFacts) → Some x ≡ Some y → x ≡ y
    some-same x y e = cc

paid-all : (own : ℕ) (before now : List Row) (book : List Entry) (a : ℕ) (row : Row) (t : ℕ) (r : Option (List ℕ)) → AllIn own now (map row_of book) → now ≡ before ++ row ∷ [] → row ≡ payment_row row.number a own
    → t ≡ row.number → r ≡ Some (digits 2 row.number) → AllIn own now (map row_of (book_after book (Pay a) (Paid t r)))
paid-all own before now book a row t r all grew is number receipt =
    all-as own now (map row_of book ++ booked_as a t r ∷ []) (map row_of (book_after book (Pay a) (Paid t r)))
    (map_push row_of book (record { amount = a; trace = t; receipt = r; reversed = false; doubt = No }))
    (λ i b e. by_place i b (one-more (map row_of book) (booked_as a t r) b i e))
  where
    new : (k : ℕ) × (slice_get now k ≡ Some (payment_row t a own)) × (r ≡ Some (digits 2 t))
    new = (
      length before,
      ap (λ l. slice_get l (length before)) grew ∙ slice_get-last before row ∙ ap Some is ∙ ap (λ (n : ℕ). Some (payment_row n a own)) (sym number),
      receipt ∙ ap (λ (n : ℕ). Some (digits 2 n)) (sym number),
    )

    by_place : (i : ℕ) (b : Booked) → (slice_get (map row_of book) i ≡ Some b) ⊎ (booked_as a t r ≡ b)
        → (k : ℕ) × (slice_get now k ≡ Some (payment_row b.trace b.amount own)) × (b.receipt ≡ Some (digits 2 b.trace))
    by_place i b (inl e) = all i b e
    by_place i b (inr e) = subst (λ (x : Booked). (k : ℕ) × (slice_get now k ≡ Some (payment_row x.trace x.amount own)) × (x.receipt ≡ Some (digits 2 x.trace))) e new

-- a completion after the status of the row
pub said-completes : (own : ℕ) (o : Order) (before now : List Row) (book : List Entry) (loose : List (ℕ × Cause)) (s : Settling) (st : Statuses) (row : Row)
    → Pays o → KnowsLast before s.last → s.pending ≡ None → Fresh own before (map row_of book) (paid_traces s.settled) → now ≡ before ++ row ∷ [] → RowFor own (map row_of book) o row → Claims o row st → s.so_far ≡ One (status_of_row row) → AllIn own now (map row_of book)
    → let out : Outcome = completion_outcome book o st in
    After own before now (book_after book o out) (unclear_after loose o out) (ended s o out (length loose))
said-completes own (Pay a) before now book loose s (AllGood None r) row pays last none fresh grew is claims one all = let gone = claims.0 in absurd cc
said-completes own (Pay a) before now book loose s (AllGood (Some t) r) row pays last none fresh grew is claims one all = by_use (trace_used t book)
  where
    number : t ≡ row.number
    number = let e = claims.0 in cc

    by_use : (b : Bool) → let out : Outcome = cond b (UnclearOutcome TraceUsed) (Paid t r) in
        After own before now (book_after book (Pay a) out) (unclear_after loose (Pay a) out) (ended s (Pay a) out (length loose))
    by_use true = unclear-ends own (Pay a) before now book loose s TraceUsed tt last (inr (row, grew, is)) fresh all
    by_use false =
        record {
          known = known-ends own (map row_of (book_after book (Pay a) (Paid t r))) loose (paid_traces s.settled) before now s row grew one none;
          books = paid-all own before now book a row t r all grew is number claims.1;
        }
said-completes own (Pay a) before now book loose s (Fault cause) row pays last none fresh grew is claims one all = unclear-ends own (Pay a) before now book loose s cause tt last (inr (row, grew, is)) fresh all
said-completes own (Reverse i) before now book loose s (AllGood t r) row pays last none fresh grew is claims one all =
    record {
      known = known-ends own (map row_of (book_after book (Reverse i) Reversed)) loose (paid_traces s.settled) before now s row grew one none;
      books = all-as own now (map row_of book) (map row_of (book_after book (Reverse i) Reversed)) (reversed-rows book i Reversed) all;
    }
said-completes own (Reverse i) before now book loose s (Fault cause) row pays last none fresh grew is claims one all =
    unclear-ends own (Reverse i) before now book loose s cause tt last (inr (row, grew, is)) fresh all
said-completes own o before now book loose s st row pays last none fresh grew is claims one all = absurd claims
