-- An answer of the simulated terminal settles what is pending, as its ledger says. For the proof that settlements agree
-- with the ledger.
use Rattle.std.proofs.Common.{arith, ◌≡◌, ℕ, suc, ◌+◌, ◌≤◌, inl, inr, Bool, true, false, ◌||◌, nat_eq, List, [], ◌∷◌, ◌++◌, length, Option, Some, None, map, slice_get, refl, sym, ap, ap₂, subst, ◌∙◌, length-append}
use Rattle.std.specs.List.{list_any}
use Rattle.std.proofs.lemmas.Bool.Decides.{Decides-eqb}
use Rattle.std.proofs.lemmas.List.Folds.{list_any-append}
use Rattle.zvt_apdu.specs.Briefs.{digits}
use Rattle.zvt_till.specs.declared.entries.Entry.{Entry}
use Rattle.zvt_till.specs.declared.messages.StatusFacts.{StatusFacts}
use Rattle.zvt_till.specs.declared.outcomes.Cause.{Cause}
use Rattle.zvt_till.specs.Books.{Booked}
use Rattle.zvt_till.specs.Laws.{row_of, trace_of}
use Rattle.zvt_till.specs.Till.{TillState}
use Rattle.zvt_term.specs.declared.ledger.Row.{Row}
use Rattle.zvt_term.specs.Ledger.{NumberedFrom}
use Rattle.zvt_term.proofs.Matching.{slice_get-last}
use Rattle.zvt_settle.specs.declared.deciding.Pending.{Pending}
use Rattle.zvt_settle.specs.declared.deciding.Settlement.{Settlement}
use Rattle.zvt_settle.specs.declared.deciding.Settlement.TheVariants.{Paid, NotPaid, Reversed, NotReversed}
use Rattle.zvt_settle.specs.declared.deciding.What.{What}
use Rattle.zvt_settle.specs.declared.deciding.What.TheVariants.{Payment, Reversal}
use Rattle.zvt_term.specs.AskedWorld.{payment_row}
use Rattle.zvt_settle.specs.Deciding.{decision, did_not}
use Rattle.zvt_term.specs.Ledgers.{status_of_row, reversal_row, AreOfRows}
use Rattle.zvt_settle.specs.Settling.{Settling, counted, paid_traces, used_traces}
use Rattle.zvt_term.proofs.LedgerDecides.{same_ledger_decides, one_payment_decides}
use Rattle.zvt_term.proofs.LedgerRows.{numbered-at, in-ledger}
use Rattle.zvt_term.proofs.ReversalDecides.{one_reversal_decides}
use Rattle.zvt_term.proofs.Standing.{IsLast, RowFor, order_of, GrewFor, IsWhat, Fresh, Waits}
use Rattle.zvt_term.proofs.StatusStands.{found-entry}

-- ---- what a settlement says of the ledger

abbrev pub PaidIn : TillState → (before now : List Row) → (trace : ℕ) → Option (ℕ × Cause) → Type 0
PaidIn t before now trace None = ⊥
PaidIn t before now trace (Some row) = now ≡ before ++ payment_row trace row.0 t.settings.currency ∷ []

abbrev ReversedIn : TillState → (before now : List Row) → Option Entry → Type 0
ReversedIn t before now None = ⊥
ReversedIn t before now (Some entry) =
    (number : ℕ) × (now ≡ before ++ record { number = number; amount = entry.amount; currency = Some t.settings.currency; reverses = Some entry.trace } ∷ [])

abbrev pub SoIn : TillState → (before now : List Row) → Settlement → Type 0
SoIn t before now (Paid place trace receipt) = PaidIn t before now trace (slice_get t.unclear place)
SoIn t before now (NotPaid place) = now ≡ before
SoIn t before now (Reversed entry) = ReversedIn t before now (slice_get t.book entry)
SoIn t before now (NotReversed entry) = now ≡ before

-- the settlement is of what is pending
abbrev pub IsFor : What → Settlement → Type 0
IsFor (Payment place a) (Paid settled t r) = settled ≡ place
IsFor (Payment place a) (NotPaid settled) = settled ≡ place
IsFor (Reversal e) (Reversed settled) = Unit {0}
IsFor (Reversal e) (NotReversed settled) = Unit {0}
IsFor w s = ⊥

-- ---- numbers

pub numbered-first : (n : ℕ) (xs ys : List Row) → NumberedFrom n (xs ++ ys) → NumberedFrom n xs
numbered-first n [] ys h = tt
numbered-first n (x ∷ xs) ys h = (h.0, numbered-first (n + 1) xs ys h.1)

traces-at : (t : ℕ) (book : List Entry) → list_any (λ x. nat_eq x t) (map trace_of book) ≡ true → (i : ℕ) × (b : Booked) × (slice_get (map row_of book) i ≡ Some b) × (b.trace ≡ t)
traces-at t [] e = absurd cc
traces-at t (x ∷ book) e = by_test (nat_eq x.trace t) refl e (traces-at t book)
  where
    by_test : (b : Bool) → nat_eq x.trace t ≡ b → (b || list_any (λ y. nat_eq y t) (map trace_of book)) ≡ true
        → (list_any (λ y. nat_eq y t) (map trace_of book) ≡ true → (i : ℕ) × (r : Booked) × (slice_get (map row_of book) i ≡ Some r) × (r.trace ≡ t))
        → (i : ℕ) × (r : Booked) × (slice_get (map row_of (x ∷ book)) i ≡ Some r) × (r.trace ≡ t)
    by_test true is q later = (0, row_of x, refl, (Decides-eqb x.trace t).0 is)
    by_test false is q later = let w = later q in (suc w.0, w.1, w.2, w.3)

-- used numbers are those of rows
used-rows : (own : ℕ) (ledger : List Row) (book : List Entry) (traces : List ℕ) → NumberedFrom 1 ledger → Fresh own ledger (map row_of book) traces → AreOfRows (map trace_of book ++ traces) ledger
used-rows own ledger book traces numbered fresh t e =
    by_part (list_any (λ x. nat_eq x t) (map trace_of book)) refl (sym (list_any-append (λ x. nat_eq x t) (map trace_of book) traces) ∙ e)
  where
    by_part : (b : Bool) → list_any (λ x. nat_eq x t) (map trace_of book) ≡ b → (b || list_any (λ x. nat_eq x t) traces) ≡ true → t ≤ length ledger
    by_part true is q =
        let w = traces-at t book is in subst (λ n. n ≤ length ledger) w.3 (in-ledger own ledger (map row_of book) w.0 w.1 numbered fresh.books w.2)
    by_part false is q = fresh.paid t q

-- ---- two last rows

last-same : (xs ys : List Row) (x y : Row) → xs ++ x ∷ [] ≡ ys ++ y ∷ [] → x ≡ y
last-same xs ys x y e =
    let size : length xs ≡ length ys = let n : length (xs ++ x ∷ []) ≡ length (ys ++ y ∷ []) = ap length e in omega (arith, n, length-append xs (x ∷ []), length-append ys (y ∷ [])) in
    let here : Some x ≡ Some y = sym (slice_get-last xs x) ∙ ap₂ slice_get e size ∙ slice_get-last ys y in cc

-- what an answer decides
pub record Decides (t : TillState) (s : Settling) (before now : List Row) (p : Pending) (f : StatusFacts) : Type 0 where
  pub settlement : Settlement
  pub is : decision t.settings.currency t.book (used_traces t.book s.settled) p f ≡ Some settlement
  pub so : SoIn t before now settlement
  pub paid : AreOfRows (counted settlement) now
  pub of_what : IsFor p.what settlement

did-not-so : (t : TillState) (before now : List Row) (w : What) → now ≡ before → SoIn t before now (did_not w)
did-not-so t before now (Payment place a) e = e
did-not-so t before now (Reversal i) e = e

did-not-for : (w : What) → IsFor w (did_not w)
did-not-for (Payment place a) = refl
did-not-for (Reversal i) = tt

did-not-paid : (now : List Row) (w : What) → AreOfRows (counted (did_not w)) now
did-not-paid now (Payment place a) = λ t e. absurd cc
did-not-paid now (Reversal i) = λ t e. absurd cc

same-decides : (t : TillState) (s : Settling) (before now : List Row) (p : Pending) (f : StatusFacts) → IsLast before p.before → IsLast now f → now ≡ before → Decides t s before now p f
same-decides t s before now p f old new same =
    let currency : ℕ = t.settings.currency in
    let used = used_traces t.book s.settled in
    let rows : new.row ≡ old.row = last-same new.rows old.rows new.row old.row (sym new.is ∙ same ∙ old.is) in
    let told : f ≡ status_of_row old.row = new.tells ∙ ap status_of_row rows in
    record {
      settlement = did_not p.what;
      is =
          ap₂ (λ b g. decision currency t.book used (record { what = p.what; before = b }) g) old.tells told
          ∙ same_ledger_decides currency t.book used old.row p.what;
      so = did-not-so t before now p.what same;
      paid = did-not-paid now p.what;
      of_what = did-not-for p.what;
    }

row-number : (before now : List Row) (row : Row) → NumberedFrom 1 now → now ≡ before ++ row ∷ [] → row.number ≡ length before + 1
row-number before now row numbered grew =
    let at : slice_get now (length before) ≡ Some row = ap (λ l. slice_get l (length before)) grew ∙ slice_get-last before row in
    let n = numbered-at 1 now (length before) row numbered at in omega arith

one-number : (n t : ℕ) → list_any (λ x. nat_eq x t) (n ∷ []) ≡ true → n ≡ t
one-number n t e = (Decides-eqb n t).0 (or-false-true (nat_eq n t) e)
  where
    or-false-true : (b : Bool) → (b || false) ≡ true → b ≡ true
    or-false-true true q = refl
    or-false-true false q = absurd cc

payment-decides : (t : TillState) (s : Settling) (before now : List Row) (p : Pending) (f : StatusFacts) (place a : ℕ) (row : Row) → p.what ≡ Payment place a
    → IsLast before p.before → IsLast now f → IsWhat t.unclear (Payment place a) → NumberedFrom 1 now → NumberedFrom 1 before → AreOfRows (used_traces t.book s.settled) before
    → now ≡ before ++ row ∷ [] → row ≡ payment_row row.number a t.settings.currency → Decides t s before now p f
payment-decides t s before now p f place a row what old new unclear numbered first used grew is =
    let currency : ℕ = t.settings.currency in
    let next : ℕ = row.number in
    let traces = used_traces t.book s.settled in
    let same : new.row ≡ row = last-same new.rows before new.row row (sym new.is ∙ grew) in
    let told : f ≡ status_of_row (payment_row next a currency) = new.tells ∙ ap status_of_row (same ∙ is) in
    let number : next ≡ length before + 1 = row-number before now row numbered grew in
    record {
      settlement = Paid place next (Some (digits 2 next));
      is =
          ap₂ (λ w b. decision currency t.book traces (record { what = w; before = b }) f) what old.tells
          ∙ ap (λ g. decision currency t.book traces (record { what = Payment place a; before = status_of_row old.row }) g) told
          ∙ one_payment_decides currency t.book traces old.rows old.row place a next
          (subst (λ l. NumberedFrom 1 l) old.is first) (subst (λ l. AreOfRows traces l) old.is used) (subst (λ (l : List Row). next ≡ length l + 1) old.is number);
      so = subst (λ o. PaidIn t before now next o) (sym unclear.1) (grew ∙ ap (λ (r : Row). before ++ r ∷ []) is);
      paid = λ n e. let eq = one-number next n e in let size : length now ≡ length before + 1 = ap length grew ∙ length-append before (row ∷ []) in omega arith;
      of_what = subst (λ w. IsFor w (Paid place next (Some (digits 2 next)))) (sym what) refl;
    }

reversal-decides : (t : TillState) (s : Settling) (before now : List Row) (p : Pending) (f : StatusFacts) (place : ℕ) (row : Row) (x : Entry) → p.what ≡ Reversal place
    → IsLast before p.before → IsLast now f → NumberedFrom 1 now → NumberedFrom 1 before → slice_get t.book place ≡ Some x → x.trace ≤ 9999
    → now ≡ before ++ row ∷ [] → row ≡ reversal_row row.number x.amount x.trace t.settings.currency → Decides t s before now p f
reversal-decides t s before now p f place row x what old new numbered first found few grew is =
    let currency : ℕ = t.settings.currency in
    let next : ℕ = row.number in
    let traces = used_traces t.book s.settled in
    let same : new.row ≡ row = last-same new.rows before new.row row (sym new.is ∙ grew) in
    let told : f ≡ status_of_row (reversal_row next x.amount x.trace currency) = new.tells ∙ ap status_of_row (same ∙ is) in
    let number : next ≡ length before + 1 = row-number before now row numbered grew in
    record {
      settlement = Reversed place;
      is =
          ap₂ (λ w b. decision currency t.book traces (record { what = w; before = b }) f) what old.tells
          ∙ ap (λ g. decision currency t.book traces (record { what = Reversal place; before = status_of_row old.row }) g) told
          ∙ one_reversal_decides currency t.book traces old.rows old.row place next x
          (subst (λ l. NumberedFrom 1 l) old.is first) (subst (λ (l : List Row). next ≡ length l + 1) old.is number) found few;
      so = subst (λ o. ReversedIn t before now o) (sym found) (next, grew ∙ ap (λ (r : Row). before ++ r ∷ []) is);
      paid = λ n e. absurd cc;
      of_what = subst (λ w. IsFor w (Reversed place)) (sym what) tt;
    }

-- the status of the last row settles what is pending
pub answer-decides : (t : TillState) (s : Settling) (before now : List Row) (p : Pending) (f : StatusFacts) → NumberedFrom 1 now → length now ≤ 9999
    → Waits t.settings.currency (map row_of t.book) t.unclear (paid_traces s.settled) before now p → IsLast now f → Decides t s before now p f
answer-decides t s before now p f numbered few w new = by_growth w.grew
  where
    by_what : (a : What) → p.what ≡ a → (row : Row) → now ≡ before ++ row ∷ [] → RowFor t.settings.currency (map row_of t.book) (order_of a) row → Decides t s before now p f
    by_what (Payment place a) is row grew k =
        let first : NumberedFrom 1 before = numbered-first 1 before (row ∷ []) (subst (λ l. NumberedFrom 1 l) grew numbered) in
        payment-decides t s before now p f place a row is w.last new (subst (IsWhat t.unclear) is w.what) numbered first
        (used-rows t.settings.currency before t.book (paid_traces s.settled) first w.fresh) grew k
    by_what (Reversal place) is row grew k =
        let first : NumberedFrom 1 before = numbered-first 1 before (row ∷ []) (subst (λ l. NumberedFrom 1 l) grew numbered) in
        let x = found-entry t.book place k.0 k.1 in
        let short = in-ledger t.settings.currency before (map row_of t.book) place k.0 first w.fresh.books k.1 in
        let size : length now ≡ length before + 1 = ap length grew ∙ length-append before (row ∷ []) in
        let number : x.0.trace ≡ k.0.trace = ap (λ (b : Booked). b.trace) x.2 in
        reversal-decides t s before now p f place row x.0 is w.last new numbered first x.1 (omega arith) grew
        (k.2 ∙ ap (λ (b : Booked). reversal_row row.number b.amount b.trace t.settings.currency) (sym x.2))

    by_growth : GrewFor t.settings.currency (map row_of t.book) before now (order_of p.what) → Decides t s before now p f
    by_growth (inl same) = same-decides t s before now p f w.last new same
    by_growth (inr k) = by_what p.what refl k.0 k.1 k.2
