-- The doubts of a day are the reversals that its rows leave open.
use Rattle.std.proofs.Common.{◌≡◌, ℕ, zero, suc, ◌==◌, ◌<◌, ◌≤◌, Bool, true, false, not, cond, ◌&&◌, ◌||◌, List, [], ◌∷◌, ◌++◌, length, Option, Some, None, fold, refl, sym, ap, ap₂, subst, ◌∙◌, ◌⊎◌, inl, inr, arith, length-append, slice_get, slice_set, eq-eqb, ne_eqb}
use Rattle.std.specs.List.{list_any}
use Rattle.std.proofs.Math.Bool.{and-false}
use Rattle.zvt_till.specs.Doubts.{already_reversed, is_unclear}
use Rattle.zvt_till.specs.declared.entries.Doubt.TheVariants.{No, TakenBack}
use Rattle.zvt_till.specs.declared.entries.Entry.{Entry}
use Rattle.zvt_till.specs.declared.happenings.Sent.{Sent}
use Rattle.zvt_till.specs.declared.happenings.Sent.TheVariants.{Register, Pay, Reverse, CloseDay, Cancel, Foreign}
use Rattle.zvt_till.specs.declared.orders.Order.TheVariants.{Pay as PayOrder, Reverse as ReverseOrder}
use Rattle.zvt_till.specs.declared.outcomes.Outcome.{Outcome}
use Rattle.zvt_till.specs.declared.outcomes.Outcome.TheVariants.{Registered, Paid, Declined, Refused, Aborted, Unclear, Reversed, DayClosed}
use Rattle.zvt_till.specs.Till.{book_after, entry_after}
use Rattle.zvt_till.proofs.Segments.{list_any-snoc}
use Rattle.zvt_report.specs.Chapters.{Chapter, chapters}
use Rattle.zvt_report.specs.Day.{DayValue, day_after, day_of, judged_as, no_orders}
use Rattle.zvt_report.specs.Day as day
use Rattle.zvt_report.specs.Laws.{AreOfEntries, DoubtsAreLeftOpen, IsOfEntry}
use Rattle.zvt_report.specs.Looks.{decides, decides_as, decides_by}
use Rattle.zvt_report.specs.LookLaws.{is_left_open, is_open_by}
use Rattle.zvt_report.specs.declared.rows.OrderRow.{OrderRow}

-- ---- lists

get-set-same : (book : List Entry) (i : ℕ) (v : Entry) → i < length book → slice_get (slice_set book i v) i ≡ Some v
get-set-same [] i v lt = absurd (omega arith)
get-set-same (x ∷ xs) zero v lt = refl
get-set-same (x ∷ xs) (suc i) v lt = get-set-same xs i v (omega arith)

get-set-other : (book : List Entry) (i j : ℕ) (v : Entry) → (i ≡ j → ⊥) → slice_get (slice_set book i v) j ≡ slice_get book j
get-set-other [] i j v apart = refl
get-set-other (x ∷ xs) zero zero v apart = absurd (apart refl)
get-set-other (x ∷ xs) zero (suc j) v apart = refl
get-set-other (x ∷ xs) (suc i) zero v apart = refl
get-set-other (x ∷ xs) (suc i) (suc j) v apart = get-set-other xs i j v (λ e. apart (ap suc e))

length-set : (book : List Entry) (i : ℕ) (v : Entry) → length (slice_set book i v) ≡ length book
length-set [] i v = refl
length-set (x ∷ xs) zero v = refl
length-set (x ∷ xs) (suc i) v = ap suc (length-set xs i v)

got : (book : List Entry) (i : ℕ) → i < length book → (entry : Entry) × (slice_get book i ≡ Some entry)
got [] i lt = absurd (omega arith)
got (x ∷ xs) zero lt = (x, refl)
got (x ∷ xs) (suc i) lt = got xs i (omega arith)

get-push : (book : List Entry) (x : Entry) (j : ℕ) (entry : Entry) → slice_get (book ++ x ∷ []) j ≡ Some entry → (slice_get book j ≡ Some entry) ⊎ ((length book ≤ j) × (x ≡ entry))
get-push [] x zero entry e = inr (omega arith, cc)
get-push [] x (suc j) entry e = absurd cc
get-push (y ∷ ys) x zero entry e = inl e
get-push (y ∷ ys) x (suc j) entry e = later (get-push ys x j entry e)
  where
    later : (slice_get ys j ≡ Some entry) ⊎ ((length ys ≤ j) × (x ≡ entry)) → (slice_get ys j ≡ Some entry) ⊎ ((length (y ∷ ys) ≤ suc j) × (x ≡ entry))
    later (inl f) = inl f
    later (inr w) = inr (omega (arith, w.0), w.1)

-- ---- one row more

one-open : (b : Bool) → ((b && true) || false) ≡ (b || false)
one-open true = refl
one-open false = refl

more-open : (a b d o l : Bool) → ((a && not (b || d)) || (o || (l && not d))) ≡ (o || (((a && not b) || l) && not d))
more-open false b d o l = refl
more-open true true d o l = refl
more-open true false true true l = refl
more-open true false true false true = refl
more-open true false true false false = refl
more-open true false false true l = refl
more-open true false false false l = refl

left-snoc : (place : ℕ) (rows : List OrderRow) (row : OrderRow)
    → is_left_open place (rows ++ row ∷ []) ≡ (is_open_by place row.order row.outcome || (is_left_open place rows && not (decides place row)))
left-snoc place [] row = one-open (is_open_by place row.order row.outcome)
left-snoc place (r ∷ rows) row =
    ap₂ (λ b l. (is_open_by place r.order r.outcome && not b) || l) (list_any-snoc (decides place) rows row) (left-snoc place rows row)
    ∙ more-open (is_open_by place r.order r.outcome) (list_any (decides place) rows) (decides place row) (is_open_by place row.order row.outcome) (is_left_open place rows)

and-true : (b : Bool) → (b && true) ≡ b
and-true true = refl
and-true false = refl

-- ---- the doubts so far

pub record Open (book : List Entry) (rows : List OrderRow) : Type 0 where
  pub doubts : (place : ℕ) (entry : Entry) → slice_get book place ≡ Some entry → is_unclear entry ≡ is_left_open place rows
  pub beyond : (place : ℕ) → length book ≤ place → is_left_open place rows ≡ false

-- a row that leaves open what was open, and nothing more
plain-row : (book : List Entry) (rows : List OrderRow) (row : OrderRow) → ((place : ℕ) → is_left_open place (rows ++ row ∷ []) ≡ is_left_open place rows) → Open book rows → Open book (rows ++ row ∷ [])
plain-row book rows row same o =
    record {
      doubts = λ place entry e. o.doubts place entry e ∙ sym (same place);
      beyond = λ place past. same place ∙ o.beyond place past;
    }

untouched : (rows : List OrderRow) (row : OrderRow) (place : ℕ) → is_open_by place row.order row.outcome ≡ false → decides place row ≡ false → is_left_open place (rows ++ row ∷ []) ≡ is_left_open place rows
untouched rows row place closed idle =
    left-snoc place rows row ∙ ap₂ (λ a d. a || (is_left_open place rows && not d)) closed idle ∙ and-true (is_left_open place rows)

paid-row : (book : List Entry) (rows : List OrderRow) (row : OrderRow) (x : Entry) → is_unclear x ≡ false → ((place : ℕ) → is_left_open place (rows ++ row ∷ []) ≡ is_left_open place rows) → Open book rows
    → Open (book ++ x ∷ []) (rows ++ row ∷ [])
paid-row book rows row x certain same o =
    record {
      doubts = λ place entry e. by_place place entry (get-push book x place entry e);
      beyond = λ place past. same place ∙ o.beyond place (omega (arith, past, length-append book (x ∷ [])));
    }
  where
    by_place : (place : ℕ) (entry : Entry) → (slice_get book place ≡ Some entry) ⊎ ((length book ≤ place) × (x ≡ entry)) → is_unclear entry ≡ is_left_open place (rows ++ row ∷ [])
    by_place place entry (inl e) = o.doubts place entry e ∙ sym (same place)
    by_place place entry (inr w) = ap is_unclear (sym w.1) ∙ certain ∙ sym (same place ∙ o.beyond place w.0)

-- what a reversal leaves open of its own entry
told-open : (row : Entry) (known : Bool) → is_unclear (record row { doubt = cond known TakenBack row.doubt }) ≡ (is_unclear row && not known)
told-open row true = sym (and-false (is_unclear row))
told-open row false = sym (and-true (is_unclear row))

own-open : (place : ℕ) (row : Entry) (out : Outcome) → is_unclear (entry_after row out) ≡ (is_open_by place (Reverse place) out || (is_unclear row && not (decides_as (Reverse place) out place)))
own-open place row out = by out
  where
    self : (place == place) ≡ true
    self = eq-eqb place place refl

    idle : (b : Bool) → is_unclear row ≡ (is_unclear row && not (b && false))
    idle true = sym (and-true (is_unclear row))
    idle false = sym (and-true (is_unclear row))

    by : (out : Outcome) → is_unclear (entry_after row out) ≡ (is_open_by place (Reverse place) out || (is_unclear row && not (decides_as (Reverse place) out place)))
    by Registered = idle (place == place)
    by (Paid t r) = idle (place == place)
    by (Declined k) = idle (place == place)
    by (Refused k) = told-open row (k == already_reversed) ∙ ap (λ b. is_unclear row && not (b && (k == already_reversed))) (sym self)
    by (Aborted k) = told-open row (k == already_reversed) ∙ ap (λ b. is_unclear row && not (b && (k == already_reversed))) (sym self)
    by (Unclear x) = ap (λ b. b || (is_unclear row && not (b && true))) (sym self)
    by Reversed = sym (and-false (is_unclear row)) ∙ ap (λ b. is_unclear row && not (b && true)) (sym self)
    by DayClosed = idle (place == place)

other-open : (k place : ℕ) (out : Outcome) → (k ≡ place → ⊥) → is_open_by place (Reverse k) out ≡ false
other-open k place Registered apart = refl
other-open k place (Paid t r) apart = refl
other-open k place (Declined c) apart = refl
other-open k place (Refused c) apart = refl
other-open k place (Aborted c) apart = refl
other-open k place (Unclear x) apart = ne_eqb k place apart
other-open k place Reversed apart = refl
other-open k place DayClosed apart = refl

reversed-row : (book : List Entry) (rows : List OrderRow) (row : OrderRow) (k : ℕ) → row.order ≡ Reverse k → k < length book → Open book rows
    → Open (book_after book (ReverseOrder k) row.outcome) (rows ++ row ∷ [])
reversed-row book rows row k is lt o =
    subst (λ b. Open b (rows ++ row ∷ [])) (sym changed) (record { doubts = λ place entry e. by_place place entry e (same-place k place); beyond = λ place past. past_all place (omega (arith, past, length-set book k v)) })
  where
    old : Entry
    old = (got book k lt).0

    at : slice_get book k ≡ Some old
    at = (got book k lt).1

    v : Entry
    v = entry_after old row.outcome

    changed : book_after book (ReverseOrder k) row.outcome ≡ slice_set book k v
    changed = ap (λ (x : Option Entry). elim x as (λ y. List Entry) [ None ↦ book | Some entry ↦ slice_set book k (entry_after entry row.outcome) ]) at

    same-place : (i j : ℕ) → (i ≡ j) ⊎ (i ≡ j → ⊥)
    same-place zero zero = inl refl
    same-place zero (suc j) = inr (λ e. absurd (omega arith))
    same-place (suc i) zero = inr (λ e. absurd (omega arith))
    same-place (suc i) (suc j) = onward (same-place i j)
      where
        onward : (i ≡ j) ⊎ (i ≡ j → ⊥) → (suc i ≡ suc j) ⊎ (suc i ≡ suc j → ⊥)
        onward (inl e) = inl (ap suc e)
        onward (inr ne) = inr (λ e. ne (omega arith))

    apart_from : (place : ℕ) → (k ≡ place → ⊥) → is_left_open place (rows ++ row ∷ []) ≡ is_left_open place rows
    apart_from place ne =
        untouched rows row place
        (ap (λ (s : Sent). is_open_by place s row.outcome) is ∙ other-open k place row.outcome ne)
        (ap (λ (s : Sent). decides_as s row.outcome place) is ∙ ap (λ b. b && decides_by row.outcome) (ne_eqb k place ne))

    own : is_unclear v ≡ is_left_open k (rows ++ row ∷ [])
    own =
        own-open k old row.outcome
        ∙ ap₂ (λ (s : Sent) l. is_open_by k s row.outcome || (l && not (decides_as s row.outcome k))) (sym is) (o.doubts k old at)
        ∙ sym (left-snoc k rows row)

    by_place : (place : ℕ) (entry : Entry) → slice_get (slice_set book k v) place ≡ Some entry → (k ≡ place) ⊎ (k ≡ place → ⊥) → is_unclear entry ≡ is_left_open place (rows ++ row ∷ [])
    by_place place entry e (inl same) =
        let here : slice_get (slice_set book k v) place ≡ Some v = ap (slice_get (slice_set book k v)) (sym same) ∙ get-set-same book k v lt in
        let found : v ≡ entry = cc in
        ap is_unclear (sym found) ∙ own ∙ ap (λ p. is_left_open p (rows ++ row ∷ [])) same
    by_place place entry e (inr ne) = o.doubts place entry (sym (get-set-other book k place v ne) ∙ e) ∙ sym (apart_from place ne)

    past_all : (place : ℕ) → length book ≤ place → is_left_open place (rows ++ row ∷ []) ≡ false
    past_all place past = apart_from place (λ e. absurd (omega (arith, lt, past))) ∙ o.beyond place past

payment-row : (book : List Entry) (rows : List OrderRow) (row : OrderRow) (a : ℕ) (out : Outcome) → ((place : ℕ) → is_left_open place (rows ++ row ∷ []) ≡ is_left_open place rows) → Open book rows
    → Open (book_after book (PayOrder a) out) (rows ++ row ∷ [])
payment-row book rows row a Registered same o = plain-row book rows row same o
payment-row book rows row a (Paid t r) same o = paid-row book rows row (record { amount = a; trace = t; receipt = r; reversed = false; doubt = No }) refl same o
payment-row book rows row a (Declined k) same o = plain-row book rows row same o
payment-row book rows row a (Refused k) same o = plain-row book rows row same o
payment-row book rows row a (Aborted k) same o = plain-row book rows row same o
payment-row book rows row a (Unclear x) same o = plain-row book rows row same o
payment-row book rows row a Reversed same o = plain-row book rows row same o
payment-row book rows row a DayClosed same o = plain-row book rows row same o

-- an order that is no reversal
other-row : (rows : List OrderRow) (row : OrderRow) (s : Sent) → row.order ≡ s → ((place : ℕ) → is_open_by place s row.outcome ≡ false) → ((place : ℕ) → decides_as s row.outcome place ≡ false)
    → (place : ℕ) → is_left_open place (rows ++ row ∷ []) ≡ is_left_open place rows
other-row rows row s is closed idle place =
    untouched rows row place (ap (λ (x : Sent). is_open_by place x row.outcome) is ∙ closed place) (ap (λ (x : Sent). decides_as x row.outcome place) is ∙ idle place)

row-more : (book : List Entry) (rows : List OrderRow) (row : OrderRow) (s : Sent) → row.order ≡ s → IsOfEntry book s → Open book rows → Open (book_after book (judged_as s) row.outcome) (rows ++ row ∷ [])
row-more book rows row (Register c) is p o = plain-row book rows row (other-row rows row (Register c) is (λ place. refl) (λ place. refl)) o
row-more book rows row (Pay a) is p o = payment-row book rows row a row.outcome (other-row rows row (Pay a) is (λ place. refl) (λ place. refl)) o
row-more book rows row (Reverse k) is p o = reversed-row book rows row k is p o
row-more book rows row CloseDay is p o = plain-row book rows row (other-row rows row CloseDay is (λ place. refl) (λ place. refl)) o
row-more book rows row Cancel is p o = plain-row book rows row (other-row rows row Cancel is (λ place. refl) (λ place. refl)) o
row-more book rows row Foreign is p o = plain-row book rows row (other-row rows row Foreign is (λ place. refl) (λ place. refl)) o

open-all : (d : DayValue) (cs : List Chapter) → AreOfEntries d cs → Open d.book d.orders → Open (fold day_after d cs).book (fold day_after d cs).orders
open-all d [] p o = o
open-all d (c ∷ cs) p o = open-all (day_after d c) cs p.1 (row-more d.book d.orders (day.row_of d.book d.unclear c) c.order refl p.0 o)

pub doubts_are_left_open : DoubtsAreLeftOpen
doubts_are_left_open notes place entry p at =
    (open-all no_orders (chapters notes) p (record { doubts = λ i e q. absurd cc; beyond = λ i past. refl })).doubts place entry at
