-- How many approvals of an amount the ledger has, by the entries and the settlements, while nothing runs or something does.
-- For the proof that both are exactly as many.
use Rattle.std.proofs.Common.{◌≡◌, ℕ, ◌+◌, ◌<◌, ◌⊎◌, inl, inr, true, false, cond, ◌==◌, nat_lt, List, [], ◌∷◌, ◌++◌, length, Option, Some, None, map, slice_get, count_by, IsTrue, refl, sym, ap, ap₂, subst, ◌∙◌, arith, ne_eqb, length-append}
use Rattle.std.proofs.lemmas.Bool.{lt-ltb, ltb-true}
use Rattle.std.proofs.lemmas.List.Sums.{sum_by_push, sum_by-cons}
use Rattle.std.proofs.lemmas.Option.{slice_get_within}
use Rattle.zvt_till.specs.declared.entries.Entry.{Entry}
use Rattle.zvt_till.specs.declared.messages.CurrencyFact.{CurrencyFact}
use Rattle.zvt_till.specs.declared.orders.Order.{Order}
use Rattle.zvt_till.specs.declared.orders.Order.TheVariants.{Register, Pay, Reverse, CloseDay, Cancel}
use Rattle.zvt_till.specs.declared.outcomes.Cause.{Cause}
use Rattle.zvt_till.specs.declared.statuses.Running.{Running}
use Rattle.zvt_till.specs.Books.{Booked}
use Rattle.zvt_till.specs.Laws.{row_of}
use Rattle.zvt_term.specs.declared.ledger.Row.{Row}
use Rattle.zvt_term.specs.declared.messages.Asked.TheVariants.{Authorisation, Reversal as ReversalAsked}
use Rattle.zvt_term.specs.Orderly.{Line, approves_amount, approvals, entries_of_amount}
use Rattle.zvt_term.proofs.Accounts.{approvals-push}
use Rattle.zvt_term.proofs.Matching.{slice_get-prefix, slice_get-last}
use Rattle.zvt_settle.specs.declared.deciding.Pending.{Pending}
use Rattle.zvt_settle.specs.declared.deciding.Settlement.{Settlement}
use Rattle.zvt_settle.specs.declared.deciding.Settlement.TheVariants.{Paid, NotPaid, Reversed, NotReversed}
use Rattle.zvt_settle.specs.declared.deciding.What.{What}
use Rattle.zvt_settle.specs.declared.deciding.What.TheVariants.{Payment, Reversal}
use Rattle.zvt_term.specs.AskedWorld.{payment_row, settles_row, AreAllSettled, pays_this, paid_in}
use Rattle.zvt_term.proofs.AskedMeans.{Word, Plain, Meant}
use Rattle.zvt_term.proofs.Standing.{GrewFor, asked_on}

-- ---- sums

abbrev pub booked : ℕ → List Booked → ℕ
booked b rows = count_by (λ (x : Booked). x.amount == b) rows

pub booked-entries : (b : ℕ) (book : List Entry) → entries_of_amount b book ≡ booked b (map row_of book)
booked-entries b [] = refl
booked-entries b (x ∷ book) =
    sum_by-cons (λ (e : Entry). cond (e.amount == b) 1 0) x book ∙ ap (λ n. cond (x.amount == b) 1 0 + n) (booked-entries b book)
    ∙ sym (sum_by-cons (λ (r : Booked). cond (r.amount == b) 1 0) (row_of x) (map row_of book))

pub booked-push : (b : ℕ) (rows : List Booked) (row : Booked) → booked b (rows ++ row ∷ []) ≡ booked b rows + cond (row.amount == b) 1 0
booked-push b rows row = sum_by_push (λ (r : Booked). cond (r.amount == b) 1 0) rows row

abbrev pub paid : ℕ → List (ℕ × Cause) → List Settlement → ℕ
paid b loose settled = count_by (paid_in b loose) settled

pub paid-push : (b : ℕ) (loose : List (ℕ × Cause)) (settled : List Settlement) (x : Settlement) → paid b loose (settled ++ x ∷ []) ≡ paid b loose settled + cond (paid_in b loose x) 1 0
paid-push b loose settled x = sum_by_push (λ s. cond (paid_in b loose s) 1 0) settled x

pub settles-push : (place : ℕ) (settled : List Settlement) (x : Settlement) → count_by (settles_row place) (settled ++ x ∷ []) ≡ count_by (settles_row place) settled + cond (settles_row place x) 1 0
settles-push place settled x = sum_by_push (λ s. cond (settles_row place s) 1 0) settled x

-- a settlement of a payment is of an unclear one
abbrev pub Placed : List (ℕ × Cause) → Settlement → Type 0
Placed loose (Paid place t r) = (y : ℕ × Cause) × (slice_get loose place ≡ Some y)
Placed loose (NotPaid place) = (y : ℕ × Cause) × (slice_get loose place ≡ Some y)
Placed loose (Reversed e) = Unit {0}
Placed loose (NotReversed e) = Unit {0}

abbrev pub AllPlaced : List (ℕ × Cause) → List Settlement → Type 0
AllPlaced loose [] = Unit {0}
AllPlaced loose (s ∷ more) = Placed loose s × AllPlaced loose more

placed-more : (loose : List (ℕ × Cause)) (x : ℕ × Cause) (s : Settlement) → Placed loose s → Placed (loose ++ x ∷ []) s
placed-more loose x (Paid place t r) k = (k.0, slice_get-prefix loose (x ∷ []) place k.0 k.1)
placed-more loose x (NotPaid place) k = (k.0, slice_get-prefix loose (x ∷ []) place k.0 k.1)
placed-more loose x (Reversed e) k = tt
placed-more loose x (NotReversed e) k = tt

pub all-placed-more : (loose : List (ℕ × Cause)) (x : ℕ × Cause) (settled : List Settlement) → AllPlaced loose settled → AllPlaced (loose ++ x ∷ []) settled
all-placed-more loose x [] k = tt
all-placed-more loose x (s ∷ more) k = (placed-more loose x s k.0, all-placed-more loose x more k.1)

pub all-placed-push : (loose : List (ℕ × Cause)) (settled : List Settlement) (s : Settlement) → AllPlaced loose settled → Placed loose s → AllPlaced loose (settled ++ s ∷ [])
all-placed-push loose [] s k p = (p, tt)
all-placed-push loose (x ∷ more) s k p = (k.0, all-placed-push loose more s k.1 p)

paid-same : (b : ℕ) (loose : List (ℕ × Cause)) (x : ℕ × Cause) (s : Settlement) → Placed loose s → paid_in b (loose ++ x ∷ []) s ≡ paid_in b loose s
paid-same b loose x (Paid place t r) k = ap (pays_this b) (slice_get-prefix loose (x ∷ []) place k.0 k.1 ∙ sym k.1)
paid-same b loose x (NotPaid place) k = refl
paid-same b loose x (Reversed e) k = refl
paid-same b loose x (NotReversed e) k = refl

-- one more unclear payment
pub paid-grown : (b : ℕ) (loose : List (ℕ × Cause)) (x : ℕ × Cause) (settled : List Settlement) → AllPlaced loose settled → paid b (loose ++ x ∷ []) settled ≡ paid b loose settled
paid-grown b loose x [] k = refl
paid-grown b loose x (s ∷ more) k =
    sum_by-cons (λ y. cond (paid_in b (loose ++ x ∷ []) y) 1 0) s more
    ∙ ap₂ (λ f n. cond f 1 0 + n) (paid-same b loose x s k.0) (paid-grown b loose x more k.1)
    ∙ sym (sum_by-cons (λ y. cond (paid_in b loose y) 1 0) s more)

not-here : (loose : List (ℕ × Cause)) (place : ℕ) (y : ℕ × Cause) → slice_get loose place ≡ Some y → (place == length loose) ≡ false
not-here loose place y e = let within : place < length loose = slice_get_within loose place y e in ne_eqb place (length loose) (λ q. absurd (omega arith))

unsettled : (loose : List (ℕ × Cause)) (s : Settlement) → Placed loose s → settles_row (length loose) s ≡ false
unsettled loose (Paid place t r) k = not-here loose place k.0 k.1
unsettled loose (NotPaid place) k = not-here loose place k.0 k.1
unsettled loose (Reversed e) k = refl
unsettled loose (NotReversed e) k = refl

-- it is not settled yet
pub none-settled : (loose : List (ℕ × Cause)) (settled : List Settlement) → AllPlaced loose settled → count_by (settles_row (length loose)) settled ≡ 0
none-settled loose [] k = refl
none-settled loose (s ∷ more) k =
    sum_by-cons (λ y. cond (settles_row (length loose) y) 1 0) s more ∙ ap₂ (λ f n. cond f 1 0 + n) (unsettled loose s k.0) (none-settled loose more k.1)

-- ---- tallies

-- all unclear payments but this one were settled
abbrev pub AllBut : (place : ℕ) → List (ℕ × Cause) → List Settlement → Type 0
AllBut place loose settled = (i : ℕ) → IsTrue (nat_lt i (length loose)) → (i ≡ place → ⊥) → count_by (settles_row i) settled ≡ 1

abbrev pub Equal : List Row → List Booked → List (ℕ × Cause) → List Settlement → (ℕ → ℕ) → Type 0
Equal now rows loose settled extra = (b : ℕ) → approvals b now ≡ booked b rows + paid b loose settled + extra b

abbrev pub nothing : ℕ → ℕ
nothing b = 0

abbrev pub one_of : (a : ℕ) → ℕ → ℕ
one_of a b = cond (a == b) 1 0

abbrev pub EvenIf : List Row → List Booked → List (ℕ × Cause) → List Settlement → Type 0
EvenIf now rows loose settled = AreAllSettled loose settled → Equal now rows loose settled nothing

-- a payment that may have been approved, given what is known
abbrev pub MayAdd : (own : ℕ) → (before now : List Row) → List Booked → List (ℕ × Cause) → List Settlement → (a : ℕ) → Type 0 → Type 0
MayAdd own before now rows loose settled a Given =
    ((now ≡ before) × (Given → Equal now rows loose settled nothing))
    ⊎ ((row : Row) × (now ≡ before ++ row ∷ []) × (row ≡ payment_row row.number a own) × (Given → Equal now rows loose settled (one_of a)))

abbrev pub IsPayment : What → Type 0
IsPayment (Payment place a) = Unit {0}
IsPayment (Reversal e) = ⊥

pub data Tally (own : ℕ) (before now : List Row) (rows : List Booked) (loose : List (ℕ × Cause)) (settled : List Settlement) (pending : Option Pending) : Type 0 where
  -- no payment is pending
  Even : ((p : Pending) → pending ≡ Some p → IsPayment p.what → ⊥) → EvenIf now rows loose settled → Tally own before now rows loose settled pending
  -- this unclear payment was not settled, and another is not pending
  Odd : (place a : ℕ) (cause : Cause) → slice_get loose place ≡ Some (a, cause) → count_by (settles_row place) settled ≡ 0 → ((p : Pending) → pending ≡ Some p → p.what ≡ Payment place a)
      → MayAdd own before now rows loose settled a (AllBut place loose settled) → Tally own before now rows loose settled pending

within-true : (i n : ℕ) → i < n → IsTrue (nat_lt i n)
within-true i n h = lt-ltb i n h

-- whatever was left unsettled before, it is even if all was settled
pub even-of : (own : ℕ) (before now : List Row) (rows : List Booked) (loose : List (ℕ × Cause)) (settled : List Settlement) (pending : Option Pending) → Tally own before now rows loose settled pending → EvenIf now rows loose settled
even-of own before now rows loose settled pending (Even n k) = k
even-of own before now rows loose settled pending (Odd place a cause at none what may) =
    λ all. let one = all place (within-true place (length loose) (slice_get_within loose place (a, cause) at)) in absurd (omega (arith, one, none))

-- ---- while an order runs, and after the till lost its line

abbrev pub OrderTally : Order → (own : ℕ) → (before now : List Row) → List Booked → List (ℕ × Cause) → List Settlement → Option Pending → Type 0
OrderTally Register own before now rows loose settled pending = Tally own before now rows loose settled pending
OrderTally (Pay a) own before now rows loose settled pending = MayAdd own before now rows loose settled a (AreAllSettled loose settled)
OrderTally (Reverse i) own before now rows loose settled pending = EvenIf now rows loose settled
OrderTally CloseDay own before now rows loose settled pending = Tally own before now rows loose settled pending
OrderTally Cancel own before now rows loose settled pending = Tally own before now rows loose settled pending

abbrev pub RunTally : Option Running → (own : ℕ) → (before now : List Row) → List Booked → List (ℕ × Cause) → List Settlement → Option Pending → Type 0
RunTally None own before now rows loose settled pending = Tally own before now rows loose settled pending
RunTally (Some r) own before now rows loose settled pending = OrderTally r.order own before now rows loose settled pending

-- the payment whose message may still arrive
pub record OddFresh (before now : List Row) (rows : List Booked) (loose : List (ℕ × Cause)) (settled : List Settlement) (pending : Option Pending) (a : ℕ) : Type 0 where
  pub place : ℕ
  pub cause : Cause
  pub at : slice_get loose place ≡ Some (a, cause)
  pub none : count_by (settles_row place) settled ≡ 0
  pub what : (p : Pending) → pending ≡ Some p → p.what ≡ Payment place a
  pub same : now ≡ before
  pub equal : AllBut place loose settled → Equal now rows loose settled nothing

pub record HangsAs (before now : List Row) (rows : List Booked) (loose : List (ℕ × Cause)) (settled : List Settlement) (pending : Option Pending) (asked : List Word) : Type 0 where
  pub payment : (a : ℕ) (named : CurrencyFact) → asked ≡ Plain (Authorisation (Some a) named) ∷ [] → OddFresh before now rows loose settled pending a
  pub reversal : (receipt : Option (List ℕ)) → asked ≡ Plain (ReversalAsked receipt) ∷ [] → (p : Pending) → pending ≡ Some p → IsPayment p.what → ⊥

pub record Counts (own : ℕ) (w : Meant) (c : Line) : Type 0 where
  pub placed : AllPlaced w.till.unclear w.settling.settled
  pub tally : RunTally w.till.running own w.before w.terminal.ledger (map row_of w.till.book) w.till.unclear w.settling.settled w.settling.pending
  pub hangs : c.till_lost ≡ true → HangsAs w.before w.terminal.ledger (map row_of w.till.book) w.till.unclear w.settling.settled w.settling.pending (asked_on w c)

-- ---- the ledger grows

equal-as : (now later : List Row) (rows : List Booked) (loose : List (ℕ × Cause)) (settled : List Settlement) (extra : ℕ → ℕ) → later ≡ now → Equal now rows loose settled extra → Equal later rows loose settled extra
equal-as now later rows loose settled extra e k = subst (λ l. Equal l rows loose settled extra) (sym e) k

longer : (xs : List Row) (row : Row) → xs ≡ xs ++ row ∷ [] → ⊥
longer xs row e = let n : length xs ≡ length (xs ++ row ∷ []) = ap length e in absurd (omega (arith, n, length-append xs (row ∷ [])))

pub not-both : (before now : List Row) (row : Row) → now ≡ before → now ≡ before ++ row ∷ [] → ⊥
not-both before now row e f = longer before row (sym e ∙ f)

-- an approval is one more
approved : (now : List Row) (rows : List Booked) (loose : List (ℕ × Cause)) (settled : List Settlement) (row : Row) (a own : ℕ) → row ≡ payment_row row.number a own
    → Equal now rows loose settled nothing → Equal (now ++ row ∷ []) rows loose settled (one_of a)
approved now rows loose settled row a own is k b =
    let n = k b in
    let more : approvals b (now ++ row ∷ []) ≡ approvals b now + cond (a == b) 1 0 = approvals-push b now row ∙ ap (λ (r : Row). approvals b now + cond (approves_amount b r) 1 0) is in omega (arith, n, more)

-- a payment that was not approved yet, as the ledger grows for it
pub grown : (own : ℕ) (before now later : List Row) (rows : List Booked) (loose : List (ℕ × Cause)) (settled : List Settlement) (a : ℕ) (Given : Type 0)
    → now ≡ before → (Given → Equal now rows loose settled nothing) → GrewFor own rows before later (Pay a) → MayAdd own before later rows loose settled a Given
grown own before now later rows loose settled a Given same k (inl e) = inl (e, λ g. equal-as now later rows loose settled nothing (e ∙ sym same) (k g))
grown own before now later rows loose settled a Given same k (inr w) =
    inr (w.0, w.1, w.2, λ g. subst (λ l. Equal l rows loose settled (one_of a)) (sym w.1) (approved before rows loose settled w.0 a own w.2 (equal-as now before rows loose settled nothing (sym same) (k g))))

-- a reversal adds no approval
pub reversal-grown : (own : ℕ) (before later : List Row) (rows : List Booked) (loose : List (ℕ × Cause)) (settled : List Settlement) (i : ℕ)
    → Equal before rows loose settled nothing → GrewFor own rows before later (Reverse i) → Equal later rows loose settled nothing
reversal-grown own before later rows loose settled i k (inl e) = equal-as before later rows loose settled nothing e k
reversal-grown own before later rows loose settled i k (inr w) =
    subst (λ l. Equal l rows loose settled nothing) (sym w.1)
    (λ b.
    let n = k b in
    let more : approvals b (before ++ w.0 ∷ []) ≡ approvals b before + 0 = approvals-push b before w.0 ∙ ap (λ (r : Row). approvals b before + cond (approves_amount b r) 1 0) w.2.2 in omega (arith, n, more))

pub tally-as : (own : ℕ) (before now later : List Row) (rows : List Booked) (loose : List (ℕ × Cause)) (settled : List Settlement) (pending : Option Pending) → later ≡ now
    → Tally own before now rows loose settled pending → Tally own before later rows loose settled pending
tally-as own before now later rows loose settled pending e k = subst (λ l. Tally own before l rows loose settled pending) (sym e) k

-- ---- the order ends

still : (own : ℕ) (before now : List Row) (rows : List Booked) (loose : List (ℕ × Cause)) (settled : List Settlement) (a : ℕ) (cause : Cause) → AllPlaced loose settled
    → MayAdd own before now rows loose settled a (AreAllSettled loose settled) → MayAdd own before now rows (loose ++ (a, cause) ∷ []) settled a (AllBut (length loose) (loose ++ (a, cause) ∷ []) settled)
still own before now rows loose settled a cause placed may = by_may may
  where
    all : AllBut (length loose) (loose ++ (a, cause) ∷ []) settled → AreAllSettled loose settled
    all k i h =
        let small : i < length loose = ltb-true i (length loose) h in
        k i (within-true i (length (loose ++ (a, cause) ∷ [])) (omega (arith, small, length-append loose ((a, cause) ∷ [])))) (λ e. absurd (omega (arith, e, small)))

    same : (extra : ℕ → ℕ) → Equal now rows loose settled extra → Equal now rows (loose ++ (a, cause) ∷ []) settled extra
    same extra k b = k b ∙ ap (λ n. booked b rows + n + extra b) (sym (paid-grown b loose (a, cause) settled placed))

    by_may : MayAdd own before now rows loose settled a (AreAllSettled loose settled) → MayAdd own before now rows (loose ++ (a, cause) ∷ []) settled a (AllBut (length loose) (loose ++ (a, cause) ∷ []) settled)
    by_may (inl k) = inl (k.0, λ g. same nothing (k.1 (all g)))
    by_may (inr k) = inr (k.0, k.1, k.2, λ g. same (one_of a) (k.3 (all g)))

pub pay-unclear : (own : ℕ) (before now : List Row) (rows : List Booked) (loose : List (ℕ × Cause)) (settled : List Settlement) (pending : Option Pending) (a : ℕ) (cause : Cause) → AllPlaced loose settled
    → ((p : Pending) → pending ≡ Some p → p.what ≡ Payment (length loose) a) → MayAdd own before now rows loose settled a (AreAllSettled loose settled)
    → Tally own before now rows (loose ++ (a, cause) ∷ []) settled pending
pay-unclear own before now rows loose settled pending a cause placed what may =
    Odd (length loose) a cause (slice_get-last loose (a, cause)) (none-settled loose settled placed) what (still own before now rows loose settled a cause placed may)

pub pay-booked : (now : List Row) (rows : List Booked) (loose : List (ℕ × Cause)) (settled : List Settlement) (a : ℕ) (row : Booked) → row.amount ≡ a
    → Equal now rows loose settled (one_of a) → Equal now (rows ++ row ∷ []) loose settled nothing
pay-booked now rows loose settled a row e k b =
    let n = k b in
    let more : booked b (rows ++ row ∷ []) ≡ booked b rows + cond (a == b) 1 0 = booked-push b rows row ∙ ap (λ (x : ℕ). booked b rows + cond (x == b) 1 0) e in omega (arith, n, more)

-- a payment whose message is on the way, as the till loses its line
pub odd-fresh : (own : ℕ) (before now : List Row) (rows : List Booked) (loose : List (ℕ × Cause)) (settled : List Settlement) (pending : Option Pending) (a : ℕ) (cause : Cause) → AllPlaced loose settled
    → ((p : Pending) → pending ≡ Some p → p.what ≡ Payment (length loose) a) → now ≡ before → MayAdd own before now rows loose settled a (AreAllSettled loose settled)
    → OddFresh before now rows (loose ++ (a, cause) ∷ []) settled pending a
odd-fresh own before now rows loose settled pending a cause placed what same may =
    record {
      place = length loose;
      cause = cause;
      at = slice_get-last loose (a, cause);
      none = none-settled loose settled placed;
      what = what;
      same = same;
      equal = by_may (still own before now rows loose settled a cause placed may);
    }
  where
    by_may : MayAdd own before now rows (loose ++ (a, cause) ∷ []) settled a (AllBut (length loose) (loose ++ (a, cause) ∷ []) settled)
        → AllBut (length loose) (loose ++ (a, cause) ∷ []) settled → Equal now rows (loose ++ (a, cause) ∷ []) settled nothing
    by_may (inl k) = k.1
    by_may (inr k) = absurd (not-both before now k.0 same k.1)
