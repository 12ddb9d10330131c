-- The tallies as the till hears a message. For the proof that the ledger has exactly the approvals that were counted.
use Rattle.std.proofs.Common.{◌≡◌, ℕ, ◌+◌, ◌⊎◌, inl, inr, false, cond, ◌==◌, List, [], ◌∷◌, ◌++◌, Option, Some, None, map, slice_get, count_by, refl, sym, ap, subst, ◌∙◌, arith, ne_eqb}
use Rattle.zvt_till.specs.declared.outcomes.Cause.{Cause}
use Rattle.zvt_till.specs.declared.statuses.Running.{Running}
use Rattle.zvt_till.specs.Books.{Booked}
use Rattle.zvt_till.specs.Laws.{row_of}
use Rattle.zvt_till.specs.Till.{TillState}
use Rattle.zvt_term.specs.declared.ledger.Row.{Row}
use Rattle.zvt_term.specs.Orderly.{approvals}
use Rattle.zvt_settle.specs.declared.deciding.Pending.{Pending}
use Rattle.zvt_settle.specs.declared.deciding.Settlement.{Settlement}
use Rattle.zvt_settle.specs.declared.deciding.Settlement.TheVariants.{Paid, NotPaid, Reversed, NotReversed}
use Rattle.zvt_settle.specs.declared.deciding.What.{What}
use Rattle.zvt_settle.specs.declared.deciding.What.TheVariants.{Payment, Reversal}
use Rattle.zvt_term.specs.AskedWorld.{payment_row, settles_row, pays_this, paid_in}
use Rattle.zvt_settle.specs.Settling.{Settling}
use Rattle.zvt_term.proofs.AnswerDecides.{PaidIn, SoIn, IsFor}
use Rattle.zvt_term.proofs.AskStands.{Settles}
use Rattle.zvt_term.proofs.Tallies.{paid, paid-push, settles-push, Placed, AllPlaced, all-placed-push, AllBut, EvenIf, MayAdd, IsPayment, Tally, Even, Odd, even-of, RunTally, not-both}

-- ---- what an answer settles

-- after the settlement of what was pending, all is even again
record Evened (now : List Row) (rows : List Booked) (loose : List (ℕ × Cause)) (settled : List Settlement) (x : Settlement) : Type 0 where
  even : EvenIf now rows loose (settled ++ x ∷ [])
  placed : Placed loose x

no-row : (settled : List Settlement) (x : Settlement) (i : ℕ) → settles_row i x ≡ false → count_by (settles_row i) (settled ++ x ∷ []) ≡ 1 → count_by (settles_row i) settled ≡ 1
no-row settled x i e k =
    let n : count_by (settles_row i) (settled ++ x ∷ []) ≡ count_by (settles_row i) settled + 0 = settles-push i settled x ∙ ap (λ b. count_by (settles_row i) settled + cond b 1 0) e in omega (arith, n, k)

other-place : (place i : ℕ) → (i ≡ place → ⊥) → (place == i) ≡ false
other-place place i n = ne_eqb place i (λ q. absurd (n (sym q)))

-- a payment that was paid
paid-evens : (own : ℕ) (before now : List Row) (rows : List Booked) (loose : List (ℕ × Cause)) (settled : List Settlement) (place a trace : ℕ) (cause : Cause) (receipt : Option (List ℕ)) (row : Row)
    → slice_get loose place ≡ Some (a, cause) → now ≡ before ++ row ∷ [] → MayAdd own before now rows loose settled a (AllBut place loose settled) → Evened now rows loose settled (Paid place trace receipt)
paid-evens own before now rows loose settled place a trace cause receipt row at grew (inl k) = absurd (not-both before now row k.0 grew)
paid-evens own before now rows loose settled place a trace cause receipt row at grew (inr k) =
    record {
      even = λ all b.
          let n = k.3 (λ i h other. no-row settled (Paid place trace receipt) i (other-place place i other) (all i h)) b in
          let more : paid b loose (settled ++ Paid place trace receipt ∷ []) ≡ paid b loose settled + cond (a == b) 1 0 =
          paid-push b loose settled (Paid place trace receipt) ∙ ap (λ o. paid b loose settled + cond (pays_this b o) 1 0) at in omega (arith, n, more);
      placed = ((a, cause), at);
    }

-- a payment that was not
unpaid-evens : (own : ℕ) (before now : List Row) (rows : List Booked) (loose : List (ℕ × Cause)) (settled : List Settlement) (place a : ℕ) (cause : Cause)
    → slice_get loose place ≡ Some (a, cause) → now ≡ before → MayAdd own before now rows loose settled a (AllBut place loose settled) → Evened now rows loose settled (NotPaid place)
unpaid-evens own before now rows loose settled place a cause at same (inr k) = absurd (not-both before now k.0 same k.1)
unpaid-evens own before now rows loose settled place a cause at same (inl k) =
    record {
      even = λ all b.
          let n = k.1 (λ i h other. no-row settled (NotPaid place) i (other-place place i other) (all i h)) b in
          let more : paid b loose (settled ++ NotPaid place ∷ []) ≡ paid b loose settled + 0 = paid-push b loose settled (NotPaid place) in omega (arith, n, more);
      placed = ((a, cause), at);
    }

-- a reversal changes no count
reversal-evens : (now : List Row) (rows : List Booked) (loose : List (ℕ × Cause)) (settled : List Settlement) (x : Settlement) → ((i : ℕ) → settles_row i x ≡ false) → ((b : ℕ) → paid_in b loose x ≡ false) → Placed loose x
    → EvenIf now rows loose settled → Evened now rows loose settled x
reversal-evens now rows loose settled x settles pays placed k =
    record {
      even = λ all b.
          let n = k (λ i h. no-row settled x i (settles i) (all i h)) b in
          let more : paid b loose (settled ++ x ∷ []) ≡ paid b loose settled + 0 = paid-push b loose settled x ∙ ap (λ f. paid b loose settled + cond f 1 0) (pays b) in omega (arith, n, more);
      placed = placed;
    }

same-place : (place a other b : ℕ) → ◌≡◌ {A = What} (Payment place a) (Payment other b) → place ≡ other
same-place place a other b e = cc

settled-evens : (own : ℕ) (before now : List Row) (t : TillState) (settled : List Settlement) (pending : Option Pending) (x : Settlement) (p : Pending) (w : What)
    → pending ≡ Some p → p.what ≡ w → IsFor w x → SoIn t before now x → Tally own before now (map row_of t.book) t.unclear settled pending → Evened now (map row_of t.book) t.unclear settled x
settled-evens own before now t settled pending x p (Payment place a) is what f so (Even n k) = absurd (n p is (subst IsPayment (sym what) tt))
settled-evens own before now t settled pending (Paid q trace receipt) p (Payment place a) is what f so (Odd other b cause at none named may) =
    let here : q ≡ other = f ∙ same-place place a other b (sym what ∙ named p is) in
    subst (λ n. Evened now (map row_of t.book) t.unclear settled (Paid n trace receipt)) (sym here)
    (paid-evens own before now (map row_of t.book) t.unclear settled other b trace cause receipt (payment_row trace b t.settings.currency) at
    (subst (λ o. PaidIn t before now trace o) (ap (slice_get t.unclear) here ∙ at) so) may)
settled-evens own before now t settled pending (NotPaid q) p (Payment place a) is what f so (Odd other b cause at none named may) =
    let here : q ≡ other = f ∙ same-place place a other b (sym what ∙ named p is) in
    subst (λ n. Evened now (map row_of t.book) t.unclear settled (NotPaid n)) (sym here) (unpaid-evens own before now (map row_of t.book) t.unclear settled other b cause at so may)
settled-evens own before now t settled pending x p (Payment place a) is what f so (Odd other b cause at none named may) = absurd f
settled-evens own before now t settled pending (Reversed e) p (Reversal i) is what f so tally =
    reversal-evens now (map row_of t.book) t.unclear settled (Reversed e) (λ n. refl) (λ b. refl) tt (even-of own before now (map row_of t.book) t.unclear settled pending tally)
settled-evens own before now t settled pending (NotReversed e) p (Reversal i) is what f so tally =
    reversal-evens now (map row_of t.book) t.unclear settled (NotReversed e) (λ n. refl) (λ b. refl) tt (even-of own before now (map row_of t.book) t.unclear settled pending tally)
settled-evens own before now t settled pending x p (Reversal i) is what f so tally = absurd f

-- the tallies after a message
pub record After (own : ℕ) (before now : List Row) (run : Option Running) (rows : List Booked) (loose : List (ℕ × Cause)) (v : Settling) : Type 0 where
  pub placed : AllPlaced loose v.settled
  pub tally : RunTally run own before now rows loose v.settled v.pending

pub no-pending : (pending : Option Pending) → pending ≡ None → (p : Pending) → pending ≡ Some p → IsPayment p.what → ⊥
no-pending pending e p is k = let no : None ≡ Some p = sym e ∙ is in cc

pub idle-tallies : (own : ℕ) (before now : List Row) (t : TillState) (s v : Settling) → AllPlaced t.unclear s.settled → Tally own before now (map row_of t.book) t.unclear s.settled s.pending
    → Settles t before now s.settled v.settled s.pending → ((v.pending ≡ s.pending) × (v.settled ≡ s.settled)) ⊎ (v.pending ≡ None) → After own before now None (map row_of t.book) t.unclear v
idle-tallies own before now t s v placed tally settles (inl k) =
    record {
      placed = subst (AllPlaced t.unclear) (sym k.1) placed;
      tally = subst (λ x. Tally own before now (map row_of t.book) t.unclear v.settled x) (sym k.0) (subst (λ x. Tally own before now (map row_of t.book) t.unclear x s.pending) (sym k.1) tally);
    }
idle-tallies own before now t s v placed tally (inl same) (inr none) =
    record {
      placed = subst (AllPlaced t.unclear) (sym same) placed;
      tally =
          Even (no-pending v.pending none)
          (subst (λ x. EvenIf now (map row_of t.book) t.unclear x) (sym same) (even-of own before now (map row_of t.book) t.unclear s.settled s.pending tally));
    }
idle-tallies own before now t s v placed tally (inr k) (inr none) =
    let d = settled-evens own before now t s.settled s.pending k.0 k.3 k.3.what k.4 refl k.5 k.2 tally in
    record {
      placed = subst (AllPlaced t.unclear) (sym k.1) (all-placed-push t.unclear s.settled k.0 placed d.placed);
      tally = Even (no-pending v.pending none) (subst (λ x. EvenIf now (map row_of t.book) t.unclear x) (sym k.1) d.even);
    }
