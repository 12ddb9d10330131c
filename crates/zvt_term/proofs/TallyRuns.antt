-- The tallies as an order ends. For the proof that the ledger has exactly the approvals that were counted.
use Rattle.std.proofs.Common.{◌≡◌, ℕ, inl, inr, Bool, true, false, cond, List, [], ◌∷◌, ◌++◌, length, Option, Some, None, map, option_map, refl, sym, ap, subst}
use Rattle.std.proofs.lemmas.List.{map_push}
use Rattle.zvt_till.specs.declared.entries.Doubt.TheVariants.{No}
use Rattle.zvt_till.specs.declared.entries.Entry.{Entry}
use Rattle.zvt_till.specs.declared.happenings.Happening.{Happening}
use Rattle.zvt_till.specs.declared.happenings.Happening.TheVariants.{Heard as HeardIn}
use Rattle.zvt_till.specs.declared.messages.Heard.{Heard}
use Rattle.zvt_till.specs.declared.messages.Heard.TheVariants.{Positive, Status, Passing, Completion}
use Rattle.zvt_till.specs.declared.messages.StatusFacts.{StatusFacts}
use Rattle.zvt_till.specs.declared.orders.Order.{Order}
use Rattle.zvt_till.specs.declared.orders.Order.TheVariants.{Register, Pay, Reverse, CloseDay, Cancel}
use Rattle.zvt_till.specs.declared.outcomes.Cause.{Cause}
use Rattle.zvt_till.specs.declared.outcomes.Cause.TheVariants.{TraceUsed}
use Rattle.zvt_till.specs.declared.outcomes.Outcome.{Outcome}
use Rattle.zvt_till.specs.declared.outcomes.Outcome.TheVariants.{Registered, Paid as PaidOutcome, Declined, Refused as RefusedOutcome, Aborted, Unclear as UnclearOutcome, Reversed as ReversedOutcome, DayClosed}
use Rattle.zvt_till.specs.declared.statuses.Running.{Running}
use Rattle.zvt_till.specs.declared.statuses.Statuses.{Statuses}
use Rattle.zvt_till.specs.declared.statuses.Statuses.TheVariants.{Good as AllGood, Fault}
use Rattle.zvt_till.specs.Books.{Booked, booked_as}
use Rattle.zvt_till.specs.Laws.{row_of}
use Rattle.zvt_till.specs.Outcomes.{trace_used, completion_outcome, outcome_by}
use Rattle.zvt_till.specs.Segments.{ends}
use Rattle.zvt_till.specs.Till.{TillState, book_after, unclear_after}
use Rattle.zvt_till.proofs.BookStepLemmas.{reversed-rows}
use Rattle.zvt_term.specs.declared.ledger.Row.{Row}
use Rattle.zvt_term.specs.Orderly.{approvals}
use Rattle.zvt_term.proofs.Accounts.{words}
use Rattle.zvt_settle.specs.declared.deciding.Pending.{Pending}
use Rattle.zvt_settle.specs.declared.deciding.Settlement.{Settlement}
use Rattle.zvt_settle.specs.declared.deciding.What.{What}
use Rattle.zvt_settle.specs.declared.deciding.What.TheVariants.{Payment, Reversal}
use Rattle.zvt_term.specs.Ledgers.{status_of_row}
use Rattle.zvt_term.specs.AskedWorld.{AreAllSettled}
use Rattle.zvt_settle.specs.Settling.{Settling, pending_as, ended}
use Rattle.zvt_settle.specs.Story.{Known as KnownLeft}
use Rattle.zvt_term.proofs.AskedMeans.{Word}
use Rattle.zvt_settle.proofs.ChapterEnds.{left_of, proper}
use Rattle.zvt_term.proofs.HearingStands.{running_till, running_settling}
use Rattle.zvt_settle.proofs.OrderEnds.{with_status, ended-settled, plain-stays, plain-register, plain-closing}
use Rattle.zvt_term.proofs.Standing.{Claims, Goes, Tells, Taking, InFlight, Denied, Unsaid, Said, Paying, RunsAs}
use Rattle.zvt_term.proofs.Tallies.{booked, AllPlaced, all-placed-more, Equal, nothing, EvenIf, MayAdd, IsPayment, Tally, Even, OrderTally, not-both, pay-unclear, pay-booked}
use Rattle.zvt_term.proofs.TillStands.{not-known, pending-of}
use Rattle.zvt_term.proofs.TallyTill.{After, no-pending}

-- ---- a payment ends

pub what-is : (last : Option StatusFacts) (w : What) (p : Pending) → option_map (pending_as w) last ≡ Some p → p.what ≡ w
what-is last w p e = let k = pending-of last w p e in ap (λ (x : Pending). x.what) k.2

pub unclear-tally : (own : ℕ) (before now : List Row) (book : List Entry) (loose : List (ℕ × Cause)) (s : Settling) (a : ℕ) (cause : Cause) → AllPlaced loose s.settled
    → MayAdd own before now (map row_of book) loose s.settled a (AreAllSettled loose s.settled)
    → After own before now None (map row_of book) (loose ++ (a, cause) ∷ []) (ended s (Pay a) (UnclearOutcome cause) (length loose))
unclear-tally own before now book loose s a cause placed may =
    record {
      placed = all-placed-more loose (a, cause) s.settled placed;
      tally =
          pay-unclear own before now (map row_of book) loose s.settled (ended s (Pay a) (UnclearOutcome cause) (length loose)).pending a cause placed
          (λ p e. what-is s.last (Payment (length loose) a) p e) may;
    }

-- nothing was approved
kept-even : (own : ℕ) (before now : List Row) (rows : List Booked) (loose : List (ℕ × Cause)) (settled : List Settlement) (a : ℕ) → now ≡ before → MayAdd own before now rows loose settled a (AreAllSettled loose settled) → EvenIf now rows loose settled
kept-even own before now rows loose settled a same (inl k) = k.1
kept-even own before now rows loose settled a same (inr k) = absurd (not-both before now k.0 same k.1)

pub denied-tally : (own : ℕ) (before now : List Row) (book : List Entry) (loose : List (ℕ × Cause)) (s : Settling) (a : ℕ) (out : Outcome) → AllPlaced loose s.settled → s.pending ≡ None → now ≡ before → (left_of out ≡ KnownLeft → ⊥)
    → MayAdd own before now (map row_of book) loose s.settled a (AreAllSettled loose s.settled)
    → After own before now None (map row_of (book_after book (Pay a) out)) (unclear_after loose (Pay a) out) (ended s (Pay a) out (length loose))
denied-tally own before now book loose s a Registered placed none same n may = record { placed = placed; tally = Even (no-pending s.pending none) (kept-even own before now (map row_of book) loose s.settled a same may) }
denied-tally own before now book loose s a (PaidOutcome t r) placed none same n may = absurd (n refl)
denied-tally own before now book loose s a (Declined c) placed none same n may = record { placed = placed; tally = Even (no-pending s.pending none) (kept-even own before now (map row_of book) loose s.settled a same may) }
denied-tally own before now book loose s a (RefusedOutcome c) placed none same n may = record { placed = placed; tally = Even (no-pending s.pending none) (kept-even own before now (map row_of book) loose s.settled a same may) }
denied-tally own before now book loose s a (Aborted c) placed none same n may = record { placed = placed; tally = Even (no-pending s.pending none) (kept-even own before now (map row_of book) loose s.settled a same may) }
denied-tally own before now book loose s a (UnclearOutcome cause) placed none same n may = unclear-tally own before now book loose s a cause placed may
denied-tally own before now book loose s a ReversedOutcome placed none same n may = absurd (n refl)
denied-tally own before now book loose s a DayClosed placed none same n may = record { placed = placed; tally = Even (no-pending s.pending none) (kept-even own before now (map row_of book) loose s.settled a same may) }

-- it was approved, and is booked
booked-tally : (own : ℕ) (before now : List Row) (book : List Entry) (loose : List (ℕ × Cause)) (s : Settling) (a t : ℕ) (r : Option (List ℕ)) (row : Row) → AllPlaced loose s.settled → s.pending ≡ None → now ≡ before ++ row ∷ []
    → MayAdd own before now (map row_of book) loose s.settled a (AreAllSettled loose s.settled)
    → After own before now None (map row_of (book_after book (Pay a) (PaidOutcome t r))) loose (ended s (Pay a) (PaidOutcome t r) (length loose))
booked-tally own before now book loose s a t r row placed none grew (inl k) = absurd (not-both before now row k.0 grew)
booked-tally own before now book loose s a t r row placed none grew (inr k) =
    let pushed : map row_of (book_after book (Pay a) (PaidOutcome t r)) ≡ map row_of book ++ booked_as a t r ∷ [] =
    map_push row_of book (record { amount = a; trace = t; receipt = r; reversed = false; doubt = No }) in
    record {
      placed = placed;
      tally =
          Even (no-pending s.pending none)
          (λ all. subst (λ rows. Equal now rows loose s.settled nothing) (sym pushed) (pay-booked now (map row_of book) loose s.settled a (booked_as a t r) refl (k.3 all)));
    }

said-tally : (own : ℕ) (before now : List Row) (book : List Entry) (loose : List (ℕ × Cause)) (s : Settling) (a : ℕ) (st : Statuses) (row : Row) → AllPlaced loose s.settled → s.pending ≡ None → now ≡ before ++ row ∷ [] → Claims (Pay a) row st
    → MayAdd own before now (map row_of book) loose s.settled a (AreAllSettled loose s.settled)
    → let out : Outcome = completion_outcome book (Pay a) st in
    After own before now None (map row_of (book_after book (Pay a) out)) (unclear_after loose (Pay a) out) (ended s (Pay a) out (length loose))
said-tally own before now book loose s a (AllGood None r) row placed none grew claims may = let gone = claims.0 in absurd cc
said-tally own before now book loose s a (AllGood (Some t) r) row placed none grew claims may = by_use (trace_used t book)
  where
    by_use : (b : Bool) → let out : Outcome = cond b (UnclearOutcome TraceUsed) (PaidOutcome t r) in
        After own before now None (map row_of (book_after book (Pay a) out)) (unclear_after loose (Pay a) out) (ended s (Pay a) out (length loose))
    by_use true = unclear-tally own before now book loose s a TraceUsed placed may
    by_use false = booked-tally own before now book loose s a t r row placed none grew may
said-tally own before now book loose s a (Fault cause) row placed none grew claims may = unclear-tally own before now book loose s a cause placed may
said-tally own before now book loose s a st row placed none grew claims may = absurd claims

abbrev PayAfter : (own : ℕ) → (before now : List Row) → List Entry → List (ℕ × Cause) → Settling → ℕ → Statuses → Heard → Type 0
PayAfter own before now book loose s a st m =
    let out : Outcome = outcome_by book (Pay a) st (HeardIn m) in
    After own before now None (map row_of (book_after book (Pay a) out)) (unclear_after loose (Pay a) out) (ended (with_status s (HeardIn m)) (Pay a) out (length loose))

goes-tally : (own : ℕ) (before now : List Row) (book : List Entry) (loose : List (ℕ × Cause)) (s : Settling) (a : ℕ) (st : Statuses) (p : Bool) (m : Heard) (tail : List Heard) (row : Row) → AllPlaced loose s.settled → s.pending ≡ None
    → now ≡ before ++ row ∷ [] → Claims (Pay a) row st → Goes (m ∷ tail) → ends p (HeardIn m) ≡ true → MayAdd own before now (map row_of book) loose s.settled a (AreAllSettled loose s.settled) → PayAfter own before now book loose s a st m
goes-tally own before now book loose s a st p Completion tail row placed none grew claims d e may = said-tally own before now book loose (with_status s (HeardIn Completion)) a st row placed none grew claims may
goes-tally own before now book loose s a st p Passing tail row placed none grew claims d e may = absurd cc
goes-tally own before now book loose s a st p m tail row placed none grew claims d e may = absurd d

tells-goes-on : (f : StatusFacts) (p : Bool) (m : Heard) (tail : List Heard) → Tells f (m ∷ tail) → ends p (HeardIn m) ≡ true → ⊥
tells-goes-on f p (Status g) tail d e = cc
tells-goes-on f p m tail d e = d

pay-tally : (own : ℕ) (before now : List Row) (asked : List Word) (book : List Entry) (loose : List (ℕ × Cause)) (s : Settling) (a : ℕ) (st : Statuses) (p : Bool) (m : Heard) (tail : List Heard) → AllPlaced loose s.settled
    → Paying own (map row_of book) before now asked s (Pay a) st (m ∷ tail) → ends p (HeardIn m) ≡ true → MayAdd own before now (map row_of book) loose s.settled a (AreAllSettled loose s.settled) → PayAfter own before now book loose s a st m
pay-tally own before now asked book loose s a st p m tail placed k e may = by_taking k.taking
  where
    by_taking : Taking own (map row_of book) before now asked (Pay a) st s.so_far (m ∷ tail) → PayAfter own before now book loose s a st m
    by_taking (InFlight n f g none same nothing empty) = absurd cc
    by_taking (Denied f same n d) = denied-tally own before now book loose (with_status s (HeardIn m)) a (outcome_by book (Pay a) st (HeardIn m)) placed k.pending same (not-known (Pay a) st book (HeardIn m) tt n) may
    by_taking (Unsaid row f grew g nothing empty d) = absurd (tells-goes-on (status_of_row row) p m tail d e)
    by_taking (Said row f grew g claims one d) = goes-tally own before now book loose s a st p m tail row placed k.pending grew claims d e may

-- ---- any order ends

pub reversal-tally : (own : ℕ) (before now : List Row) (book : List Entry) (loose : List (ℕ × Cause)) (s : Settling) (i : ℕ) (out : Outcome) → AllPlaced loose s.settled → s.pending ≡ None → EvenIf now (map row_of book) loose s.settled
    → After own before now None (map row_of (book_after book (Reverse i) out)) loose (ended s (Reverse i) out (length loose))
reversal-tally own before now book loose s i out placed none k =
    let same = reversed-rows book i out in
    let done = ended-settled s (Reverse i) out (length loose) in
    record {
      placed = subst (AllPlaced loose) (sym done) placed;
      tally =
          Even (by_outcome out)
          (subst (λ x. EvenIf now (map row_of (book_after book (Reverse i) out)) loose x) (sym done) (subst (λ rows. EvenIf now rows loose s.settled) (sym same) k));
    }
  where
    by_outcome : (x : Outcome) (p : Pending) → (ended s (Reverse i) x (length loose)).pending ≡ Some p → IsPayment p.what → ⊥
    by_outcome Registered = no-pending s.pending none
    by_outcome (PaidOutcome t r) = no-pending s.pending none
    by_outcome (Declined c) = no-pending s.pending none
    by_outcome (RefusedOutcome c) = no-pending s.pending none
    by_outcome (Aborted c) = no-pending s.pending none
    by_outcome (UnclearOutcome cause) = λ p e f. subst IsPayment (what-is s.last (Reversal i) p e) f
    by_outcome ReversedOutcome = no-pending s.pending none
    by_outcome DayClosed = no-pending s.pending none

plain-tally : (own : ℕ) (before now : List Row) (rows : List Booked) (loose : List (ℕ × Cause)) (s v : Settling) → v ≡ s → AllPlaced loose s.settled → Tally own before now rows loose s.settled s.pending → After own before now None rows loose v
plain-tally own before now rows loose s v e placed tally = subst (λ x. After own before now None rows loose x) (sym e) (record { placed = placed; tally = tally })

order-tally : (own : ℕ) (before now : List Row) (asked : List Word) (t : TillState) (s : Settling) (o : Order) (st : Statuses) (p : Bool) (m : Heard) (tail : List Heard) → AllPlaced t.unclear s.settled
    → RunsAs own (map row_of t.book) t.unclear before now asked s o st (m ∷ tail) → ends p (HeardIn m) ≡ true → OrderTally o own before now (map row_of t.book) t.unclear s.settled s.pending
    → let out : Outcome = outcome_by t.book o st (HeardIn m) in
    After own before now None (map row_of (book_after t.book o out)) (unclear_after t.unclear o out) (ended (with_status s (HeardIn m)) o out (length t.unclear))
order-tally own before now asked t s Register st p m tail placed k e tally =
    let out : Outcome = outcome_by t.book Register st (HeardIn m) in
    plain-tally own before now (map row_of t.book) t.unclear (with_status s (HeardIn m)) (ended (with_status s (HeardIn m)) Register out (length t.unclear))
    (plain-stays (with_status s (HeardIn m)) Register (HeardIn m) out (length t.unclear) plain-register (proper t.book Register st (HeardIn m))) placed tally
order-tally own before now asked t s (Pay a) st p m tail placed k e tally = pay-tally own before now asked t.book t.unclear s a st p m tail placed k e tally
order-tally own before now asked t s (Reverse i) st p m tail placed k e tally =
    reversal-tally own before now t.book t.unclear (with_status s (HeardIn m)) i (outcome_by t.book (Reverse i) st (HeardIn m)) placed k.pending tally
order-tally own before now asked t s CloseDay st p m tail placed k e tally =
    let out : Outcome = outcome_by t.book CloseDay st (HeardIn m) in
    plain-tally own before now (map row_of t.book) t.unclear (with_status s (HeardIn m)) (ended (with_status s (HeardIn m)) CloseDay out (length t.unclear))
    (plain-stays (with_status s (HeardIn m)) CloseDay (HeardIn m) out (length t.unclear) plain-closing (proper t.book CloseDay st (HeardIn m))) placed tally
order-tally own before now asked t s Cancel st p m tail placed k e tally = absurd k

-- ---- an order that runs hears a message

abbrev RunAfter : (own : ℕ) → (before now : List Row) → TillState → Running → Settling → Happening → Bool → Type 0
RunAfter own before now t r s h b =
    After own before now (running_till t r h b).running (map row_of (running_till t r h b).book) (running_till t r h b).unclear (running_settling t r s h b)

word-tallies : (own : ℕ) (before now : List Row) (asked : List Word) (t : TillState) (r : Running) (s : Settling) (m : Heard) (tail : List Heard) (b : Bool) → AllPlaced t.unclear s.settled
    → RunsAs own (map row_of t.book) t.unclear before now asked s r.order r.statuses (m ∷ tail) → ends r.positive (HeardIn m) ≡ b → OrderTally r.order own before now (map row_of t.book) t.unclear s.settled s.pending
    → RunAfter own before now t r s (HeardIn m) b
word-tallies own before now asked t r s m tail true placed k e tally = order-tally own before now asked t s r.order r.statuses r.positive m tail placed k e tally
word-tallies own before now asked t r s m tail false placed k e tally = record { placed = placed; tally = tally }

pub run-tallies : (own : ℕ) (before now : List Row) (asked : List Word) (t : TillState) (r : Running) (s : Settling) (m : Heard) (q coming : List Heard) → AllPlaced t.unclear s.settled
    → RunsAs own (map row_of t.book) t.unclear before now asked s r.order r.statuses (words (m ∷ q) ++ coming) → OrderTally r.order own before now (map row_of t.book) t.unclear s.settled s.pending
    → RunAfter own before now t r s (HeardIn m) (ends r.positive (HeardIn m))
run-tallies own before now asked t r s Positive q coming placed k tally = record { placed = placed; tally = tally }
run-tallies own before now asked t r s m q coming placed k tally = word-tallies own before now asked t r s m (words q ++ coming) (ends r.positive (HeardIn m)) placed k refl tally
