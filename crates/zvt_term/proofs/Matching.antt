-- Whatever comes, comes again, comes late or never: the till's entries are approvals of the terminal's ledger.
use Rattle.std.proofs.Common.{◌≡◌, ℕ, zero, suc, Bool, true, false, cond, List, [], ◌∷◌, ◌++◌, length, Option, Some, None, refl, sym, subst, slice_get, slice_set, option_map}
use Rattle.zvt_apdu.specs.Briefs.{digits}
use Rattle.zvt_till.specs.declared.happenings.Happening.{Happening}
use Rattle.zvt_till.specs.declared.happenings.Happening.TheVariants.{Connected, Sent as SentOut, Heard as HeardIn, Malformed, Lost}
use Rattle.zvt_till.specs.declared.messages.Heard.{Heard}
use Rattle.zvt_till.specs.declared.messages.Heard.TheVariants.{Positive, Negative, Status, Passing, Completion, Abort, Strange}
use Rattle.zvt_till.specs.declared.messages.StatusFacts.{StatusFacts}
use Rattle.zvt_till.specs.declared.statuses.Statuses.{Statuses}
use Rattle.zvt_till.specs.declared.statuses.Statuses.TheVariants.{Nothing, Good as AllGood, Declining as AllDeclining, Fault}
use Rattle.zvt_till.specs.declared.statuses.Running.{Running}
use Rattle.zvt_till.specs.declared.entries.Doubt.TheVariants.{No}
use Rattle.zvt_till.specs.declared.entries.Entry.{Entry}
use Rattle.zvt_till.specs.declared.outcomes.Cause.{Cause}
use Rattle.zvt_till.specs.declared.outcomes.Cause.TheVariants.{Conflict, TraceUsed}
use Rattle.zvt_till.specs.declared.orders.Order.{Order}
use Rattle.zvt_till.specs.declared.orders.Order.TheVariants.{Register as RegisterOrder, Pay as PayOrder, Reverse as ReverseOrder, CloseDay as CloseDayOrder, Cancel as CancelOrder}
use Rattle.zvt_till.specs.declared.outcomes.Outcome.{Outcome}
use Rattle.zvt_till.specs.declared.outcomes.Outcome.TheVariants.{Registered, Paid, Declined, Refused as RefusedOutcome, Aborted, Unclear as UnclearOutcome, Reversed as ReversedOutcome, DayClosed}
use Rattle.zvt_till.specs.declared.statuses.Demand.TheVariants.{Payment, Reversal as ReversalDemand}
use Rattle.zvt_till.specs.declared.statuses.Class.{Class}
use Rattle.zvt_till.specs.declared.statuses.Class.TheVariants.{Good, Declining, Doubtful}
use Rattle.zvt_till.specs.ByReceipt.{sole_receipt}
use Rattle.zvt_till.specs.Statuses.{class_of, same_trace}
use Rattle.zvt_till.specs.Segments.{ends, status_of}
use Rattle.zvt_till.specs.declared.settings.Rules.{Rules}
use Rattle.zvt_till.specs.Outcomes.{charged, demand_of, note, note_if, note_class, trace_used, payment_outcome, reversal_outcome, broken_outcome, outcome_by, listened}
use Rattle.zvt_till.specs.Sending.{Settings}
use Rattle.zvt_till.specs.Till.{TillState, entry_after, book_after, finish, meet, accept, step}
use Rattle.zvt_till.proofs.LogStateLemmas.{state}
use Rattle.zvt_term.specs.declared.ledger.Row.{Row}
use Rattle.zvt_term.specs.World.{IsApproved, IsTakenBack, EntryMatches, AllMatch}

-- a ledger that grows

pub slice_get-prefix : {X : Type 0} (xs ys : List X) (k : ℕ) (x : X) → slice_get xs k ≡ Some x → slice_get (xs ++ ys) k ≡ Some x
slice_get-prefix [] ys k x e = absurd cc
slice_get-prefix (y ∷ xs) ys zero x e = e
slice_get-prefix (y ∷ xs) ys (suc k) x e = slice_get-prefix xs ys k x e

pub slice_get-last : {X : Type 0} (xs : List X) (x : X) → slice_get (xs ++ x ∷ []) (length xs) ≡ Some x
slice_get-last [] x = refl
slice_get-last (y ∷ xs) x = slice_get-last xs x

-- home: the currency of the till
module _ (home : ℕ) where
  approved-more : (l more : List Row) (a n : ℕ) → IsApproved l home a n → IsApproved (l ++ more) home a n
  approved-more l more a n w = (w.0, slice_get-prefix l more w.0 (record { number = n; amount = a; currency = Some home; reverses = None }) w.1)

  taken-more : (l more : List Row) (n : ℕ) → IsTakenBack l n → IsTakenBack (l ++ more) n
  taken-more l more n w = (w.0, w.1, slice_get-prefix l more w.0 w.1 w.2, w.3)

  -- what a status may claim, where it came from the terminal of this ledger, whatever currency is in force
  pub record ToldStatus (l : List Row) (f : StatusFacts) : Type 0 where
    pub pays : (force : Option ℕ) (a t : ℕ) → class_of (Payment (charged force a)) f ≡ Good (Some t) → IsApproved l home a t × f.receipt ≡ Some (digits 2 t)
    pub takes : (force : Option ℕ) (a t : ℕ) (u : Option ℕ) → class_of (ReversalDemand (charged force a) t None) f ≡ Good u → IsTakenBack l t

  abbrev pub Told : List Row → Heard → Type 0
  Told l Positive = Unit {0}
  Told l (Negative c) = Unit {0}
  Told l (Status f) = ToldStatus l f
  Told l Passing = Unit {0}
  Told l Completion = Unit {0}
  Told l (Abort c) = Unit {0}
  Told l Strange = Unit {0}

  abbrev pub AllTold : List Row → List Heard → Type 0
  AllTold l [] = Unit {0}
  AllTold l (m ∷ ms) = Told l m × AllTold l ms

  status-more : (l more : List Row) (f : StatusFacts) → ToldStatus l f → ToldStatus (l ++ more) f
  status-more l more f t =
      record {
        pays = λ force a n e. let w = t.pays force a n e in (approved-more l more a n w.0, w.1);
        takes = λ force a n u e. taken-more l more n (t.takes force a n u e);
      }

  told-more : (l more : List Row) (m : Heard) → Told l m → Told (l ++ more) m
  told-more l more Positive t = tt
  told-more l more (Negative c) t = tt
  told-more l more (Status f) t = status-more l more f t
  told-more l more Passing t = tt
  told-more l more Completion t = tt
  told-more l more (Abort c) t = tt
  told-more l more Strange t = tt

  pub all_told-more : (l more : List Row) (ms : List Heard) → AllTold l ms → AllTold (l ++ more) ms
  all_told-more l more [] t = tt
  all_told-more l more (m ∷ ms) t = (told-more l more m t.0, all_told-more l more ms t.1)

  pub all_told-append : (l : List Row) (ms ns : List Heard) → AllTold l ms → AllTold l ns → AllTold l (ms ++ ns)
  all_told-append l [] ns t u = u
  all_told-append l (m ∷ ms) ns t u = (t.0, all_told-append l ms ns t.1 u)

  pub told-at : (l : List Row) (ms : List Heard) (k : ℕ) (m : Heard) → AllTold l ms → slice_get ms k ≡ Some m → Told l m
  told-at l [] k m t e = absurd cc
  told-at l (n ∷ ms) zero m t e = let q : n ≡ m = cc in subst (Told l) q t.0
  told-at l (n ∷ ms) (suc k) m t e = told-at l ms k m t.1 e

  entry-more : (l more : List Row) (e : Entry) → EntryMatches home l e → EntryMatches home (l ++ more) e
  entry-more l more e m =
      record { approved = approved-more l more e.amount e.trace m.approved; receipt = m.receipt; reversed = λ q. taken-more l more e.trace (m.reversed q) }

  all_match-more : (l more : List Row) (book : List Entry) → AllMatch home l book → AllMatch home (l ++ more) book
  all_match-more l more [] m = tt
  all_match-more l more (e ∷ book) m = (entry-more l more e m.0, all_match-more l more book m.1)

  -- what the summary of the running order may claim
  abbrev PaysFor : List Row → ℕ → Statuses → Type 0
  PaysFor l a Nothing = Unit {0}
  PaysFor l a (AllGood None r) = Unit {0}
  PaysFor l a (AllGood (Some t) r) = IsApproved l home a t × r ≡ Some (digits 2 t)
  PaysFor l a (AllDeclining c) = Unit {0}
  PaysFor l a (Fault x) = Unit {0}

  abbrev TakesFor : List Row → Option Entry → Statuses → Type 0
  TakesFor l o Nothing = Unit {0}
  TakesFor l o (AllGood t r) = (row : Entry) → o ≡ Some row → IsTakenBack l row.trace
  TakesFor l o (AllDeclining c) = Unit {0}
  TakesFor l o (Fault x) = Unit {0}

  abbrev SummaryHolds : List Row → List Entry → Order → Statuses → Type 0
  SummaryHolds l book RegisterOrder st = Unit {0}
  SummaryHolds l book (PayOrder a) st = PaysFor l a st
  SummaryHolds l book (ReverseOrder e) st = TakesFor l (slice_get book e) st
  SummaryHolds l book CloseDayOrder st = Unit {0}
  SummaryHolds l book CancelOrder st = Unit {0}

  pays-note : (l : List Row) (force : Option ℕ) (a : ℕ) (f : StatusFacts) → ToldStatus l f → (st : Statuses) (c : Class) → class_of (Payment (charged force a)) f ≡ c → PaysFor l a st → PaysFor l a (note_class st c f.receipt)
  pays-note l force a f t Nothing (Good None) e h = tt
  pays-note l force a f t Nothing (Good (Some n)) e h = t.pays force a n e
  pays-note l force a f t Nothing (Declining k) e h = tt
  pays-note l force a f t Nothing (Doubtful x) e h = tt
  pays-note l force a f t (AllGood n r) (Good u) e h = by_trace (same_trace u n)
    where
      by_trace : (b : Bool) → PaysFor l a (cond b (AllGood n r) (Fault Conflict))
      by_trace true = h
      by_trace false = tt
  pays-note l force a f t (AllGood n r) (Declining k) e h = tt
  pays-note l force a f t (AllGood n r) (Doubtful x) e h = tt
  pays-note l force a f t (AllDeclining k) (Good n) e h = tt
  pays-note l force a f t (AllDeclining k) (Declining j) e h = tt
  pays-note l force a f t (AllDeclining k) (Doubtful x) e h = tt
  pays-note l force a f t (Fault x) (Good n) e h = tt
  pays-note l force a f t (Fault x) (Declining k) e h = tt
  pays-note l force a f t (Fault x) (Doubtful y) e h = tt

  takes-note : (l : List Row) (force : Option ℕ) (row : Entry) (f : StatusFacts) → ToldStatus l f → (st : Statuses) (c : Class) → class_of (ReversalDemand (charged force row.amount) row.trace None) f ≡ c
      → TakesFor l (Some row) st → TakesFor l (Some row) (note_class st c f.receipt)
  takes-note l force row f t Nothing (Good n) e h = λ other q. let same : row ≡ other = cc in subst (λ (x : Entry). IsTakenBack l x.trace) same (t.takes force row.amount row.trace n e)
  takes-note l force row f t Nothing (Declining k) e h = tt
  takes-note l force row f t Nothing (Doubtful x) e h = tt
  takes-note l force row f t (AllGood n r) (Good u) e h = by_trace (same_trace u n)
    where
      by_trace : (b : Bool) → TakesFor l (Some row) (cond b (AllGood n r) (Fault Conflict))
      by_trace true = h
      by_trace false = tt
  takes-note l force row f t (AllGood n r) (Declining k) e h = tt
  takes-note l force row f t (AllGood n r) (Doubtful x) e h = tt
  takes-note l force row f t (AllDeclining k) (Good n) e h = tt
  takes-note l force row f t (AllDeclining k) (Declining j) e h = tt
  takes-note l force row f t (AllDeclining k) (Doubtful x) e h = tt
  takes-note l force row f t (Fault x) (Good n) e h = tt
  takes-note l force row f t (Fault x) (Declining k) e h = tt
  takes-note l force row f t (Fault x) (Doubtful y) e h = tt

  takes-option : (l : List Row) (force : Option ℕ) (o : Option Entry) (f : StatusFacts) → ToldStatus l f → (st : Statuses)
      → TakesFor l o st → TakesFor l o (note (option_map (λ row. ReversalDemand (charged force row.amount) row.trace None) o) st f)
  takes-option l force None f t st h = h
  takes-option l force (Some row) f t st h = takes-note l force row f t st (class_of (ReversalDemand (charged force row.amount) row.trace None) f) refl h

  summary-note : (rules : Rules) → rules.reversal_by_receipt ≡ false → (l : List Row) (force : Option ℕ) (book : List Entry) (u : List (ℕ × Cause)) (o : Order) (st : Statuses) (f : StatusFacts)
      → ToldStatus l f → SummaryHolds l book o st → SummaryHolds l book o (note (demand_of rules force book u o) st f)
  summary-note rules named l force book u RegisterOrder st f t h = tt
  summary-note rules named l force book u (PayOrder a) st f t h = pays-note l force a f t st (class_of (Payment (charged force a)) f) refl h
  summary-note rules named l force book u (ReverseOrder e) st f t h =
      subst (λ by_receipt. SummaryHolds l book (ReverseOrder e) (note (option_map (λ row. ReversalDemand (charged force row.amount) row.trace (sole_receipt by_receipt book u row)) (slice_get book e)) st f))
      (sym named) (takes-option l force (slice_get book e) f t st h)
  summary-note rules named l force book u CloseDayOrder st f t h = tt
  summary-note rules named l force book u CancelOrder st f t h = tt

  summary-more : (l more : List Row) (book : List Entry) (o : Order) (st : Statuses) → SummaryHolds l book o st → SummaryHolds (l ++ more) book o st
  summary-more l more book RegisterOrder st h = tt
  summary-more l more book (PayOrder a) Nothing h = tt
  summary-more l more book (PayOrder a) (AllGood None r) h = tt
  summary-more l more book (PayOrder a) (AllGood (Some t) r) h = (approved-more l more a t h.0, h.1)
  summary-more l more book (PayOrder a) (AllDeclining c) h = tt
  summary-more l more book (PayOrder a) (Fault x) h = tt
  summary-more l more book (ReverseOrder e) Nothing h = tt
  summary-more l more book (ReverseOrder e) (AllGood t r) h = λ row q. taken-more l more row.trace (h row q)
  summary-more l more book (ReverseOrder e) (AllDeclining c) h = tt
  summary-more l more book (ReverseOrder e) (Fault x) h = tt
  summary-more l more book CloseDayOrder st h = tt
  summary-more l more book CancelOrder st h = tt

  -- one more entry

  all_match-push : (l : List Row) (book : List Entry) (x : Entry) → AllMatch home l book → EntryMatches home l x → AllMatch home l (book ++ x ∷ [])
  all_match-push l [] x m e = (e, tt)
  all_match-push l (y ∷ book) x m e = (m.0, all_match-push l book x m.1 e)

  paid-book : (l : List Row) (book : List Entry) (a t : ℕ) (r : Option (List ℕ)) → AllMatch home l book → IsApproved l home a t × r ≡ Some (digits 2 t) → (b : Bool)
      → AllMatch home l (book_after book (PayOrder a) (cond b (UnclearOutcome TraceUsed) (Paid t r)))
  paid-book l book a t r m p true = m
  paid-book l book a t r m p false =
      let x : Entry = record { amount = a; trace = t; receipt = r; reversed = false; doubt = No } in
      let e : EntryMatches home l x = record { approved = p.0; receipt = p.1; reversed = λ q. absurd cc } in
      all_match-push l book x m e

  pay-completed : (l : List Row) (book : List Entry) (a : ℕ) (st : Statuses) → AllMatch home l book → PaysFor l a st → AllMatch home l (book_after book (PayOrder a) (payment_outcome book st))
  pay-completed l book a Nothing m p = m
  pay-completed l book a (AllGood None r) m p = m
  pay-completed l book a (AllGood (Some t) r) m p = paid-book l book a t r m p (trace_used t book)
  pay-completed l book a (AllDeclining c) m p = m
  pay-completed l book a (Fault x) m p = m

  pay-broken : (l : List Row) (book : List Entry) (a : ℕ) (st : Statuses) (o : Outcome) → AllMatch home l (book_after book (PayOrder a) o) → AllMatch home l book → AllMatch home l (book_after book (PayOrder a) (broken_outcome st o))
  pay-broken l book a Nothing o k m = k
  pay-broken l book a (AllGood t r) o k m = m
  pay-broken l book a (AllDeclining c) o k m = k
  pay-broken l book a (Fault x) o k m = m

  pay-ended : (l : List Row) (book : List Entry) (a : ℕ) (st : Statuses) (h : Happening) → AllMatch home l book → PaysFor l a st → AllMatch home l (book_after book (PayOrder a) (outcome_by book (PayOrder a) st h))
  pay-ended l book a st Connected m p = m
  pay-ended l book a st (SentOut o) m p = m
  pay-ended l book a st (HeardIn Positive) m p = m
  pay-ended l book a st (HeardIn (Negative c)) m p = pay-broken l book a st (RefusedOutcome c) m m
  pay-ended l book a st (HeardIn (Status f)) m p = m
  pay-ended l book a st (HeardIn Passing) m p = m
  pay-ended l book a st (HeardIn Completion) m p = pay-completed l book a st m p
  pay-ended l book a st (HeardIn (Abort c)) m p = pay-broken l book a st (Aborted c) m m
  pay-ended l book a st (HeardIn Strange) m p = m
  pay-ended l book a st Malformed m p = m
  pay-ended l book a st Lost m p = m

  -- one more mark

  pub match-at : (l : List Row) (book : List Entry) (i : ℕ) (row : Entry) → AllMatch home l book → slice_get book i ≡ Some row → EntryMatches home l row
  match-at l [] i row m e = absurd cc
  match-at l (x ∷ book) zero row m e = let same : x ≡ row = cc in subst (λ y. EntryMatches home l y) same m.0
  match-at l (x ∷ book) (suc i) row m e = match-at l book i row m.1 e

  all_match-set : (l : List Row) (book : List Entry) (i : ℕ) (v : Entry) → AllMatch home l book → EntryMatches home l v → AllMatch home l (slice_set book i v)
  all_match-set l [] i v m e = tt
  all_match-set l (x ∷ book) zero v m e = (e, m.1)
  all_match-set l (x ∷ book) (suc i) v m e = (m.0, all_match-set l book i v m.1 e)

  -- a reversal that ends so leaves the entry an approval; it is marked only where the approval was taken back
  entry-ended : (l : List Row) (row : Entry) (out : Outcome) → EntryMatches home l row → (out ≡ ReversedOutcome → IsTakenBack l row.trace) → EntryMatches home l (entry_after row out)
  entry-ended l row Registered w k = w
  entry-ended l row (Paid t r) w k = w
  entry-ended l row (Declined c) w k = w
  entry-ended l row (RefusedOutcome c) w k = record { approved = w.approved; receipt = w.receipt; reversed = w.reversed }
  entry-ended l row (Aborted c) w k = record { approved = w.approved; receipt = w.receipt; reversed = w.reversed }
  entry-ended l row (UnclearOutcome x) w k = record { approved = w.approved; receipt = w.receipt; reversed = w.reversed }
  entry-ended l row ReversedOutcome w k = record { approved = w.approved; receipt = w.receipt; reversed = λ q. k refl }
  entry-ended l row DayClosed w k = w

  reversal-ended : (l : List Row) (book : List Entry) (i : ℕ) (out : Outcome) (o : Option Entry) → slice_get book i ≡ o → AllMatch home l book
      → ((row : Entry) → o ≡ Some row → out ≡ ReversedOutcome → IsTakenBack l row.trace)
      → AllMatch home l (elim o as (λ x. List Entry) [ None ↦ book | Some row ↦ slice_set book i (entry_after row out) ])
  reversal-ended l book i out None e m k = m
  reversal-ended l book i out (Some row) e m k = all_match-set l book i (entry_after row out) m (entry-ended l row out (match-at l book i row m e) (k row refl))

  -- only a completion after good statuses ends a reversal so
  takes-completed : (l : List Row) (o : Option Entry) (st : Statuses) → TakesFor l o st → (row : Entry) → o ≡ Some row → reversal_outcome st ≡ ReversedOutcome → IsTakenBack l row.trace
  takes-completed l o Nothing s row q e = absurd cc
  takes-completed l o (AllGood t r) s row q e = s row q
  takes-completed l o (AllDeclining c) s row q e = absurd cc
  takes-completed l o (Fault x) s row q e = absurd cc

  unbroken : (st : Statuses) (out : Outcome) → (out ≡ ReversedOutcome → ⊥) → broken_outcome st out ≡ ReversedOutcome → ⊥
  unbroken Nothing out k e = k e
  unbroken (AllGood t r) out k e = cc
  unbroken (AllDeclining c) out k e = k e
  unbroken (Fault x) out k e = cc

  takes-ended : (l : List Row) (book : List Entry) (i : ℕ) (o : Option Entry) (st : Statuses) (h : Happening) → TakesFor l o st → (row : Entry) → o ≡ Some row
      → outcome_by book (ReverseOrder i) st h ≡ ReversedOutcome → IsTakenBack l row.trace
  takes-ended l book i o st (HeardIn Completion) s row q e = takes-completed l o st s row q e
  takes-ended l book i o st (HeardIn (Negative c)) s row q e = absurd (unbroken st (RefusedOutcome c) (λ n. cc) e)
  takes-ended l book i o st (HeardIn (Abort c)) s row q e = absurd (unbroken st (Aborted c) (λ n. cc) e)
  takes-ended l book i o st h s row q e = absurd cc

  ended-book : (l : List Row) (book : List Entry) (o : Order) (st : Statuses) (h : Happening) → AllMatch home l book → SummaryHolds l book o st → AllMatch home l (book_after book o (outcome_by book o st h))
  ended-book l book RegisterOrder st h m s = m
  ended-book l book (PayOrder a) st h m s = pay-ended l book a st h m s
  ended-book l book (ReverseOrder e) st h m s =
      reversal-ended l book e (outcome_by book (ReverseOrder e) st h) (slice_get book e) refl m (takes-ended l book e (slice_get book e) st h s)
  ended-book l book CloseDayOrder st h m s = m
  ended-book l book CancelOrder st h m s = m

  -- the till

  abbrev pub RunningHolds : List Row → List Entry → Option Running → Type 0
  RunningHolds l book None = Unit {0}
  RunningHolds l book (Some r) = SummaryHolds l book r.order r.statuses

  pub record TillHolds (l : List Row) (s : TillState) : Type 0 where
    pub running : RunningHolds l s.book s.running
    pub book : AllMatch home l s.book
    pub named : s.settings.rules.reversal_by_receipt ≡ false

  running-more : (l more : List Row) (book : List Entry) (run : Option Running) → RunningHolds l book run → RunningHolds (l ++ more) book run
  running-more l more book None h = tt
  running-more l more book (Some r) h = summary-more l more book r.order r.statuses h

  pub till-more : (l more : List Row) (s : TillState) → TillHolds l s → TillHolds (l ++ more) s
  till-more l more s t = record { running = running-more l more s.book s.running t.running; book = all_match-more l more s.book t.book; named = t.named }

  noted : (rules : Rules) → rules.reversal_by_receipt ≡ false → (l : List Row) (force : Option ℕ) (book : List Entry) (u : List (ℕ × Cause)) (o : Order) (st : Statuses) (f : Option StatusFacts) → ((x : StatusFacts) → f ≡ Some x → ToldStatus l x) → SummaryHolds l book o st
      → SummaryHolds l book o (note_if (demand_of rules force book u o) st f)
  noted rules named l force book u o st None t s = s
  noted rules named l force book u o st (Some f) t s = summary-note rules named l force book u o st f (t f refl) s

  abbrev HappeningTold : List Row → Happening → Type 0
  HappeningTold l h = (x : StatusFacts) → status_of h ≡ Some x → ToldStatus l x

  meet-running-holds : (l : List Row) (s : TillState) (r : Running) (h : Happening) → s.settings.rules.reversal_by_receipt ≡ false → HappeningTold l h → SummaryHolds l s.book r.order r.statuses → AllMatch home l s.book → (b : Bool)
      → TillHolds l (cond b (finish s r.order (outcome_by s.book r.order r.statuses h)) (record s { running = Some (listened (demand_of s.settings.rules (Some s.settings.currency) s.book s.unclear r.order) r h) }))
  meet-running-holds l s r h named t k m true = record { running = tt; book = ended-book l s.book r.order r.statuses h m k; named = named }
  meet-running-holds l s r h named t k m false = record { running = noted s.settings.rules named l (Some s.settings.currency) s.book s.unclear r.order r.statuses (status_of h) t k; book = m; named = named }

  meet-by-holds : (l : List Row) (h : Happening) (k : Settings) (up g : Bool) (run : Option Running) (es : List Entry) (u : List (ℕ × Cause)) (last : Option Outcome)
      → k.rules.reversal_by_receipt ≡ false → HappeningTold l h → RunningHolds l es run → AllMatch home l es → TillHolds l (meet (state k up g run es u last) h)
  meet-by-holds l h k up g None es u last named t i m = record { running = tt; book = m; named = named }
  meet-by-holds l h k up g (Some r) es u last named t i m = meet-running-holds l (state k up g (Some r) es u last) r h named t i m (ends r.positive h)

  meet-holds : (l : List Row) (s : TillState) (h : Happening) → HappeningTold l h → TillHolds l s → TillHolds l (meet s h)
  meet-holds l s h t i = meet-by-holds l h s.settings s.line_up s.registered s.running s.book s.unclear s.last_outcome i.named t i.running i.book

  pub accept-holds : (l : List Row) (s : TillState) (o : Order) → TillHolds l s → TillHolds l (accept s o)
  accept-holds l s RegisterOrder i = record { running = tt; book = i.book; named = i.named }
  accept-holds l s (PayOrder a) i = record { running = tt; book = i.book; named = i.named }
  accept-holds l s (ReverseOrder e) i = record { running = tt; book = i.book; named = i.named }
  accept-holds l s CloseDayOrder i = record { running = tt; book = i.book; named = i.named }
  accept-holds l s CancelOrder i = i

  told-happening : (l : List Row) (m : Heard) → Told l m → HappeningTold l (HeardIn m)
  told-happening l Positive t x e = absurd cc
  told-happening l (Negative c) t x e = absurd cc
  told-happening l (Status f) t x e = let same : f ≡ x = cc in subst (λ y. ToldStatus l y) same t
  told-happening l Passing t x e = absurd cc
  told-happening l Completion t x e = absurd cc
  told-happening l (Abort c) t x e = absurd cc
  told-happening l Strange t x e = absurd cc

  pub heard-holds : (l : List Row) (s : TillState) (m : Heard) → Told l m → TillHolds l s → TillHolds l (step s (HeardIn m))
  heard-holds l s m t i = by_line s.line_up
    where
      by_line : (b : Bool) → TillHolds l (cond b (meet s (HeardIn m)) s)
      by_line true = meet-holds l s (HeardIn m) (told-happening l m t) i
      by_line false = i

  pub lost-holds : (l : List Row) (s : TillState) → TillHolds l s → TillHolds l (step s Lost)
  lost-holds l s i = let k = meet-holds l s Lost (λ x e. absurd cc) i in record { running = k.running; book = k.book; named = k.named }
