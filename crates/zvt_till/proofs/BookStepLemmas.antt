-- What any step does to the book, and that each entry keeps all but its mark.
use Rattle.std.proofs.Common.{◌≡◌, ℕ, zero, suc, Bool, true, false, cond, List, [], ◌∷◌, ◌++◌, Option, Some, None, map, fold, refl, sym, ap, subst, ◌∙◌, inl, inr, ◌⊎◌, append-nil, append_assoc, slice_get, slice_set}
use Rattle.std.proofs.lemmas.List.{map_push}
use Rattle.std.proofs.lemmas.List.Sums.{fold-append}
use Rattle.zvt_till.specs.declared.happenings.Happening.{Happening}
use Rattle.zvt_till.specs.declared.happenings.Happening.TheVariants.{Connected, Sent as SentOut, Heard as HeardIn, Malformed, Lost}
use Rattle.zvt_till.specs.declared.orders.Order.{Order}
use Rattle.zvt_till.specs.declared.orders.Order.TheVariants.{Register, Pay, Reverse, CloseDay, Cancel}
use Rattle.zvt_till.specs.declared.statuses.Running.{Running}
use Rattle.zvt_till.specs.declared.entries.Doubt.TheVariants.{No}
use Rattle.zvt_till.specs.declared.entries.Entry.{Entry}
use Rattle.zvt_till.specs.declared.outcomes.Outcome.{Outcome}
use Rattle.zvt_till.specs.declared.outcomes.Outcome.TheVariants.{Registered, Paid, Declined, Refused, Aborted, Unclear, Reversed, DayClosed}
use Rattle.zvt_till.specs.Segments.{ends}
use Rattle.zvt_till.specs.Outcomes.{demand_of, outcome_by, listened}
use Rattle.zvt_till.specs.Refusals.{order_in}
use Rattle.zvt_till.specs.Books.{Booked, booked_as}
use Rattle.zvt_till.specs.Sending.{Settings}
use Rattle.zvt_till.specs.Till.{TillState, new_till, finish, meet_running, meet, accept, step, state_after, entry_after, book_after}
use Rattle.zvt_till.specs.Laws.{row_of, Grows, EntriesStay}

-- the book stays, or the running order ends
abbrev pub BookStep : TillState → Happening → List Entry → Type 0
BookStep s h book = (book ≡ s.book) ⊎ ((r : Running) × (book ≡ book_after s.book r.order (outcome_by s.book r.order r.statuses h)))

by_end : (s : TillState) (r : Running) (h : Happening) (b : Bool)
    → BookStep s h (cond b (finish s r.order (outcome_by s.book r.order r.statuses h)) (record s { running = Some (listened (demand_of s.settings.rules (Some s.settings.currency) s.book s.unclear r.order) r h) })).book
by_end s r h true = inr (r, refl)
by_end s r h false = inl refl

by_running : (s : TillState) (h : Happening) (run : Option Running) → BookStep s h (elim run as (λ x. TillState) [ None ↦ s | Some r ↦ meet_running s r h ]).book
by_running s h None = inl refl
by_running s h (Some r) = by_end s r h (ends r.positive h)

by_line : (s : TillState) (h : Happening) (up : Bool) → BookStep s h (cond up (meet s h) s).book
by_line s h true = by_running s h s.running
by_line s h false = inl refl

accepted : (s : TillState) (o : Order) → (accept s o).book ≡ s.book
accepted s Register = refl
accepted s (Pay a) = refl
accepted s (Reverse e) = refl
accepted s CloseDay = refl
accepted s Cancel = refl

sent : (s : TillState) (o : Option Order) → (elim o as (λ x. TillState) [ None ↦ s | Some order ↦ accept s order ]).book ≡ s.book
sent s None = refl
sent s (Some o) = accepted s o

pub book-step : (s : TillState) (h : Happening) → BookStep s h (step s h).book
book-step s Connected = inl refl
book-step s (SentOut o) = inl (sent s (order_in o))
book-step s (HeardIn m) = by_line s (HeardIn m) s.line_up
book-step s Malformed = by_running s Malformed s.running
book-step s Lost = by_running s Lost s.running

-- a mark leaves the rows

set-rows : (book : List Entry) (i : ℕ) (row v : Entry) → slice_get book i ≡ Some row → row_of v ≡ row_of row → map row_of (slice_set book i v) ≡ map row_of book
set-rows [] i row v e q = absurd cc
set-rows (x ∷ book) zero row v e q = let same : x ≡ row = cc in ap (λ y. y ∷ map row_of book) (q ∙ ap row_of (sym same))
set-rows (x ∷ book) (suc i) row v e q = ap (λ ys. row_of x ∷ ys) (set-rows book i row v e q)

pub same-row : (row : Entry) (out : Outcome) → row_of (entry_after row out) ≡ row_of row
same-row row Registered = refl
same-row row (Paid t r) = refl
same-row row (Declined c) = refl
same-row row (Refused c) = refl
same-row row (Aborted c) = refl
same-row row (Unclear x) = refl
same-row row Reversed = refl
same-row row DayClosed = refl

reversed-by : (book : List Entry) (i : ℕ) (out : Outcome) (o : Option Entry) → slice_get book i ≡ o
    → map row_of (elim o [ None ↦ book | Some row ↦ slice_set book i (entry_after row out) ]) ≡ map row_of book
reversed-by book i out None e = refl
reversed-by book i out (Some row) e = set-rows book i row (entry_after row out) e (same-row row out)

pub reversed-rows : (book : List Entry) (i : ℕ) (out : Outcome) → map row_of (book_after book (Reverse i) out) ≡ map row_of book
reversed-rows book i out = reversed-by book i out (slice_get book i) refl

-- and nothing else changes one

unchanged : (xs ys : List Booked) → ys ≡ xs → Grows xs ys
unchanged xs ys e = ([], e ∙ sym (append-nil xs))

paid-rows : (book : List Entry) (a : ℕ) (out : Outcome) → Grows (map row_of book) (map row_of (book_after book (Pay a) out))
paid-rows book a Registered = unchanged (map row_of book) (map row_of book) refl
paid-rows book a (Paid t r) = (booked_as a t r ∷ [], map_push row_of book (record { amount = a; trace = t; receipt = r; reversed = false; doubt = No }))
paid-rows book a (Declined c) = unchanged (map row_of book) (map row_of book) refl
paid-rows book a (Refused c) = unchanged (map row_of book) (map row_of book) refl
paid-rows book a (Aborted c) = unchanged (map row_of book) (map row_of book) refl
paid-rows book a (Unclear x) = unchanged (map row_of book) (map row_of book) refl
paid-rows book a Reversed = unchanged (map row_of book) (map row_of book) refl
paid-rows book a DayClosed = unchanged (map row_of book) (map row_of book) refl

ended-rows : (book : List Entry) (o : Order) (out : Outcome) → Grows (map row_of book) (map row_of (book_after book o out))
ended-rows book Register out = unchanged (map row_of book) (map row_of book) refl
ended-rows book (Pay a) out = paid-rows book a out
ended-rows book (Reverse i) out = unchanged (map row_of book) (map row_of (book_after book (Reverse i) out)) (reversed-rows book i out)
ended-rows book CloseDay out = unchanged (map row_of book) (map row_of book) refl
ended-rows book Cancel out = unchanged (map row_of book) (map row_of book) refl

step-rows : (s : TillState) (h : Happening) (book : List Entry) → BookStep s h book → Grows (map row_of s.book) (map row_of book)
step-rows s h book (inl e) = unchanged (map row_of s.book) (map row_of book) (ap (map row_of) e)
step-rows s h book (inr w) =
    subst (λ x. Grows (map row_of s.book) (map row_of x)) (sym w.1) (ended-rows s.book w.0.order (outcome_by s.book w.0.order w.0.statuses h))

grown_on : (xs ys zs : List Booked) → Grows xs ys → Grows ys zs → Grows xs zs
grown_on xs ys zs g k = (g.0 ++ k.0, k.1 ∙ ap (λ x. x ++ k.0) g.1 ∙ append_assoc xs g.0 k.0)

run-rows : (s : TillState) (more : List Happening) → Grows (map row_of s.book) (map row_of (fold step s more).book)
run-rows s [] = unchanged (map row_of s.book) (map row_of s.book) refl
run-rows s (h ∷ more) =
    grown_on (map row_of s.book) (map row_of (step s h).book) (map row_of (fold step (step s h) more).book)
    (step-rows s h (step s h).book (book-step s h)) (run-rows (step s h) more)

pub entries_stay : EntriesStay
entries_stay settings log more =
    subst (λ x. Grows (map row_of (state_after settings log).book) (map row_of x.book)) (sym (fold-append step (new_till settings) log more))
    (run-rows (state_after settings log) more)

-- no step changes what the till was made with

settings-by-end : (s : TillState) (r : Running) (h : Happening) (b : Bool)
    → (cond b (finish s r.order (outcome_by s.book r.order r.statuses h)) (record s { running = Some (listened (demand_of s.settings.rules (Some s.settings.currency) s.book s.unclear r.order) r h) })).settings ≡ s.settings
settings-by-end s r h true = refl
settings-by-end s r h false = refl

pub settings-by-running : (s : TillState) (h : Happening) (run : Option Running) → (elim run as (λ x. TillState) [ None ↦ s | Some r ↦ meet_running s r h ]).settings ≡ s.settings
settings-by-running s h None = refl
settings-by-running s h (Some r) = settings-by-end s r h (ends r.positive h)

settings-by-line : (s : TillState) (h : Happening) (up : Bool) → (cond up (meet s h) s).settings ≡ s.settings
settings-by-line s h true = settings-by-running s h s.running
settings-by-line s h false = refl

pub settings-accepted : (s : TillState) (o : Option Order) → (elim o as (λ x. TillState) [ None ↦ s | Some order ↦ accept s order ]).settings ≡ s.settings
settings-accepted s None = refl
settings-accepted s (Some Register) = refl
settings-accepted s (Some (Pay a)) = refl
settings-accepted s (Some (Reverse e)) = refl
settings-accepted s (Some CloseDay) = refl
settings-accepted s (Some Cancel) = refl

pub settings-step : (s : TillState) (h : Happening) → (step s h).settings ≡ s.settings
settings-step s Connected = refl
settings-step s (SentOut o) = settings-accepted s (order_in o)
settings-step s (HeardIn m) = settings-by-line s (HeardIn m) s.line_up
settings-step s Malformed = settings-by-running s Malformed s.running
settings-step s Lost = settings-by-running s Lost s.running

settings-run : (s : TillState) (log : List Happening) → (fold step s log).settings ≡ s.settings
settings-run s [] = refl
settings-run s (h ∷ log) = settings-run (step s h) log ∙ settings-step s h

pub settings-kept : (settings : Settings) (log : List Happening) → (state_after settings log).settings ≡ settings
settings-kept settings log = settings-run (new_till settings) log
