-- What the till hears, loses and orders leaves each payment that was taken back known to it, or its reversal runs.
use Rattle.std.proofs.Common.{◌≡◌, ℕ, zero, suc, ◌⊎◌, inl, inr, Bool, true, false, not, cond, ◌||◌, ◌==◌, List, [], ◌∷◌, ◌++◌, Option, Some, None, IsTrue, refl, sym, ap, subst, ◌∙◌, append-nil, slice_get, slice_set, option_map}
use Rattle.zvt_apdu.specs.Briefs.{digits}
use Rattle.zvt_apdu.specs.declared.brief.Brief.TheVariants.{Reverse}
use Rattle.zvt_till.specs.declared.happenings.Happening.{Happening}
use Rattle.zvt_till.specs.declared.happenings.Happening.TheVariants.{Connected, Heard as HeardIn, Lost}
use Rattle.zvt_till.specs.declared.messages.Heard.{Heard}
use Rattle.zvt_till.specs.declared.messages.Heard.TheVariants.{Positive, Negative, Status, Passing, Completion, Abort, Strange}
use Rattle.zvt_till.specs.declared.messages.StatusFacts.{StatusFacts}
use Rattle.zvt_till.specs.declared.statuses.Statuses.{Statuses}
use Rattle.zvt_till.specs.declared.statuses.Statuses.TheVariants.{Good as AllGood, Fault}
use Rattle.zvt_till.specs.declared.statuses.Running.{Running}
use Rattle.zvt_till.specs.declared.statuses.Demand.{Demand}
use Rattle.zvt_till.specs.declared.statuses.Demand.TheVariants.{Reversal as ReversalDemand}
use Rattle.zvt_till.specs.declared.entries.Doubt.{Doubt}
use Rattle.zvt_till.specs.declared.entries.Doubt.TheVariants.{No, TakenBack}
use Rattle.zvt_till.specs.declared.entries.Entry.{Entry}
use Rattle.zvt_till.specs.declared.outcomes.Cause.{Cause}
use Rattle.zvt_till.specs.declared.orders.Order.{Order}
use Rattle.zvt_till.specs.declared.orders.Order.TheVariants.{Register as RegisterOrder, Pay as PayOrder, Reverse as ReverseOrder, CloseDay as CloseDayOrder, Cancel as CancelOrder}
use Rattle.zvt_till.specs.declared.outcomes.Outcome.{Outcome}
use Rattle.zvt_till.specs.declared.outcomes.Outcome.TheVariants.{Registered, Paid, Declined, Refused as RefusedOutcome, Aborted, Unclear as UnclearOutcome, Reversed as ReversedOutcome, DayClosed}
use Rattle.zvt_till.specs.Books.{Booked}
use Rattle.zvt_till.specs.Doubts.{already_reversed}
use Rattle.zvt_till.specs.declared.settings.Rules.{Rules}
use Rattle.zvt_till.specs.ByReceipt.{sole_receipt}
use Rattle.zvt_till.specs.Outcomes.{charged, demand_of, note, reversal_outcome, broken_outcome, outcome_by, listened}
use Rattle.zvt_till.specs.Refusals.{session_refusal}
use Rattle.zvt_till.specs.Sending.{Settings, message_of, receipt_at, outgoing}
use Rattle.zvt_till.specs.Till.{TillState, entry_after, book_after, finish, meet_running, meet, fresh, accept, step, facts_of}
use Rattle.zvt_till.proofs.BookStepLemmas.{same-row}
use Rattle.zvt_till.proofs.LogStateLemmas.{state}
use Rattle.zvt_term.specs.declared.messages.Asked.{Asked}
use Rattle.zvt_term.specs.declared.messages.Asked.TheVariants.{Reversal}
use Rattle.zvt_term.specs.declared.ledger.Row.{Row}
use Rattle.zvt_term.specs.Returned.{is_doubted, is_told, Reverses}
use Rattle.zvt_term.specs.World.{IsTakenBack, AllMatch}
use Rattle.zvt_term.proofs.Facts.{asked_out}
use Rattle.zvt_term.proofs.Matching.{slice_get-prefix, match-at}
use Rattle.zvt_term.proofs.Accounts.{orders_in, words, IsClaimed, Stage, Asking, TakenUp, Dialogue}

-- one entry

-- after such an outcome of a reversal the till knows that the payment was taken back, or doubts it
abbrev pub IsTelling : Outcome → Type 0
IsTelling ReversedOutcome = Unit {0}
IsTelling (UnclearOutcome x) = Unit {0}
IsTelling out = ⊥

doubted : (reversed : Bool) → (reversed || true) ≡ true
doubted true = refl
doubted false = refl

told-by : (reversed b : Bool) (doubt : Doubt) → (reversed || is_doubted doubt) ≡ true → (reversed || is_doubted (cond b TakenBack doubt)) ≡ true
told-by true b doubt e = refl
told-by false true doubt e = refl
told-by false false doubt e = e

-- no reversal makes the till forget
told-after : (row : Entry) (out : Outcome) → IsTrue (is_told row) → IsTrue (is_told (entry_after row out))
told-after row Registered e = e
told-after row (Paid t r) e = e
told-after row (Declined c) e = e
told-after row (RefusedOutcome c) e = told-by row.reversed (c == already_reversed) row.doubt e
told-after row (Aborted c) e = told-by row.reversed (c == already_reversed) row.doubt e
told-after row (UnclearOutcome x) e = doubted row.reversed
told-after row ReversedOutcome e = refl
told-after row DayClosed e = e

telling-told : (row : Entry) (out : Outcome) → IsTelling out → IsTrue (is_told (entry_after row out))
telling-told row ReversedOutcome k = refl
telling-told row (UnclearOutcome x) k = doubted row.reversed
telling-told row out k = absurd k

same-trace : (row : Entry) (out : Outcome) → (entry_after row out).trace ≡ row.trace
same-trace row out = ap (λ (x : Booked). x.trace) (same-row row out)

-- the book

-- each entry stays at its place under its trace number, and what the till knew it still knows
abbrev pub Follows : List Entry → List Entry → Type 0
Follows before after =
    (place : ℕ) (entry : Entry) → slice_get before place ≡ Some entry
    → (now : Entry) × (slice_get after place ≡ Some now) × (now.trace ≡ entry.trace) × (IsTrue (is_told entry) → IsTrue (is_told now))

follows-same : (book : List Entry) → Follows book book
follows-same book place entry e = (entry, e, refl, λ k. k)

follows-push : (book : List Entry) (x : Entry) → Follows book (book ++ x ∷ [])
follows-push book x place entry e = (entry, slice_get-prefix book (x ∷ []) place entry e, refl, λ k. k)

follows-set : (book : List Entry) (i : ℕ) (out : Outcome) (row : Entry) → slice_get book i ≡ Some row → Follows book (slice_set book i (entry_after row out))
follows-set [] i out row q place entry e = absurd cc
follows-set (x ∷ book) zero out row q zero entry e =
    let same : row ≡ entry = cc in
    (entry_after row out, refl, same-trace row out ∙ ap (λ (y : Entry). y.trace) same, λ k. told-after row out (subst (λ (y : Entry). IsTrue (is_told y)) (sym same) k))
follows-set (x ∷ book) zero out row q (suc place) entry e = (entry, e, refl, λ k. k)
follows-set (x ∷ book) (suc i) out row q zero entry e = (entry, e, refl, λ k. k)
follows-set (x ∷ book) (suc i) out row q (suc place) entry e = follows-set book i out row q place entry e

follows-ended : (book : List Entry) (i : ℕ) (out : Outcome) (o : Option Entry) → slice_get book i ≡ o
    → Follows book (elim o as (λ x. List Entry) [ None ↦ book | Some row ↦ slice_set book i (entry_after row out) ])
follows-ended book i out None e = follows-same book
follows-ended book i out (Some row) e = follows-set book i out row e

follows-paid : (book : List Entry) (a : ℕ) (out : Outcome) → Follows book (book_after book (PayOrder a) out)
follows-paid book a (Paid t r) = follows-push book (record { amount = a; trace = t; receipt = r; reversed = false; doubt = No })
follows-paid book a out = follows-same book

follows-after : (book : List Entry) (o : Order) (out : Outcome) → Follows book (book_after book o out)
follows-after book RegisterOrder out = follows-same book
follows-after book (PayOrder a) out = follows-paid book a out
follows-after book (ReverseOrder i) out = follows-ended book i out (slice_get book i) refl
follows-after book CloseDayOrder out = follows-same book
follows-after book CancelOrder out = follows-same book

-- the entry at a place has this trace number; the till knows that it was taken back, or else something is true of the place
abbrev pub Now : List Entry → (ℕ → Type 0) → ℕ → ℕ → Type 0
Now book Else place n = (entry : Entry) × (slice_get book place ≡ Some entry) × (entry.trace ≡ n) × (IsTrue (is_told entry) ⊎ Else place)

abbrev pub Known : List Entry → (ℕ → Type 0) → ℕ → Type 0
Known book Else n = (place : ℕ) × Now book Else place n

known-on : (before after : List Entry) (P Q : ℕ → Type 0) → Follows before after
    → ((place : ℕ) (entry : Entry) → slice_get before place ≡ Some entry → P place → Now after Q place entry.trace)
    → (n : ℕ) → Known before P n → Known after Q n
known-on before after P Q f h n (place, (entry, e, t, inl told)) = let w = f place entry e in (place, (w.0, w.1, w.2 ∙ t, inl (w.3 told)))
known-on before after P Q f h n (place, (entry, e, t, inr p)) = subst (λ x. Known after Q x) t (place, h place entry e p)

pub known-same : (book : List Entry) (P Q : ℕ → Type 0) → ((place : ℕ) → P place → Q place) → (n : ℕ) → Known book P n → Known book Q n
known-same book P Q h n k = known-on book book P Q (follows-same book) (λ place entry e p. (entry, e, refl, inr (h place p))) n k

set-now : (book : List Entry) (i : ℕ) (row v : Entry) → slice_get book i ≡ Some row → slice_get (slice_set book i v) i ≡ Some v
set-now [] i row v e = absurd cc
set-now (x ∷ book) zero row v e = refl
set-now (x ∷ book) (suc i) row v e = set-now book i row v e

reversal-now : (book : List Entry) (place : ℕ) (entry : Entry) (out : Outcome) (Q : ℕ → Type 0) → slice_get book place ≡ Some entry → IsTelling out
    → Now (book_after book (ReverseOrder place) out) Q place entry.trace
reversal-now book place entry out Q e k =
    let after = entry_after entry out in
    subst (λ o. Now (elim o as (λ x. List Entry) [ None ↦ book | Some row ↦ slice_set book place (entry_after row out) ]) Q place entry.trace) (sym e)
    (after, set-now book place entry after e, same-trace entry out, inl (telling-told entry out k))

ended-now : (book : List Entry) (r : Running) (h : Happening) (Q : ℕ → Type 0) (place : ℕ) (entry : Entry) → slice_get book place ≡ Some entry → r.order ≡ ReverseOrder place
    → IsTelling (outcome_by book (ReverseOrder place) r.statuses h) → Now (book_after book r.order (outcome_by book r.order r.statuses h)) Q place entry.trace
ended-now book r h Q place entry e p k =
    subst (λ o. Now (book_after book o (outcome_by book o r.statuses h)) Q place entry.trace) (sym p)
    (reversal-now book place entry (outcome_by book (ReverseOrder place) r.statuses h) Q e k)

-- what is on the way

-- after these statuses, whatever is demanded of those to come, each end among these messages tells the till of the reversal
abbrev pub WillTell : Statuses → List Heard → Type 0
WillTell st [] = Unit {0}
WillTell st (Status f ∷ r) = (d : Demand) → WillTell (note (Some d) st f) r
WillTell st (Negative c ∷ r) = IsClaimed st × WillTell st r
WillTell st (Completion ∷ r) = IsClaimed st × WillTell st r
WillTell st (Abort c ∷ r) = IsClaimed st × WillTell st r
WillTell st (m ∷ r) = WillTell st r

-- the terminal took up a reversal of the entry at this place, and what the till has still to hear will tell of it
abbrev pub Awaits : ℕ → List Asked → Option Running → List Heard → Type 0
Awaits place asked None rest = ⊥
Awaits place asked (Some r) rest = (r.order ≡ ReverseOrder place) × (asked ≡ []) × WillTell r.statuses rest

-- a reversal on its way to the terminal is of an entry that the till knows to be taken back, or whose reversal runs
abbrev pub AsksFor : List Entry → Option Running → Asked → Type 0
AsksFor book run (Reversal receipt) = (n : ℕ) × (receipt ≡ Some (digits 2 n)) × Known book (λ place. Reverses place run) n
AsksFor book run m = Unit {0}

abbrev pub AllAsk : List Entry → Option Running → List Asked → Type 0
AllAsk book run [] = Unit {0}
AllAsk book run (m ∷ q) = AsksFor book run m × AllAsk book run q

abbrev pub AllKnown : List Row → List Asked → List Entry → Option Running → List Heard → Type 0
AllKnown l asked book run rest = (n : ℕ) → IsTakenBack l n → Known book (λ place. Awaits place asked run rest) n

pub record Returns (l : List Row) (asked : List Asked) (s : TillState) (rest : List Heard) : Type 0 where
  pub asks : AllAsk s.book s.running asked
  pub taken : AllKnown l asked s.book s.running rest

all_ask-on : (before after : List Entry) (run next : Option Running) → ((n : ℕ) → Known before (λ place. Reverses place run) n → Known after (λ place. Reverses place next) n)
    → (q : List Asked) → AllAsk before run q → AllAsk after next q
all_ask-on before after run next h [] k = tt
all_ask-on before after run next h (Reversal receipt ∷ q) ((n, e, w), k) = ((n, e, h n w), all_ask-on before after run next h q k)
all_ask-on before after run next h (m ∷ q) k = (tt, all_ask-on before after run next h q k.1)

none-ask : (book : List Entry) (run : Option Running) (asked : List Asked) → asked ≡ [] → AllAsk book run asked
none-ask book run asked e = subst (λ x. AllAsk book run x) (sym e) tt

-- the till hears

claimed-completion : (st : Statuses) → IsClaimed st → IsTelling (reversal_outcome st)
claimed-completion (AllGood t r) k = tt
claimed-completion (Fault x) k = tt
claimed-completion st k = absurd k

claimed-break : (st : Statuses) (out : Outcome) → IsClaimed st → IsTelling (broken_outcome st out)
claimed-break (AllGood t r) out k = tt
claimed-break (Fault x) out k = tt
claimed-break st out k = absurd k

ended-returns : (l : List Row) (asked : List Asked) (s : TillState) (r : Running) (h : Happening) (rest more : List Heard) → asked ≡ []
    → ((place : ℕ) → WillTell r.statuses rest → IsTelling (outcome_by s.book (ReverseOrder place) r.statuses h)) → AllKnown l asked s.book (Some r) rest
    → Returns l asked (finish s r.order (outcome_by s.book r.order r.statuses h)) more
ended-returns l asked s r h rest more none tells k =
    let after = book_after s.book r.order (outcome_by s.book r.order r.statuses h) in
    let f = follows-after s.book r.order (outcome_by s.book r.order r.statuses h) in
    let P : ℕ → Type 0 = λ place. Awaits place asked (Some r) rest in
    let Q : ℕ → Type 0 = λ place. Awaits place asked None more in
    record {
      asks = none-ask after None asked none;
      taken = λ n w. known-on s.book after P Q f (λ place entry e p. ended-now s.book r h Q place entry e p.0 (tells place p.2)) n (k n w);
    }

listens : (l : List Row) (asked : List Asked) (s : TillState) (r : Running) (h : Happening) (rest more : List Heard) → asked ≡ []
    → let next : Running = listened (demand_of s.settings.rules (Some s.settings.currency) s.book s.unclear r.order) r h in
    ((place : ℕ) (entry : Entry) → slice_get s.book place ≡ Some entry → r.order ≡ ReverseOrder place → WillTell r.statuses rest → WillTell next.statuses more)
    → AllKnown l asked s.book (Some r) rest → Returns l asked (record s { running = Some next }) more
listens l asked s r h rest more none tells k =
    let next : Running = listened (demand_of s.settings.rules (Some s.settings.currency) s.book s.unclear r.order) r h in
    let P : ℕ → Type 0 = λ place. Awaits place asked (Some r) rest in
    let Q : ℕ → Type 0 = λ place. Awaits place asked (Some next) more in
    record {
      asks = none-ask s.book (Some next) asked none;
      taken = λ n w. known-on s.book s.book P Q (follows-same s.book) (λ place entry e p. (entry, e, refl, inr (p.0, p.1, tells place entry e p.0 p.2))) n (k n w);
    }

-- a status of a reversal is measured against the entry
status-tells : (rules : Rules) (own : ℕ) (book : List Entry) (u : List (ℕ × Cause)) (r : Running) (f : StatusFacts) (more : List Heard) (place : ℕ) (entry : Entry) → slice_get book place ≡ Some entry → r.order ≡ ReverseOrder place
    → WillTell r.statuses (Status f ∷ more) → WillTell (note (demand_of rules (Some own) book u r.order) r.statuses f) more
status-tells rules own book u r f more place entry e p w =
    let d : Demand = ReversalDemand (charged (Some own) entry.amount) entry.trace (sole_receipt rules.reversal_by_receipt book u entry) in
    let same : demand_of rules (Some own) book u r.order ≡ Some d =
    ap (demand_of rules (Some own) book u) p ∙ ap (option_map (λ (row : Entry). ReversalDemand (charged (Some own) row.amount) row.trace (sole_receipt rules.reversal_by_receipt book u row))) e in
    subst (λ x. WillTell (note x r.statuses f) more) (sym same) (w d)

negative-hears : (l : List Row) (asked : List Asked) (s : TillState) (r : Running) (c : ℕ) (rest : List Heard) → asked ≡ [] → AllKnown l asked s.book (Some r) (Negative c ∷ rest)
    → (b : Bool) → Returns l asked (cond (not b) (finish s r.order (outcome_by s.book r.order r.statuses (HeardIn (Negative c)))) (record s { running = Some (listened (demand_of s.settings.rules (Some s.settings.currency) s.book s.unclear r.order) r (HeardIn (Negative c))) })) rest
negative-hears l asked s r c rest none k true = listens l asked s r (HeardIn (Negative c)) (Negative c ∷ rest) rest none (λ place entry e p w. w.1) k
negative-hears l asked s r c rest none k false =
    ended-returns l asked s r (HeardIn (Negative c)) (Negative c ∷ rest) rest none (λ place w. claimed-break r.statuses (RefusedOutcome c) w.0) k

taken_up-hears : (l : List Row) (asked : List Asked) (s : TillState) (r : Running) (m : Heard) (q coming : List Heard) → asked ≡ [] → AllKnown l asked s.book (Some r) (words (m ∷ q) ++ coming)
    → Returns l asked (meet_running s r (HeardIn m)) (words q ++ coming)
taken_up-hears l asked s r Positive q coming none k = listens l asked s r (HeardIn Positive) (words q ++ coming) (words q ++ coming) none (λ place entry e p w. w) k
taken_up-hears l asked s r (Negative c) q coming none k = negative-hears l asked s r c (words q ++ coming) none k r.positive
taken_up-hears l asked s r (Status f) q coming none k =
    listens l asked s r (HeardIn (Status f)) (Status f ∷ (words q ++ coming)) (words q ++ coming) none (status-tells s.settings.rules s.settings.currency s.book s.unclear r f (words q ++ coming)) k
taken_up-hears l asked s r Passing q coming none k = listens l asked s r (HeardIn Passing) (Passing ∷ (words q ++ coming)) (words q ++ coming) none (λ place entry e p w. w) k
taken_up-hears l asked s r Completion q coming none k =
    ended-returns l asked s r (HeardIn Completion) (Completion ∷ (words q ++ coming)) (words q ++ coming) none (λ place w. claimed-completion r.statuses w.0) k
taken_up-hears l asked s r (Abort c) q coming none k =
    ended-returns l asked s r (HeardIn (Abort c)) (Abort c ∷ (words q ++ coming)) (words q ++ coming) none (λ place w. claimed-break r.statuses (Aborted c) w.0) k
taken_up-hears l asked s r Strange q coming none k = listens l asked s r (HeardIn Strange) (Strange ∷ (words q ++ coming)) (words q ++ coming) none (λ place entry e p w. w) k

-- while the order is on its way only a positive answer comes
asking-hears : (l : List Row) (asked : List Asked) (s : TillState) (r : Running) (m : Heard) (q coming : List Heard) → words (m ∷ q) ++ coming ≡ []
    → AllAsk s.book (Some r) asked → AllKnown l asked s.book (Some r) (words (m ∷ q) ++ coming) → Returns l asked (meet_running s r (HeardIn m)) (words q ++ coming)
asking-hears l asked s r Positive q coming e a k =
    let next : Running = listened (demand_of s.settings.rules (Some s.settings.currency) s.book s.unclear r.order) r (HeardIn Positive) in
    let more = words q ++ coming in
    record {
      asks = all_ask-on s.book s.book (Some r) (Some next) (known-same s.book (λ place. Reverses place (Some r)) (λ place. Reverses place (Some next)) (λ place p. p)) asked a;
      taken = λ n w. known-same s.book (λ place. Awaits place asked (Some r) more) (λ place. Awaits place asked (Some next) more) (λ place p. p) n (k n w);
    }
asking-hears l asked s r m q coming e a k = absurd cc

running-hears : (l : List Row) (asked : List Asked) (s : TillState) (r : Running) (m : Heard) (q coming : List Heard) → Stage l asked s.book s.unclear r (words (m ∷ q) ++ coming)
    → AllAsk s.book (Some r) asked → AllKnown l asked s.book (Some r) (words (m ∷ q) ++ coming) → Returns l asked (meet_running s r (HeardIn m)) (words q ++ coming)
running-hears l asked s r m q coming (Asking m0 e f p) a k = asking-hears l asked s r m q coming p a k
running-hears l asked s r m q coming (TakenUp e n p) a k = taken_up-hears l asked s r m q coming e k

meets-by : (l : List Row) (asked : List Asked) (k : Settings) (up g : Bool) (run : Option Running) (es : List Entry) (u : List (ℕ × Cause)) (last : Option Outcome) (m : Heard) (q coming : List Heard)
    → Dialogue l asked es u run (words (m ∷ q) ++ coming) → AllAsk es run asked → AllKnown l asked es run (words (m ∷ q) ++ coming)
    → Returns l asked (meet (state k up g run es u last) (HeardIn m)) (words q ++ coming)
meets-by l asked k up g None es u last m q coming d a t =
    record { asks = a; taken = λ n w. known-same es (λ place. Awaits place asked None (words (m ∷ q) ++ coming)) (λ place. Awaits place asked None (words q ++ coming)) (λ place p. p) n (t n w) }
meets-by l asked k up g (Some r) es u last m q coming d a t = running-hears l asked (state k up g (Some r) es u last) r m q coming d a t

pub till-hears-returns : (l : List Row) (asked : List Asked) (s : TillState) (m : Heard) (q coming : List Heard) → s.line_up ≡ true
    → Dialogue l asked s.book s.unclear s.running (words (m ∷ q) ++ coming) → Returns l asked s (words (m ∷ q) ++ coming) → Returns l asked (step s (HeardIn m)) (words q ++ coming)
till-hears-returns l asked s m q coming up d t = by_line s.line_up up
  where
    by_line : (b : Bool) → b ≡ true → Returns l asked (cond b (meet s (HeardIn m)) s) (words q ++ coming)
    by_line true e = meets-by l asked s.settings s.line_up s.registered s.running s.book s.unclear s.last_outcome m q coming d t.asks t.taken
    by_line false e = absurd cc

-- the till loses the line: a reversal that ran is unclear

lost-by : (l : List Row) (asked : List Asked) (k : Settings) (up g : Bool) (run : Option Running) (es : List Entry) (u : List (ℕ × Cause)) (last : Option Outcome) (rest more : List Heard)
    → AllAsk es run asked → AllKnown l asked es run rest → Returns l asked (step (state k up g run es u last) Lost) more
lost-by l asked k up g None es u last rest more a t =
    record { asks = a; taken = λ n w. known-same es (λ place. Awaits place asked None rest) (λ place. Awaits place asked None more) (λ place p. p) n (t n w) }
lost-by l asked k up g (Some r) es u last rest more a t =
    let out = outcome_by es r.order r.statuses Lost in
    let after = book_after es r.order out in
    let f = follows-after es r.order out in
    let P : ℕ → Type 0 = λ place. Awaits place asked (Some r) rest in
    let Q : ℕ → Type 0 = λ place. Awaits place asked None more in
    let A : ℕ → Type 0 = λ place. Reverses place (Some r) in
    let B : ℕ → Type 0 = λ place. Reverses place None in
    record {
      asks = all_ask-on es after (Some r) None (known-on es after A B f (λ place entry e p. ended-now es r Lost B place entry e p tt)) asked a;
      taken = λ n w. known-on es after P Q f (λ place entry e p. ended-now es r Lost Q place entry e p.0 tt) n (t n w);
    }

pub till-loses-returns : (l : List Row) (asked : List Asked) (s : TillState) (rest more : List Heard) → Returns l asked s rest → Returns l asked (step s Lost) more
till-loses-returns l asked s rest more k = lost-by l asked s.settings s.line_up s.registered s.running s.book s.unclear s.last_outcome rest more k.asks k.taken

-- a new line: nothing is on the way

idle-awaits : (place : ℕ) (asked : List Asked) (run : Option Running) (rest : List Heard) → run ≡ None → Awaits place asked run rest → ⊥
idle-awaits place asked None rest e p = p
idle-awaits place asked (Some r) rest e p = cc

pub connected-returns : (l : List Row) (asked : List Asked) (s : TillState) (rest : List Heard) → s.running ≡ None → Returns l asked s rest → Returns l [] (step s Connected) []
connected-returns l asked s rest e k =
    record {
      asks = tt;
      taken = λ n w. known-same s.book (λ place. Awaits place asked s.running rest) (λ place. Awaits place [] s.running []) (λ place p. absurd (idle-awaits place asked s.running rest e p)) n (k.taken n w);
    }

-- the terminal loses the line: what it had still to say is never said

will_tell-prefix : (st : Statuses) (xs ys : List Heard) → WillTell st (xs ++ ys) → WillTell st xs
will_tell-prefix st [] ys h = tt
will_tell-prefix st (Status f ∷ xs) ys h = λ d. will_tell-prefix (note (Some d) st f) xs ys (h d)
will_tell-prefix st (Negative c ∷ xs) ys h = (h.0, will_tell-prefix st xs ys h.1)
will_tell-prefix st (Completion ∷ xs) ys h = (h.0, will_tell-prefix st xs ys h.1)
will_tell-prefix st (Abort c ∷ xs) ys h = (h.0, will_tell-prefix st xs ys h.1)
will_tell-prefix st (m ∷ xs) ys h = will_tell-prefix st xs ys h

awaits-prefix : (place : ℕ) (asked : List Asked) (run : Option Running) (xs ys : List Heard) → Awaits place asked run (xs ++ ys) → Awaits place asked run xs
awaits-prefix place asked None xs ys p = p
awaits-prefix place asked (Some r) xs ys (o, e, w) = (o, e, will_tell-prefix r.statuses xs ys w)

pub prefix-returns : (l : List Row) (asked : List Asked) (s : TillState) (xs ys : List Heard) → Returns l asked s (xs ++ ys) → Returns l asked s xs
prefix-returns l asked s xs ys k =
    record {
      asks = k.asks;
      taken = λ n w. known-same s.book (λ place. Awaits place asked s.running (xs ++ ys)) (λ place. Awaits place asked s.running xs) (λ place p. awaits-prefix place asked s.running xs ys p) n (k.taken n w);
    }

-- the till orders

-- home: the currency of the till
module _ (home : ℕ) where
  -- the receipt number of an entry spells its trace number
  reversal-asks : (l : List Row) (k : Settings) (es : List Entry) (i : ℕ) → AllMatch home l es
      → AllAsk es (Some (fresh (ReverseOrder i))) (orders_in (asked_out (message_of k es (ReverseOrder i))))
  reversal-asks l k es i m = by_entry (slice_get es i) refl
    where
      by_entry : (o : Option Entry) → slice_get es i ≡ o → AllAsk es (Some (fresh (ReverseOrder i))) (orders_in (asked_out (option_map (λ r. outgoing (Reverse k.password r)) (receipt_at o))))
      by_entry None e = tt
      by_entry (Some row) e =
          subst (λ x. AllAsk es (Some (fresh (ReverseOrder i))) (orders_in (asked_out (option_map (λ r. outgoing (Reverse k.password r)) x)))) (sym ((match-at home) l es i row m e).receipt)
          ((row.trace, refl, (i, (row, e, refl, inr refl))), tt)

  started : (l : List Row) (asked : List Asked) (k : Settings) (up g : Bool) (es : List Entry) (u : List (ℕ × Cause)) (last : Option Outcome) (o : Order) (more : List Asked) (rest : List Heard)
      → asked ≡ [] → AllAsk es (Some (fresh o)) more → AllKnown l asked es None rest → Returns l (asked ++ more) (state k up g (Some (fresh o)) es u last) rest
  started l asked k up g es u last o more rest e a t =
      record {
        asks = subst (λ x. AllAsk es (Some (fresh o)) (x ++ more)) (sym e) a;
        taken = λ n w. known-same es (λ place. Awaits place asked None rest) (λ place. Awaits place (asked ++ more) (Some (fresh o)) rest) (λ place p. absurd p) n (t n w);
      }

  accepts-by : (l : List Row) (asked : List Asked) (k : Settings) (up g : Bool) (run : Option Running) (es : List Entry) (u : List (ℕ × Cause)) (last : Option Outcome) (o : Order) (rest : List Heard)
      → session_refusal (facts_of (state k up g run es u last)) o ≡ None → AllMatch home l es → Dialogue l asked es u run rest → AllAsk es run asked → AllKnown l asked es run rest
      → Returns l (asked ++ orders_in (asked_out (message_of k es o))) (accept (state k up g run es u last) o) rest
  accepts-by l asked k up g None es u last RegisterOrder rest e m (none, p) a t = started l asked k up false es u last RegisterOrder (orders_in (asked_out (message_of k es RegisterOrder))) rest none (tt, tt) t
  accepts-by l asked k up g None es u last (PayOrder x) rest e m (none, p) a t = started l asked k up g es u last (PayOrder x) (orders_in (asked_out (message_of k es (PayOrder x)))) rest none (tt, tt) t
  accepts-by l asked k up g None es u last (ReverseOrder i) rest e m (none, p) a t =
      started l asked k up g es u last (ReverseOrder i) (orders_in (asked_out (message_of k es (ReverseOrder i)))) rest none (reversal-asks l k es i m) t
  accepts-by l asked k up g None es u last CloseDayOrder rest e m (none, p) a t = started l asked k up g es u last CloseDayOrder (orders_in (asked_out (message_of k es CloseDayOrder))) rest none (tt, tt) t
  accepts-by l asked k up g run es u last CancelOrder rest e m d a t =
      subst (λ x. Returns l x (state k up g run es u last) rest) (sym (append-nil asked)) (record { asks = a; taken = t })
  accepts-by l asked k up true (Some r) es u last o rest e m d a t = absurd cc
  accepts-by l asked k up false (Some r) es u last o rest e m d a t = absurd cc

  pub till-accepts-returns : (l : List Row) (asked : List Asked) (s : TillState) (o : Order) (rest : List Heard) → session_refusal (facts_of s) o ≡ None → AllMatch home l s.book
      → Dialogue l asked s.book s.unclear s.running rest → Returns l asked s rest → Returns l (asked ++ orders_in (asked_out (message_of s.settings s.book o))) (accept s o) rest
  till-accepts-returns l asked s o rest e m d k = accepts-by l asked s.settings s.line_up s.registered s.running s.book s.unclear s.last_outcome o rest e m d k.asks k.taken
