-- What the till hears, loses and orders leaves all accounted for.
use Rattle.std.proofs.Common.{◌≡◌, ℕ, inl, inr, Bool, true, false, not, cond, List, [], ◌∷◌, ◌++◌, Option, Some, None, refl, sym, ap, subst, append-nil, slice_get, option_map, arith}
use Rattle.std.proofs.lemmas.List.Sums.{sum_by_push}
use Rattle.zvt_till.specs.declared.happenings.Happening.{Happening}
use Rattle.zvt_till.specs.declared.happenings.Happening.TheVariants.{Heard as HeardIn, Lost}
use Rattle.zvt_till.specs.declared.messages.Heard.{Heard}
use Rattle.zvt_till.specs.declared.messages.Heard.TheVariants.{Positive, Negative, Status, Passing, Completion, Abort, Strange}
use Rattle.zvt_till.specs.declared.messages.CurrencyFact.TheVariants.{Once as OneCurrency}
use Rattle.zvt_till.specs.declared.messages.StatusFacts.{StatusFacts}
use Rattle.zvt_till.specs.declared.statuses.Statuses.{Statuses}
use Rattle.zvt_till.specs.declared.statuses.Running.{Running}
use Rattle.zvt_till.specs.declared.statuses.Demand.TheVariants.{Payment}
use Rattle.zvt_till.specs.declared.entries.Entry.{Entry}
use Rattle.zvt_till.specs.declared.outcomes.Cause.{Cause}
use Rattle.zvt_till.specs.declared.orders.Order.{Order}
use Rattle.zvt_till.specs.declared.orders.Order.TheVariants.{Register as RegisterOrder, Pay as PayOrder, Reverse as ReverseOrder, CloseDay as CloseDayOrder, Cancel as CancelOrder}
use Rattle.zvt_till.specs.declared.orders.OrderRefusal.TheVariants.{AlreadyReversed, NoReceipt}
use Rattle.zvt_apdu.specs.declared.brief.Brief.TheVariants.{Reverse}
use Rattle.zvt_till.specs.declared.outcomes.Outcome.{Outcome}
use Rattle.zvt_till.specs.Segments.{ends}
use Rattle.zvt_till.specs.declared.settings.Rules.{Rules}
use Rattle.zvt_till.specs.Outcomes.{charged, demand_of, note, outcome_by, listened}
use Rattle.zvt_till.specs.Refusals.{session_refusal, asked_refusal, row_refusal}
use Rattle.zvt_till.specs.Sending.{Settings, message_of, receipt_at, outgoing}
use Rattle.zvt_till.specs.Till.{TillState, book_after, unclear_after, finish, meet_running, meet, fresh, accept, step, facts_of}
use Rattle.zvt_till.proofs.LogStateLemmas.{state}
use Rattle.zvt_term.specs.declared.messages.Asked.{Asked}
use Rattle.zvt_term.specs.declared.messages.Asked.TheVariants.{Registration, Authorisation, Reversal, EndOfDay}
use Rattle.zvt_term.specs.declared.ledger.Row.{Row}
use Rattle.zvt_term.specs.Orderly.{pays_amount}
use Rattle.zvt_term.proofs.Facts.{asked_out}
use Rattle.zvt_term.proofs.Accounts.{orders_in, words, asks_amount, Accounts, Covered, EndsLast, Keeps, Pledges, Fits, Stage, Asking, TakenUp, Dialogue, Closes, unpaid, order-closed, with_none, completion-closes, abort-closes, negative-closes, loss-closes}

-- the till hears the next message

pub record Talks (l : List Row) (asked : List Asked) (s : TillState) (rest : List Heard) : Type 0 where
  pub accounts : Accounts l asked s.book s.unclear s.running
  pub dialogue : Dialogue l asked s.book s.unclear s.running rest

ended-talks : (l : List Row) (asked : List Asked) (s : TillState) (r : Running) (out : Outcome) (rest : List Heard)
    → Accounts l asked s.book s.unclear (Some r) → Closes l asked s.book s.unclear r.order out → asked ≡ [] → rest ≡ [] → Talks l asked (finish s r.order out) rest
ended-talks l asked s r out rest a k e p =
    let book = book_after s.book r.order out in
    let u = unclear_after s.unclear r.order out in
    record { accounts = with_none l asked book u (order-closed l asked s.book s.unclear r.order out a k); dialogue = (e, p) }

going-on : (l : List Row) (asked : List Asked) (s : TillState) (r : Running) (h : Happening) (rest : List Heard)
    → Accounts l asked s.book s.unclear (Some r) → Stage l asked s.book s.unclear (listened (demand_of s.settings.rules (Some s.settings.currency) s.book s.unclear r.order) r h) rest
    → Talks l asked (record s { running = Some (listened (demand_of s.settings.rules (Some s.settings.currency) s.book s.unclear r.order) r h) }) rest
going-on l asked s r h rest a p = record { accounts = a; dialogue = p }

status-pledges : (rules : Rules) (own : ℕ) (l : List Row) (asked : List Asked) (book : List Entry) (u : List (ℕ × Cause)) (o : Order) (st : Statuses) (f : StatusFacts) (r : List Heard)
    → Pledges l asked book u o st (Status f ∷ r) → Pledges l asked book u o (note (demand_of rules (Some own) book u o) st f) r
status-pledges rules own l asked book u (PayOrder a) st f r (inl covered) = inl covered
status-pledges rules own l asked book u (PayOrder a) st f r (inr keeps) = inr (keeps (Some own))
status-pledges rules own l asked book u o st f r p = tt

passing-pledges : (l : List Row) (asked : List Asked) (book : List Entry) (u : List (ℕ × Cause)) (o : Order) (st : Statuses) (r : List Heard)
    → Pledges l asked book u o st (Passing ∷ r) → Pledges l asked book u o st r
passing-pledges l asked book u (PayOrder a) st r p = p
passing-pledges l asked book u o st r p = tt

strange-pledges : (l : List Row) (asked : List Asked) (book : List Entry) (u : List (ℕ × Cause)) (o : Order) (st : Statuses) (r : List Heard)
    → Pledges l asked book u o st (Strange ∷ r) → Pledges l asked book u o st r
strange-pledges l asked book u (PayOrder a) st r p = p
strange-pledges l asked book u o st r p = tt

-- a refusal that ends nothing was the last word
ignored-pledges : (l : List Row) (asked : List Asked) (book : List Entry) (u : List (ℕ × Cause)) (o : Order) (st : Statuses) (c : ℕ) (r : List Heard)
    → Pledges l asked book u o st (Negative c ∷ r) → Pledges l asked book u o st []
ignored-pledges l asked book u (PayOrder a) st c r (inl covered) = inl covered
ignored-pledges l asked book u (PayOrder a) st c r (inr keeps) = inr tt
ignored-pledges l asked book u o st c r p = tt

asking-hears : (l : List Row) (asked : List Asked) (s : TillState) (r : Running) (m : Heard) (q coming : List Heard)
    → Accounts l asked s.book s.unclear (Some r) → (m0 : Asked) → asked ≡ m0 ∷ [] → Fits r.order m0 → words (m ∷ q) ++ coming ≡ []
    → Talks l asked (meet_running s r (HeardIn m)) (words q ++ coming)
asking-hears l asked s r Positive q coming a m0 e f p = going-on l asked s r (HeardIn Positive) (words q ++ coming) a (Asking m0 e f p)
asking-hears l asked s r m q coming a m0 e f p = absurd cc

negative-hears : (l : List Row) (asked : List Asked) (s : TillState) (r : Running) (c : ℕ) (rest : List Heard)
    → Accounts l asked s.book s.unclear (Some r) → asked ≡ [] → rest ≡ [] → Pledges l asked s.book s.unclear r.order r.statuses (Negative c ∷ rest)
    → (b : Bool) → Talks l asked (cond (not b) (finish s r.order (outcome_by s.book r.order r.statuses (HeardIn (Negative c)))) (record s { running = Some (listened (demand_of s.settings.rules (Some s.settings.currency) s.book s.unclear r.order) r (HeardIn (Negative c))) })) rest
negative-hears l asked s r c rest a e n k true =
    let k2 = ignored-pledges l asked s.book s.unclear r.order r.statuses c rest k in
    let p : Stage l asked s.book s.unclear (listened (demand_of s.settings.rules (Some s.settings.currency) s.book s.unclear r.order) r (HeardIn (Negative c))) [] = TakenUp e tt k2 in
    going-on l asked s r (HeardIn (Negative c)) rest a (subst (λ x. Stage l asked s.book s.unclear (listened (demand_of s.settings.rules (Some s.settings.currency) s.book s.unclear r.order) r (HeardIn (Negative c))) x) (sym n) p)
negative-hears l asked s r c rest a e n k false =
    ended-talks l asked s r (outcome_by s.book r.order r.statuses (HeardIn (Negative c))) rest a (negative-closes l asked s.book s.unclear r.order r.statuses c rest k) e n

taken_up-hears : (l : List Row) (asked : List Asked) (s : TillState) (r : Running) (m : Heard) (q coming : List Heard)
    → Accounts l asked s.book s.unclear (Some r) → asked ≡ [] → EndsLast (words (m ∷ q) ++ coming) → Pledges l asked s.book s.unclear r.order r.statuses (words (m ∷ q) ++ coming)
    → Talks l asked (meet_running s r (HeardIn m)) (words q ++ coming)
taken_up-hears l asked s r Positive q coming a e n k = going-on l asked s r (HeardIn Positive) (words q ++ coming) a (TakenUp e n k)
taken_up-hears l asked s r (Negative c) q coming a e n k = negative-hears l asked s r c (words q ++ coming) a e n k r.positive
taken_up-hears l asked s r (Status f) q coming a e n k =
    going-on l asked s r (HeardIn (Status f)) (words q ++ coming) a (TakenUp e n (status-pledges s.settings.rules s.settings.currency l asked s.book s.unclear r.order r.statuses f (words q ++ coming) k))
taken_up-hears l asked s r Passing q coming a e n k =
    going-on l asked s r (HeardIn Passing) (words q ++ coming) a (TakenUp e n (passing-pledges l asked s.book s.unclear r.order r.statuses (words q ++ coming) k))
taken_up-hears l asked s r Completion q coming a e n k =
    ended-talks l asked s r (outcome_by s.book r.order r.statuses (HeardIn Completion)) (words q ++ coming) a
    (completion-closes l asked s.book s.unclear r.order r.statuses (words q ++ coming) k) e n
taken_up-hears l asked s r (Abort c) q coming a e n k =
    ended-talks l asked s r (outcome_by s.book r.order r.statuses (HeardIn (Abort c))) (words q ++ coming) a
    (abort-closes l asked s.book s.unclear r.order r.statuses c (words q ++ coming) k) e n
taken_up-hears l asked s r Strange q coming a e n k =
    going-on l asked s r (HeardIn Strange) (words q ++ coming) a (TakenUp e n (strange-pledges l asked s.book s.unclear r.order r.statuses (words q ++ coming) k))

quiet-hears : (m : Heard) (q coming : List Heard) → words (m ∷ q) ++ coming ≡ [] → words q ++ coming ≡ []
quiet-hears Positive q coming p = p
quiet-hears m q coming p = absurd cc

running-hears-talks : (l : List Row) (asked : List Asked) (s : TillState) (r : Running) (m : Heard) (q coming : List Heard)
    → Accounts l asked s.book s.unclear (Some r) → Stage l asked s.book s.unclear r (words (m ∷ q) ++ coming)
    → Talks l asked (meet_running s r (HeardIn m)) (words q ++ coming)
running-hears-talks l asked s r m q coming a (Asking m0 e f p) = asking-hears l asked s r m q coming a m0 e f p
running-hears-talks l asked s r m q coming a (TakenUp e n k) = taken_up-hears l asked s r m q coming a e n k

meets-by : (l : List Row) (asked : List Asked) (k : Settings) (up g : Bool) (run : Option Running) (es : List Entry) (u : List (ℕ × Cause)) (last : Option Outcome) (m : Heard) (q coming : List Heard)
    → Accounts l asked es u run → Dialogue l asked es u run (words (m ∷ q) ++ coming) → Talks l asked (meet (state k up g run es u last) (HeardIn m)) (words q ++ coming)
meets-by l asked k up g None es u last m q coming a d = record { accounts = a; dialogue = (d.0, quiet-hears m q coming d.1) }
meets-by l asked k up g (Some r) es u last m q coming a d = running-hears-talks l asked (state k up g (Some r) es u last) r m q coming a d

pub till-hears : (l : List Row) (asked : List Asked) (s : TillState) (m : Heard) (q coming : List Heard)
    → s.line_up ≡ true → Talks l asked s (words (m ∷ q) ++ coming) → Talks l asked (step s (HeardIn m)) (words q ++ coming)
till-hears l asked s m q coming up t = by_line s.line_up up
  where
    by_line : (b : Bool) → b ≡ true → Talks l asked (cond b (meet s (HeardIn m)) s) (words q ++ coming)
    by_line true e = meets-by l asked s.settings s.line_up s.registered s.running s.book s.unclear s.last_outcome m q coming t.accounts t.dialogue
    by_line false e = absurd cc

-- hearing keeps the line
line_up-end : (s : TillState) (r : Running) (h : Happening) (b : Bool)
    → (cond b (finish s r.order (outcome_by s.book r.order r.statuses h)) (record s { running = Some (listened (demand_of s.settings.rules (Some s.settings.currency) s.book s.unclear r.order) r h) })).line_up ≡ s.line_up
line_up-end s r h true = refl
line_up-end s r h false = refl

line_up-by : (k : Settings) (up g : Bool) (run : Option Running) (es : List Entry) (u : List (ℕ × Cause)) (last : Option Outcome) (h : Happening) → (meet (state k up g run es u last) h).line_up ≡ up
line_up-by k up g None es u last h = refl
line_up-by k up g (Some r) es u last h = line_up-end (state k up g (Some r) es u last) r h (ends r.positive h)

pub line_up-heard : (s : TillState) (m : Heard) → (step s (HeardIn m)).line_up ≡ s.line_up
line_up-heard s m = by_line s.line_up
  where
    by_line : (b : Bool) → (cond b (meet s (HeardIn m)) s).line_up ≡ s.line_up
    by_line true = line_up-by s.settings s.line_up s.registered s.running s.book s.unclear s.last_outcome (HeardIn m)
    by_line false = refl

-- the till loses the line

pub record Down (l : List Row) (asked : List Asked) (s : TillState) : Type 0 where
  pub covered : Covered l asked s.book s.unclear
  pub line : s.line_up ≡ false
  pub resting : s.running ≡ None

lost-by : (l : List Row) (asked : List Asked) (k : Settings) (up g : Bool) (run : Option Running) (es : List Entry) (u : List (ℕ × Cause)) (last : Option Outcome)
    → Accounts l asked es u run → Down l asked (step (state k up g run es u last) Lost)
lost-by l asked k up g None es u last a = record { covered = unpaid l asked es u a; line = refl; resting = refl }
lost-by l asked k up g (Some r) es u last a =
    let out = outcome_by es r.order r.statuses Lost in
    record { covered = order-closed l asked es u r.order out a (loss-closes l asked es u r.order r.statuses); line = refl; resting = refl }

pub till-loses : (l : List Row) (asked : List Asked) (s : TillState) → Accounts l asked s.book s.unclear s.running → Down l asked (step s Lost)
till-loses l asked s a = lost-by l asked s.settings s.line_up s.registered s.running s.book s.unclear s.last_outcome a

pub nothing-first : {X : Type 0} (xs ys : List X) → xs ++ ys ≡ [] → xs ≡ []
nothing-first [] ys e = refl
nothing-first (x ∷ xs) ys e = absurd cc

pub nothing-last : {X : Type 0} (xs ys : List X) → xs ++ ys ≡ [] → ys ≡ []
nothing-last [] ys e = e
nothing-last (x ∷ xs) ys e = absurd cc

-- the terminal loses the line: what it had still to say is never said

ends_last-prefix : (xs ys : List Heard) → EndsLast (xs ++ ys) → EndsLast xs
ends_last-prefix [] ys h = tt
ends_last-prefix (Negative c ∷ xs) ys h = nothing-first xs ys h
ends_last-prefix (Completion ∷ xs) ys h = nothing-first xs ys h
ends_last-prefix (Abort c ∷ xs) ys h = nothing-first xs ys h
ends_last-prefix (m ∷ xs) ys h = ends_last-prefix xs ys h

keeps-prefix : (a : ℕ) (st : Statuses) (xs ys : List Heard) → Keeps a st (xs ++ ys) → Keeps a st xs
keeps-prefix a st [] ys h = tt
keeps-prefix a st (Negative c ∷ xs) ys h = h
keeps-prefix a st (Status f ∷ xs) ys h = λ currency. keeps-prefix a (note (Some (Payment (charged currency a))) st f) xs ys (h currency)
keeps-prefix a st (Completion ∷ xs) ys h = h
keeps-prefix a st (Abort c ∷ xs) ys h = h
keeps-prefix a st (m ∷ xs) ys h = keeps-prefix a st xs ys h

pledges-prefix : (l : List Row) (asked : List Asked) (book : List Entry) (u : List (ℕ × Cause)) (o : Order) (st : Statuses) (xs ys : List Heard)
    → Pledges l asked book u o st (xs ++ ys) → Pledges l asked book u o st xs
pledges-prefix l asked book u (PayOrder a) st xs ys (inl covered) = inl covered
pledges-prefix l asked book u (PayOrder a) st xs ys (inr keeps) = inr (keeps-prefix a st xs ys keeps)
pledges-prefix l asked book u o st xs ys h = tt

stage-prefix : (l : List Row) (asked : List Asked) (book : List Entry) (u : List (ℕ × Cause)) (r : Running) (xs ys : List Heard) → Stage l asked book u r (xs ++ ys) → Stage l asked book u r xs
stage-prefix l asked book u r xs ys (Asking m e f p) = Asking m e f (nothing-first xs ys p)
stage-prefix l asked book u r xs ys (TakenUp e n k) = TakenUp e (ends_last-prefix xs ys n) (pledges-prefix l asked book u r.order r.statuses xs ys k)

pub dialogue-prefix : (l : List Row) (asked : List Asked) (book : List Entry) (u : List (ℕ × Cause)) (run : Option Running) (xs ys : List Heard)
    → Dialogue l asked book u run (xs ++ ys) → Dialogue l asked book u run xs
dialogue-prefix l asked book u None xs ys (e, p) = (e, nothing-first xs ys p)
dialogue-prefix l asked book u (Some r) xs ys k = stage-prefix l asked book u r xs ys k

-- the till orders

started : (l : List Row) (asked : List Asked) (k : Settings) (up g : Bool) (es : List Entry) (u : List (ℕ × Cause)) (last : Option Outcome) (o : Order) (m : Asked) (rest : List Heard)
    → ((b : ℕ) → asks_amount b m ≡ pays_amount b o) → Fits o m → Accounts l asked es u None → Dialogue l asked es u None rest
    → Talks l (asked ++ m ∷ []) (state k up g (Some (fresh o)) es u last) rest
started l asked k up g es u last o m rest same f a (e, p) =
    record {
      accounts = λ b. let n = a b in let q = sum_by_push (asks_amount b) asked m in let c = same b in omega (arith, n, q, c);
      dialogue = Asking m (ap (λ x. x ++ m ∷ []) e) f p;
    }

-- a reversal that is not refused names a receipt number
named : (k : Settings) (o : Option Entry) → row_refusal o ≡ None
    → (receipt : List ℕ) × (asked_out (option_map (λ r. outgoing (Reverse k.password r)) (receipt_at o)) ≡ Reversal (Some receipt) ∷ [])
named k None e = absurd cc
named k (Some row) e = by_row row.reversed row.receipt e
  where
    by_row : (b : Bool) (receipt : Option (List ℕ)) → cond b (Some AlreadyReversed) (elim receipt [ None ↦ Some NoReceipt | Some r ↦ None ]) ≡ None
        → (r : List ℕ) × (asked_out (option_map (λ x. outgoing (Reverse k.password x)) receipt) ≡ Reversal (Some r) ∷ [])
    by_row true receipt e = absurd cc
    by_row false None e = absurd cc
    by_row false (Some r) e = (r, refl)

accepts-by : (l : List Row) (asked : List Asked) (k : Settings) (up g : Bool) (run : Option Running) (es : List Entry) (u : List (ℕ × Cause)) (last : Option Outcome) (o : Order) (rest : List Heard)
    → session_refusal (facts_of (state k up g run es u last)) o ≡ None → asked_refusal (facts_of (state k up g run es u last)) o ≡ None → Accounts l asked es u run → Dialogue l asked es u run rest
    → Talks l (asked ++ orders_in (asked_out (message_of k es o))) (accept (state k up g run es u last) o) rest
accepts-by l asked k up g None es u last RegisterOrder rest e q a w = started l asked k up false es u last RegisterOrder (Registration (Some k.currency)) rest (λ b. refl) tt a w
accepts-by l asked k up g None es u last (PayOrder x) rest e q a w = started l asked k up g es u last (PayOrder x) (Authorisation (Some x) (OneCurrency k.currency)) rest (λ b. refl) (OneCurrency k.currency, refl) a w
accepts-by l asked k up g None es u last (ReverseOrder i) rest e q a w =
    let n = named k (slice_get es i) q in
    subst (λ (x : List Asked). Talks l (asked ++ orders_in x) (state k up g (Some (fresh (ReverseOrder i))) es u last) rest) (sym n.1)
    (started l asked k up g es u last (ReverseOrder i) (Reversal (Some n.0)) rest (λ b. refl) tt a w)
accepts-by l asked k up g None es u last CloseDayOrder rest e q a w = started l asked k up g es u last CloseDayOrder EndOfDay rest (λ b. refl) tt a w
accepts-by l asked k up g run es u last CancelOrder rest e q a w =
    subst (λ x. Talks l x (state k up g run es u last) rest) (sym (append-nil asked)) (record { accounts = a; dialogue = w })
accepts-by l asked k up true (Some r) es u last o rest e q a w = absurd cc
accepts-by l asked k up false (Some r) es u last o rest e q a w = absurd cc

pub till-accepts : (l : List Row) (asked : List Asked) (s : TillState) (o : Order) (rest : List Heard) → session_refusal (facts_of s) o ≡ None → asked_refusal (facts_of s) o ≡ None → Talks l asked s rest
    → Talks l (asked ++ orders_in (asked_out (message_of s.settings s.book o))) (accept s o) rest
till-accepts l asked s o rest e q w = accepts-by l asked s.settings s.line_up s.registered s.running s.book s.unclear s.last_outcome o rest e q w.accounts w.dialogue

pub line_up-accepted : (s : TillState) (o : Order) → (accept s o).line_up ≡ s.line_up
line_up-accepted s RegisterOrder = refl
line_up-accepted s (PayOrder a) = refl
line_up-accepted s (ReverseOrder e) = refl
line_up-accepted s CloseDayOrder = refl
line_up-accepted s CancelOrder = refl
