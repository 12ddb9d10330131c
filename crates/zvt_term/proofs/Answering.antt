-- Over lines that keep order, each approval is booked, unclear or still awaited.
use Rattle.std.proofs.Common.{◌≡◌, ℕ, ◌+◌, ◌≤◌, ◌⊎◌, inl, inr, Bool, true, false, cond, ◌==◌, List, [], ◌∷◌, ◌++◌, Option, Some, None, map, refl, sym, subst, ◌∙◌, append-nil, option_to_list, arith}
use Rattle.zvt_till.specs.declared.messages.Heard.{Heard}
use Rattle.zvt_till.specs.declared.messages.Heard.TheVariants.{Passing, Completion, Abort}
use Rattle.zvt_till.specs.declared.statuses.Statuses.{Statuses}
use Rattle.zvt_till.specs.declared.statuses.Statuses.TheVariants.{Good as AllGood, Fault}
use Rattle.zvt_till.specs.declared.statuses.Running.{Running}
use Rattle.zvt_till.specs.declared.statuses.Demand.TheVariants.{Payment}
use Rattle.zvt_till.specs.declared.statuses.Class.{Class}
use Rattle.zvt_till.specs.declared.statuses.Class.TheVariants.{Good, Declining, Doubtful}
use Rattle.zvt_till.specs.declared.entries.Entry.{Entry}
use Rattle.zvt_till.specs.declared.outcomes.Cause.{Cause}
use Rattle.zvt_till.specs.declared.outcomes.Cause.TheVariants.{Conflict, AmountDiffers, WrongCurrency}
use Rattle.zvt_till.specs.declared.orders.Order.{Order}
use Rattle.zvt_till.specs.declared.orders.Order.TheVariants.{Register as RegisterOrder, Pay as PayOrder, Reverse as ReverseOrder, CloseDay as CloseDayOrder, Cancel as CancelOrder}
use Rattle.zvt_till.specs.declared.messages.CurrencyFact.{CurrencyFact}
use Rattle.zvt_till.specs.Statuses.{is_in_currency, class_of, same_trace}
use Rattle.zvt_till.specs.Outcomes.{charged, note_class}
use Rattle.zvt_till.specs.Till.{TillState}
use Rattle.zvt_term.specs.declared.messages.Asked.{Asked}
use Rattle.zvt_term.specs.declared.messages.Asked.TheVariants.{Registration, Authorisation, Reversal, EndOfDay, AbortOrder, Answer, Unknown}
use Rattle.zvt_term.specs.declared.ledger.Row.{Row}
use Rattle.zvt_term.specs.declared.turns.Verdict.{Verdict}
use Rattle.zvt_term.specs.declared.turns.Verdict.TheVariants.{Approve, Decline}
use Rattle.zvt_term.specs.declared.turns.Phase.{Phase}
use Rattle.zvt_term.specs.declared.turns.Phase.TheVariants.{Idle, Printing, Completing, Aborting, Ending}
use Rattle.zvt_term.specs.declared.turns.Turn.{Turn}
use Rattle.zvt_term.specs.Ledger.{approval_by, is_taken_back}
use Rattle.zvt_term.specs.Orderly.{approvals, entries_of_amount, unclear_of_amount, pays_amount}
use Rattle.zvt_term.specs.Terminal.{TerminalState, has_capacity, next_number, is_idle, is_ready, aborts, refuses, registers, takes_currency, decides, authorises, takes_back_row, reverses_found, reverses, closes, goes_on, when, turn_of, reports_of}
use Rattle.zvt_term.proofs.Accounts.{asks_amount, on_the_way, on_the_way-first, approvals-push, orders_in, words, Accounts, Covered, EndsLast, IsClaimed, Keeps, Pledges, Fits, Stage, Asking, TakenUp, Dialogue}
use Rattle.zvt_term.proofs.Talking.{Talks, nothing-first, nothing-last}
use Rattle.zvt_term.proofs.Facts.{heard_of, fact_of, approval_status}
use Rattle.zvt_term.proofs.TurnLemmas.{taken_back}

-- what the terminal has still to say, as the till hears it
abbrev pub script_of : Phase → List Heard
script_of Idle = []
script_of (Printing line) = Passing ∷ Completion ∷ []
script_of Completing = Completion ∷ []
script_of (Aborting code) = Abort code ∷ []
script_of Ending = []

-- the terminal hears the next message

abbrev pub speech : Turn → List Heard
speech turn = words (map heard_of (reports_of turn.reply)) ++ words (script_of turn.phase)

abbrev pub ledger_after : TerminalState → Turn → List Row
ledger_after s turn = s.ledger ++ option_to_list turn.row

-- the number of approvals grows by an approval alone
abbrev GrowsTo : ℕ → ℕ → TerminalState → Turn → Type 0
GrowsTo b n s turn = approvals b (ledger_after s turn) ≤ n

still-grows : (b n : ℕ) (l : List Row) → approvals b l ≤ n → approvals b (l ++ []) ≤ n
still-grows b n l h = subst (λ (x : List Row). approvals b x ≤ n) (sym (append-nil l)) h

either-grows : (b n : ℕ) (s : TerminalState) (c : Bool) (x y : Turn) → GrowsTo b n s x → GrowsTo b n s y → GrowsTo b n s (cond c x y)
either-grows b n s true x y h k = h
either-grows b n s false x y h k = k

approved-grows : (b : ℕ) (l : List Row) (a n : ℕ) (c : Option ℕ) → approvals b (l ++ record { number = n; amount = a; currency = c; reverses = None } ∷ []) ≤ approvals b l + cond (a == b) 1 0
approved-grows b l a n c = let e = approvals-push b l (record { number = n; amount = a; currency = c; reverses = None }) in omega (arith, e)

reversed-grows : (b : ℕ) (l : List Row) (a n : ℕ) (c : Option ℕ) (o : ℕ) → approvals b (l ++ record { number = n; amount = a; currency = c; reverses = Some o } ∷ []) ≤ approvals b l + 0
reversed-grows b l a n c o = let e = approvals-push b l (record { number = n; amount = a; currency = c; reverses = Some o }) in omega (arith, e)

unchanged : (b k : ℕ) (s : TerminalState) → approvals b (s.ledger ++ []) ≤ approvals b s.ledger + k
unchanged b k s = still-grows b (approvals b s.ledger + k) s.ledger (omega arith)

decides-grows : (s : TerminalState) (a : ℕ) (v : Verdict) (b : ℕ) → GrowsTo b (approvals b s.ledger + cond (a == b) 1 0) s (decides s a v)
decides-grows s a Approve b = approved-grows b s.ledger a (next_number s) s.currency
decides-grows s a (Decline code) b = unchanged b (cond (a == b) 1 0) s

authorises-grows : (s : TerminalState) (o : Option ℕ) (named : CurrencyFact) (v : Verdict) (b : ℕ)
    → GrowsTo b (approvals b s.ledger + asks_amount b (Authorisation o named)) s (authorises s o named v)
authorises-grows s None named v b = unchanged b 0 s
authorises-grows s (Some a) named v b =
    let n = approvals b s.ledger + cond (a == b) 1 0 in
    let same = unchanged b (cond (a == b) 1 0) s in
    either-grows b n s (has_capacity s) (cond (takes_currency s.currency named) (decides s a v) (refuses s 111)) (refuses s 255)
    (either-grows b n s (takes_currency s.currency named) (decides s a v) (refuses s 111) (decides-grows s a v b) same) same

takes_back-grows : (s : TerminalState) (row : Row) (b : ℕ) → GrowsTo b (approvals b s.ledger + 0) s (takes_back_row s row)
takes_back-grows s row b =
    let n = approvals b s.ledger + 0 in
    either-grows b n s (is_taken_back row.number s.ledger) (aborts s 180) (cond (has_capacity s) (taken_back s row) (aborts s 255)) (unchanged b 0 s)
    (either-grows b n s (has_capacity s) (taken_back s row) (aborts s 255) (reversed-grows b s.ledger row.amount (next_number s) s.currency row.number) (unchanged b 0 s))

reverses-grows : (s : TerminalState) (receipt : Option (List ℕ)) (b : ℕ) → GrowsTo b (approvals b s.ledger + 0) s (reverses s receipt)
reverses-grows s None b = unchanged b 0 s
reverses-grows s (Some receipt) b = by_row (approval_by receipt s.ledger)
  where
    by_row : (row : Option Row) → GrowsTo b (approvals b s.ledger + 0) s (reverses_found s row)
    by_row None = unchanged b 0 s
    by_row (Some row) = takes_back-grows s row b

goes_on-grows : (s : TerminalState) (phase : Phase) (b : ℕ) → GrowsTo b (approvals b s.ledger + 0) s (goes_on s phase)
goes_on-grows s Idle b = unchanged b 0 s
goes_on-grows s (Printing line) b = unchanged b 0 s
goes_on-grows s Completing b = unchanged b 0 s
goes_on-grows s (Aborting code) b = unchanged b 0 s
goes_on-grows s Ending b = unchanged b 0 s

when-grows : (s : TerminalState) (ready : Bool) (turn : Turn) (b k : ℕ) → GrowsTo b (approvals b s.ledger + k) s turn → GrowsTo b (approvals b s.ledger + k) s (when ready s turn)
when-grows s ready turn b k h = either-grows b (approvals b s.ledger + k) s ready turn (refuses s 131) h (unchanged b k s)

-- an authorisation heard gives one approval at most
ledger-grows : (s : TerminalState) (m : Asked) (v : Verdict) (b : ℕ) → GrowsTo b (approvals b s.ledger + asks_amount b m) s (turn_of s m v)
ledger-grows s (Registration currency) v b = when-grows s (is_idle s.phase) (registers s currency) b 0 (unchanged b 0 s)
ledger-grows s (Authorisation o named) v b = when-grows s (is_ready s) (authorises s o named v) b (asks_amount b (Authorisation o named)) (authorises-grows s o named v b)
ledger-grows s (Reversal receipt) v b = when-grows s (is_ready s) (reverses s receipt) b 0 (reverses-grows s receipt b)
ledger-grows s EndOfDay v b = when-grows s (is_ready s) (closes s) b 0 (unchanged b 0 s)
ledger-grows s AbortOrder v b = unchanged b 0 s
ledger-grows s Answer v b = goes_on-grows s s.phase b
ledger-grows s Unknown v b = unchanged b 0 s

-- what is said after an order has an end at most at its end

either-ends : (c : Bool) (x y : Turn) → EndsLast (speech x) → EndsLast (speech y) → EndsLast (speech (cond c x y))
either-ends true x y h k = h
either-ends false x y h k = k

decides-ends : (s : TerminalState) (a : ℕ) (v : Verdict) → EndsLast (speech (decides s a v))
decides-ends s a Approve = refl
decides-ends s a (Decline code) = refl

authorises-ends : (s : TerminalState) (o : Option ℕ) (named : CurrencyFact) (v : Verdict) → words (script_of s.phase) ≡ [] → EndsLast (speech (authorises s o named v))
authorises-ends s None named v e = e
authorises-ends s (Some a) named v e =
    either-ends (has_capacity s) (cond (takes_currency s.currency named) (decides s a v) (refuses s 111)) (refuses s 255)
    (either-ends (takes_currency s.currency named) (decides s a v) (refuses s 111) (decides-ends s a v) e) e

takes_back-ends : (s : TerminalState) (row : Row) → EndsLast (speech (takes_back_row s row))
takes_back-ends s row =
    either-ends (is_taken_back row.number s.ledger) (aborts s 180) (cond (has_capacity s) (taken_back s row) (aborts s 255)) refl
    (either-ends (has_capacity s) (taken_back s row) (aborts s 255) refl refl)

reverses-ends : (s : TerminalState) (receipt : Option (List ℕ)) → EndsLast (speech (reverses s receipt))
reverses-ends s None = refl
reverses-ends s (Some receipt) = by_row (approval_by receipt s.ledger)
  where
    by_row : (row : Option Row) → EndsLast (speech (reverses_found s row))
    by_row None = refl
    by_row (Some row) = takes_back-ends s row

goes_on-says : (s : TerminalState) (phase : Phase) → speech (goes_on s phase) ≡ words (script_of phase)
goes_on-says s Idle = refl
goes_on-says s (Printing line) = refl
goes_on-says s Completing = refl
goes_on-says s (Aborting code) = refl
goes_on-says s Ending = refl

-- an acknowledgement lets the script go on
pub answer-says : (s : TerminalState) (v : Verdict) → speech (turn_of s Answer v) ≡ words (script_of s.phase)
answer-says s v = by_phase s.phase refl
  where
    by_phase : (phase : Phase) → s.phase ≡ phase → speech (goes_on s s.phase) ≡ words (script_of s.phase)
    by_phase phase e = subst (λ (p : Phase). speech (goes_on s p) ≡ words (script_of p)) (sym e) (goes_on-says s phase)

turn-ends : (s : TerminalState) (m : Asked) (v : Verdict) → words (script_of s.phase) ≡ [] → EndsLast (speech (turn_of s m v))
turn-ends s (Registration currency) v e = either-ends (is_idle s.phase) (registers s currency) (refuses s 131) refl e
turn-ends s (Authorisation o named) v e = either-ends (is_ready s) (authorises s o named v) (refuses s 131) (authorises-ends s o named v e) e
turn-ends s (Reversal receipt) v e = either-ends (is_ready s) (reverses s receipt) (refuses s 131) (reverses-ends s receipt) e
turn-ends s EndOfDay v e = either-ends (is_ready s) (closes s) (refuses s 131) refl e
turn-ends s AbortOrder v e = subst EndsLast (sym e) tt
turn-ends s Answer v e = subst EndsLast (sym (answer-says s v ∙ e)) tt
turn-ends s Unknown v e = e

-- neither an acknowledgement nor a cancel writes a row
answer-ledger : (s : TerminalState) (v : Verdict) → ledger_after s (turn_of s Answer v) ≡ s.ledger
answer-ledger s v = by_phase s.phase
  where
    by_phase : (phase : Phase) → ledger_after s (goes_on s phase) ≡ s.ledger
    by_phase Idle = append-nil s.ledger
    by_phase (Printing line) = append-nil s.ledger
    by_phase Completing = append-nil s.ledger
    by_phase (Aborting code) = append-nil s.ledger
    by_phase Ending = append-nil s.ledger

-- a payment taken up: no approval was added, or its status is on the way

abbrev pub IsDeclining : Class → Type 0
IsDeclining (Declining c) = Unit {0}
IsDeclining c = ⊥

pub claimed-note : (st : Statuses) (c : Class) (receipt : Option (List ℕ)) → (IsDeclining c → ⊥) → IsClaimed (note_class st c receipt)
claimed-note (AllGood t r) (Good u) receipt k = by_trace (same_trace u t)
  where
    by_trace : (b : Bool) → IsClaimed (cond b (AllGood t r) (Fault Conflict))
    by_trace true = tt
    by_trace false = tt
claimed-note st (Declining c) receipt k = absurd (k tt)
claimed-note st c receipt k = tt

approval-undeclined : (force : Option ℕ) (amount n : ℕ) (c : Option ℕ) → IsDeclining (class_of (Payment (charged force amount)) (approval_status amount n c)) → ⊥
approval-undeclined force amount n c = by_tests (is_in_currency force (fact_of c)) (amount == amount)
  where
    by_tests : (own same : Bool) → IsDeclining (cond own (cond same (Good (Some n)) (Doubtful AmountDiffers)) (Doubtful WrongCurrency)) → ⊥
    by_tests true true k = k
    by_tests true false k = k
    by_tests false same k = k

-- what a terminal's answer to a payment is worth
abbrev Settles : TerminalState → Turn → List Entry → List (ℕ × Cause) → ℕ → Statuses → Type 0
Settles s x book u a st = Covered (ledger_after s x) [] book u ⊎ Keeps a st (speech x)

either-settles : (s : TerminalState) (c : Bool) (x y : Turn) (book : List Entry) (u : List (ℕ × Cause)) (a : ℕ) (st : Statuses) → Settles s x book u a st → Settles s y book u a st
    → Settles s (cond c x y) book u a st
either-settles s true x y book u a st h k = h
either-settles s false x y book u a st h k = k

still-covered : (l : List Row) (book : List Entry) (u : List (ℕ × Cause)) → Covered l [] book u → Covered (l ++ []) [] book u
still-covered l book u h = subst (λ (x : List Row). Covered x [] book u) (sym (append-nil l)) h

decides-settles : (s : TerminalState) (a : ℕ) (v : Verdict) (book : List Entry) (u : List (ℕ × Cause)) (st : Statuses) → Covered s.ledger [] book u → Settles s (decides s a v) book u a st
decides-settles s a Approve book u st h =
    let f = approval_status a (next_number s) s.currency in
    inr (λ force. claimed-note st (class_of (Payment (charged force a)) f) f.receipt (approval-undeclined force a (next_number s) s.currency))
decides-settles s a (Decline code) book u st h = inl (still-covered s.ledger book u h)

payment-settles : (s : TerminalState) (a : ℕ) (named : CurrencyFact) (v : Verdict) (book : List Entry) (u : List (ℕ × Cause)) (st : Statuses) → Covered s.ledger [] book u
    → Settles s (turn_of s (Authorisation (Some a) named) v) book u a st
payment-settles s a named v book u st h =
    let still = still-covered s.ledger book u h in
    let taken = cond (takes_currency s.currency named) (decides s a v) (refuses s 111) in
    either-settles s (is_ready s) (authorises s (Some a) named v) (refuses s 131) book u a st
    (either-settles s (has_capacity s) taken (refuses s 255) book u a st
    (either-settles s (takes_currency s.currency named) (decides s a v) (refuses s 111) book u a st (decides-settles s a v book u st h) (inl still)) (inl still)) (inl still)

fits-pledges : (s : TerminalState) (m : Asked) (v : Verdict) (o : Order) (book : List Entry) (u : List (ℕ × Cause)) (st : Statuses)
    → ((b : ℕ) → approvals b s.ledger + on_the_way b (m ∷ []) ≤ entries_of_amount b book + unclear_of_amount b u + pays_amount b o) → Fits o m
    → Pledges (ledger_after s (turn_of s m v)) [] book u o st (speech (turn_of s m v))
fits-pledges s m v RegisterOrder book u st h f = tt
fits-pledges s m v (PayOrder a) book u st h f =
    let here : (b : ℕ) → approvals b s.ledger + on_the_way b (Authorisation (Some a) f.0 ∷ []) ≤ entries_of_amount b book + unclear_of_amount b u + cond (a == b) 1 0 =
    subst (λ x. (b : ℕ) → approvals b s.ledger + on_the_way b (x ∷ []) ≤ entries_of_amount b book + unclear_of_amount b u + cond (a == b) 1 0) f.1 h in
    let covered : Covered s.ledger [] book u = λ b. let n = here b in omega (arith, n) in
    subst (λ x. Settles s (turn_of s x v) book u a st) (sym f.1) (payment-settles s a f.0 v book u st covered)
fits-pledges s m v (ReverseOrder i) book u st h f = tt
fits-pledges s m v CloseDayOrder book u st h f = tt
fits-pledges s m v CancelOrder book u st h f = tt

decided-accounts : (s : TerminalState) (m : Asked) (v : Verdict) (q : List Asked) (book : List Entry) (u : List (ℕ × Cause)) (run : Option Running)
    → Accounts s.ledger (orders_in (m ∷ q)) book u run → Accounts (ledger_after s (turn_of s m v)) (orders_in q) book u run
decided-accounts s m v q book u run a = λ b. let n = a b in let first = on_the_way-first b m q in let more = ledger-grows s m v b in omega (arith, n, first, more)

pub decided-covered : (s : TerminalState) (m : Asked) (v : Verdict) (q : List Asked) (book : List Entry) (u : List (ℕ × Cause))
    → Covered s.ledger (orders_in (m ∷ q)) book u → Covered (ledger_after s (turn_of s m v)) (orders_in q) book u
decided-covered s m v q book u a = λ b. let n = a b in let first = on_the_way-first b m q in let more = ledger-grows s m v b in omega (arith, n, first, more)

-- the order on its way arrives
order-taken_up : (s : TerminalState) (m : Asked) (v : Verdict) (r : Running) (book : List Entry) (u : List (ℕ × Cause)) (said : List Heard) (rest : List Asked)
    → ((b : ℕ) → approvals b s.ledger + on_the_way b (m ∷ rest) ≤ entries_of_amount b book + unclear_of_amount b u + pays_amount b r.order)
    → Stage s.ledger (m ∷ rest) book u r (said ++ words (script_of s.phase))
    → Stage (ledger_after s (turn_of s m v)) rest book u r (said ++ speech (turn_of s m v))
order-taken_up s m v r book u said rest h (Asking m0 e f p) =
    let same : m ≡ m0 = cc in
    let none : rest ≡ [] = cc in
    let quiet : said ≡ [] = nothing-first said (words (script_of s.phase)) p in
    let stopped : words (script_of s.phase) ≡ [] = nothing-last said (words (script_of s.phase)) p in
    let fits : Fits r.order m = subst (λ x. Fits r.order x) (sym same) f in
    let x = turn_of s m v in
    let l = ledger_after s x in
    let here = subst (λ y. (b : ℕ) → approvals b s.ledger + on_the_way b (m ∷ y) ≤ entries_of_amount b book + unclear_of_amount b u + pays_amount b r.order) none h in
    let done : Stage l [] book u r ([] ++ speech x) = TakenUp refl (turn-ends s m v stopped) (fits-pledges s m v r.order book u r.statuses here fits) in
    subst (λ y. Stage l y book u r (said ++ speech x)) (sym none) (subst (λ y. Stage l [] book u r (y ++ speech x)) (sym quiet) done)
order-taken_up s m v r book u said rest h (TakenUp e n k) = absurd cc

order-dialogue : (s : TerminalState) (m : Asked) (v : Verdict) (book : List Entry) (u : List (ℕ × Cause)) (run : Option Running) (said : List Heard) (rest : List Asked)
    → Accounts s.ledger (m ∷ rest) book u run → Dialogue s.ledger (m ∷ rest) book u run (said ++ words (script_of s.phase))
    → Dialogue (ledger_after s (turn_of s m v)) rest book u run (said ++ speech (turn_of s m v))
order-dialogue s m v book u None said rest a (e, p) = absurd cc
order-dialogue s m v book u (Some r) said rest a k = order-taken_up s m v r book u said rest a k

plain-dialogue : (s : TerminalState) (turn : Turn) (book : List Entry) (u : List (ℕ × Cause)) (run : Option Running) (said : List Heard) (rest : List Asked)
    → ledger_after s turn ≡ s.ledger → speech turn ≡ words (script_of s.phase)
    → Dialogue s.ledger rest book u run (said ++ words (script_of s.phase)) → Dialogue (ledger_after s turn) rest book u run (said ++ speech turn)
plain-dialogue s turn book u run said rest same says_same k =
    subst (λ l. Dialogue l rest book u run (said ++ speech turn)) (sym same) (subst (λ x. Dialogue s.ledger rest book u run (said ++ x)) (sym says_same) k)

heard-dialogue : (s : TerminalState) (m : Asked) (v : Verdict) (q : List Asked) (book : List Entry) (u : List (ℕ × Cause)) (run : Option Running) (said : List Heard)
    → Accounts s.ledger (orders_in (m ∷ q)) book u run → Dialogue s.ledger (orders_in (m ∷ q)) book u run (said ++ words (script_of s.phase))
    → Dialogue (ledger_after s (turn_of s m v)) (orders_in q) book u run (said ++ speech (turn_of s m v))
heard-dialogue s AbortOrder v q book u run said a k = plain-dialogue s (turn_of s AbortOrder v) book u run said (orders_in q) (append-nil s.ledger) refl k
heard-dialogue s Answer v q book u run said a k = plain-dialogue s (turn_of s Answer v) book u run said (orders_in q) (answer-ledger s v) (answer-says s v) k
heard-dialogue s m v q book u run said a k = order-dialogue s m v book u run said (orders_in q) a k

pub terminal-hears-talks : (s : TerminalState) (m : Asked) (v : Verdict) (q : List Asked) (till : TillState) (said : List Heard)
    → Talks s.ledger (orders_in (m ∷ q)) till (said ++ words (script_of s.phase))
    → Talks (ledger_after s (turn_of s m v)) (orders_in q) till (said ++ speech (turn_of s m v))
terminal-hears-talks s m v q till said k =
    record {
      accounts = decided-accounts s m v q till.book till.unclear till.running k.accounts;
      dialogue = heard-dialogue s m v q till.book till.unclear till.running said k.accounts k.dialogue;
    }
