-- The till keeps what makes the terminal answer an ask, as it sends an order or asks. For the proof that an answer settles
-- what is pending.
use Rattle.std.proofs.Common.{◌≡◌, ℕ, ◌⊎◌, inl, inr, Bool, true, false, List, [], ◌∷◌, ◌++◌, drop, Option, Some, None, map, option_map, slice_get, refl, sym, ap, subst, ◌∙◌, append-nil}
use Rattle.std.specs.List.{list_any}
use Rattle.std.proofs.lemmas.List.{drop-append-le}
use Rattle.zvt_apdu.specs.declared.brief.Brief.TheVariants.{Reverse as ReverseBrief}
use Rattle.zvt_till.specs.declared.entries.Entry.{Entry}
use Rattle.zvt_till.specs.declared.messages.CurrencyFact.TheVariants.{Once as OneCurrency}
use Rattle.zvt_till.specs.declared.messages.Heard.{Heard}
use Rattle.zvt_till.specs.declared.orders.Order.{Order}
use Rattle.zvt_till.specs.declared.orders.Order.TheVariants.{Register, Pay, Reverse, CloseDay, Cancel}
use Rattle.zvt_till.specs.declared.orders.OrderRefusal.{OrderRefusal}
use Rattle.zvt_till.specs.declared.outcomes.Cause.{Cause}
use Rattle.zvt_till.specs.declared.outcomes.Outcome.{Outcome}
use Rattle.zvt_till.specs.declared.statuses.Running.{Running}
use Rattle.zvt_till.specs.Laws.{row_of}
use Rattle.zvt_till.specs.Refusals.{line_refusal, session_refusal}
use Rattle.zvt_till.specs.Sending.{Settings, message_of, receipt_at, outgoing}
use Rattle.zvt_till.specs.Till.{TillState, accept, facts_of}
use Rattle.zvt_till.proofs.LogStateLemmas.{state}
use Rattle.zvt_term.specs.declared.extras.Extra.TheVariants.{RepeatReceipt}
use Rattle.zvt_term.specs.declared.ledger.Row.{Row}
use Rattle.zvt_term.specs.declared.messages.Asked.TheVariants.{Registration, Authorisation, Reversal, EndOfDay, AbortOrder}
use Rattle.zvt_term.specs.Orderly.{Line}
use Rattle.zvt_term.specs.Terminal.{TerminalState}
use Rattle.zvt_term.proofs.Accounting.{online, offline}
use Rattle.zvt_settle.specs.Settling.{Settling, sent, asks, ask_refusal}
use Rattle.zvt_term.proofs.ActStands.{down-of, up-of, no-refusal, no-ask-refusal, off-line}
use Rattle.zvt_term.proofs.AskedMeans.{Word, Plain, Beyond, Meant, words_out, orders_meant, refuses_meant, asks_meant}
use Rattle.zvt_term.proofs.Standing.{Stage, StageAt, asked_on, rest_on, Holds}
use Rattle.zvt_term.proofs.SureTerminal.{any-more}
use Rattle.zvt_term.proofs.Surety.{is_replied, is_answer, Ordered, ordered-more, NoCompletion, Registered, NoBreak, Sure}

ordered-out : (q : List Word) (k : Settings) (book : List Entry) (o : Order) → Ordered q → Ordered (q ++ words_out (message_of k book o))
ordered-out q k book Register h = ordered-more q (Plain (Registration (Some k.currency))) refl h
ordered-out q k book (Pay a) h =
    ordered-more q (Plain (Authorisation (Some a) (OneCurrency k.currency))) refl h
ordered-out q k book (Reverse i) h = by_receipt (receipt_at (slice_get book i))
  where
    by_receipt : (r : Option (List ℕ)) → Ordered (q ++ words_out (option_map (λ x. outgoing (ReverseBrief k.password x)) r))
    by_receipt None = subst Ordered (sym (append-nil q)) h
    by_receipt (Some x) = ordered-more q (Plain (Reversal (Some x))) refl h
ordered-out q k book CloseDay h = ordered-more q (Plain EndOfDay) refl h
ordered-out q k book Cancel h = ordered-more q (Plain AbortOrder) refl h

sent-asking : (s : Settling) (o : Order) → (sent s o).asking ≡ s.asking
sent-asking s Register = refl
sent-asking s (Pay a) = refl
sent-asking s (Reverse i) = refl
sent-asking s CloseDay = refl
sent-asking s Cancel = refl

still_ending : (sent : List Word) (k : ℕ) (more : List Word) (heard : List Heard) → drop k (sent ++ more) ≡ drop k sent ++ more
    → (list_any is_answer (drop k sent) ≡ true) ⊎ (list_any is_replied heard ≡ true) → (list_any is_answer (drop k (sent ++ more)) ≡ true) ⊎ (list_any is_replied heard ≡ true)
still_ending sent k more heard longer (inl h) = inl (ap (list_any is_answer) longer ∙ any-more is_answer (drop k sent) more h)
still_ending sent k more heard longer (inr h) = inr h

-- ---- registered

resting-word : (own : ℕ) (before now : List Row) (asked : List Word) (k : Settings) (up g : Bool) (run : Option Running) (es : List Entry) (u : List (ℕ × Cause)) (lo : Option Outcome) (s : Settling) (rest : List Heard)
    → s.asking ≡ None → session_refusal (facts_of (state k up g run es u lo)) Register ≡ None → Stage own (map row_of es) u before now asked s run s.asking rest → rest ≡ []
resting-word own before now asked k up g None es u lo s rest idle e stage = (subst (λ a. Stage own (map row_of es) u before now asked s None a rest) idle stage).no_word
resting-word own before now asked k up g (Some r) es u lo s rest idle e stage = absurd cc

unregistered-session : (k : Settings) (up g : Bool) (run : Option Running) (es : List Entry) (u : List (ℕ × Cause)) (lo : Option Outcome) → g ≡ false
    → session_refusal (facts_of (state k up g run es u lo)) CloseDay ≡ None → ⊥
unregistered-session k up true run es u lo e r = cc
unregistered-session k up false run es u lo e r = cc

order-registered : (own : ℕ) (before now : List Row) (asked : List Word) (term : TerminalState) (t : TillState) (s : Settling) (o : Order) (rest : List Heard)
    → s.asking ≡ None → session_refusal (facts_of t) o ≡ None → StageAt own before now asked t s rest → Registered term t s rest → Registered term (accept t o) (sent s o) rest
order-registered own before now asked term t s o rest idle e stage (inl k) = inl k
order-registered own before now asked term t s Register rest idle e stage (inr k) =
    let none = resting-word own before now asked t.settings t.line_up t.registered t.running t.book t.unclear t.last_outcome s rest idle e stage in
    inr (refl, idle, (refl, subst NoCompletion (sym none) tt))
order-registered own before now asked term t s (Pay a) rest idle e stage (inr k) = absurd (unregistered-session t.settings t.line_up t.registered t.running t.book t.unclear t.last_outcome k.0 e)
order-registered own before now asked term t s (Reverse i) rest idle e stage (inr k) = absurd (unregistered-session t.settings t.line_up t.registered t.running t.book t.unclear t.last_outcome k.0 e)
order-registered own before now asked term t s CloseDay rest idle e stage (inr k) = absurd (unregistered-session t.settings t.line_up t.registered t.running t.book t.unclear t.last_outcome k.0 e)
order-registered own before now asked term t s Cancel rest idle e stage (inr k) = inr k

-- ---- orders

pub sure-orders : (own : ℕ) (w : Meant) (c : Line) (o : Order) (why : Option OrderRefusal) → refuses_meant w o ≡ why → Holds own w c → Sure w c → Sure (orders_meant w o why) c
sure-orders own w c o (Some why) e i k = k
sure-orders own w c o None e i k =
    let free = no-refusal (facts_of w.till) w.settling.asking o e in
    let t : TillState = w.till in
    let s : Settling = w.settling in
    let more = words_out (message_of t.settings t.book o) in
    let longer : drop c.to_terminal (w.from_till ++ more) ≡ drop c.to_terminal w.from_till ++ more = drop-append-le c.to_terminal w.from_till more i.till_sent in
    let found = λ (q : c.till_lost ≡ false). up-of c.till_lost own w.before w.terminal.ledger (asked_on w c) t s (rest_on w c) q i.stands in
    record {
      down = λ q. absurd (offline (facts_of t) o (down-of c.till_lost own w.before w.terminal.ledger (asked_on w c) t s (rest_on w c) q i.stands).line free.1);
      order = λ q. subst Ordered (sym longer) (ordered-out (drop c.to_terminal w.from_till) t.settings t.book o (k.order q));
      ending = λ q r phase. still_ending w.from_till c.to_terminal more (drop c.to_till w.from_terminal) longer (k.ending q r phase);
      registered = λ q r. order-registered own w.before w.terminal.ledger (asked_on w c) w.terminal t s o (rest_on w c) free.0 (online (facts_of t) o (found q).0 free.1) (found q).1 (k.registered q r);
      answered = λ q accepted asking p pending. let no : None ≡ Some accepted = sym (sent-asking s o ∙ free.0) ∙ asking in absurd cc;
    }

-- ---- asks

rest-of-ask : (own : ℕ) (before now : List Row) (asked : List Word) (k : Settings) (up g : Bool) (run : Option Running) (es : List Entry) (u : List (ℕ × Cause)) (lo : Option Outcome) (s : Settling) (rest : List Heard)
    → s.asking ≡ None → line_refusal (facts_of (state k up g run es u lo)) CloseDay ≡ None → Stage own (map row_of es) u before now asked s run s.asking rest → (g ≡ true) × (rest ≡ [])
rest-of-ask own before now asked k true true None es u lo s rest idle e stage = (refl, (subst (λ a. Stage own (map row_of es) u before now asked s None a rest) idle stage).no_word)
rest-of-ask own before now asked k true true (Some r) es u lo s rest idle e stage = absurd cc
rest-of-ask own before now asked k true false run es u lo s rest idle e stage = absurd cc
rest-of-ask own before now asked k false g run es u lo s rest idle e stage = absurd cc

ask-registered : (term : TerminalState) (t : TillState) (s : Settling) (rest : List Heard) → t.registered ≡ true → Registered term t s rest → Registered term t (asks s) rest
ask-registered term t s rest e (inl k) = inl k
ask-registered term t s rest e (inr k) = let no : true ≡ false = sym e ∙ k.0 in absurd cc

pub sure-asks : (own : ℕ) (w : Meant) (c : Line) (why : Option OrderRefusal) → ask_refusal (facts_of w.till) w.settling.asking ≡ why → Holds own w c → Sure w c → Sure (asks_meant w why) c
sure-asks own w c (Some why) e i k = k
sure-asks own w c None e i k =
    let free = no-ask-refusal (facts_of w.till) w.settling.asking e in
    let t : TillState = w.till in
    let s : Settling = w.settling in
    let more : List Word = Beyond RepeatReceipt ∷ [] in
    let longer : drop c.to_terminal (w.from_till ++ more) ≡ drop c.to_terminal w.from_till ++ more = drop-append-le c.to_terminal w.from_till more i.till_sent in
    let found = λ (q : c.till_lost ≡ false). up-of c.till_lost own w.before w.terminal.ledger (asked_on w c) t s (rest_on w c) q i.stands in
    let rests = λ (q : c.till_lost ≡ false). rest-of-ask own w.before w.terminal.ledger (asked_on w c) t.settings t.line_up t.registered t.running t.book t.unclear t.last_outcome s (rest_on w c) free.0 free.1 (found q).1 in
    record {
      down = λ q. absurd (off-line (facts_of t) (down-of c.till_lost own w.before w.terminal.ledger (asked_on w c) t s (rest_on w c) q i.stands).line free.1);
      order = λ q. subst Ordered (sym longer) (ordered-more (drop c.to_terminal w.from_till) (Beyond RepeatReceipt) refl (k.order q));
      ending = λ q r phase. still_ending w.from_till c.to_terminal more (drop c.to_till w.from_terminal) longer (k.ending q r phase);
      registered = λ q r. ask-registered w.terminal t s (rest_on w c) (rests q).0 (k.registered q r);
      answered = λ q accepted asking p pending. subst NoBreak (sym (rests q).1) tt;
    }
