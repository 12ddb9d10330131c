-- The till keeps what makes the terminal answer an ask: as it hears a message, sends an order, or asks. For the proof that
-- an answer settles what is pending.
use Rattle.std.proofs.Common.{◌≡◌, ℕ, ◌+◌, ◌<◌, ◌⊎◌, inl, inr, Bool, true, false, cond, ◌||◌, List, [], ◌∷◌, ◌++◌, length, drop, Option, Some, None, map, option_map, slice_get, refl, sym, ap, subst, ◌∙◌, append-nil}
use Rattle.std.specs.List.{list_any}
use Rattle.std.proofs.lemmas.List.{drop-append-le}
use Rattle.zvt_till.specs.declared.entries.Entry.{Entry}
use Rattle.zvt_till.specs.declared.happenings.Happening.TheVariants.{Heard as HeardIn}
use Rattle.zvt_till.specs.declared.messages.Heard.{Heard}
use Rattle.zvt_till.specs.declared.messages.Heard.TheVariants.{Positive, Negative, Status, Passing, Completion, Abort, Strange}
use Rattle.zvt_till.specs.declared.messages.StatusFacts.{StatusFacts}
use Rattle.zvt_till.specs.declared.orders.Order.{Order}
use Rattle.zvt_till.specs.declared.orders.Order.TheVariants.{Register, Pay, Reverse, CloseDay, Cancel}
use Rattle.zvt_till.specs.declared.outcomes.Cause.{Cause}
use Rattle.zvt_till.specs.declared.outcomes.Outcome.{Outcome}
use Rattle.zvt_till.specs.declared.outcomes.Outcome.TheVariants.{Refused as RefusedOutcome, Aborted}
use Rattle.zvt_till.specs.declared.statuses.Running.{Running}
use Rattle.zvt_till.specs.declared.statuses.Statuses.{Statuses}
use Rattle.zvt_till.specs.declared.statuses.Statuses.TheVariants.{Nothing as NoStatuses, Good as AllGood, Declining as AllDeclining, Fault}
use Rattle.zvt_till.specs.Outcomes.{demand_of, broken_outcome, outcome_by, listened}
use Rattle.zvt_till.specs.Segments.{ends, is_positive}
use Rattle.zvt_till.specs.Sending.{Settings}
use Rattle.zvt_till.specs.Till.{TillState, registered_after_outcome, finish, meet, step}
use Rattle.zvt_till.proofs.LogStateLemmas.{state}
use Rattle.zvt_term.specs.declared.ledger.Row.{Row}
use Rattle.zvt_term.specs.Orderly.{Line}
use Rattle.zvt_term.specs.Terminal.{TerminalState}
use Rattle.zvt_term.proofs.Accounting.{next-of}
use Rattle.zvt_term.proofs.Accounts.{words}
use Rattle.zvt_term.proofs.Answering.{script_of}
use Rattle.zvt_term.proofs.Facts.{answer_to}
use Rattle.zvt_settle.specs.declared.deciding.Pending.{Pending}
use Rattle.zvt_settle.specs.declared.deciding.Settlement.{Settlement}
use Rattle.zvt_settle.specs.declared.deciding.StatusSoFar.{StatusSoFar}
use Rattle.zvt_settle.specs.Settling.{Settling, answer_by, answered, unasked, met, ended_as, sent, asks, meets, settles}
use Rattle.zvt_term.proofs.ActStands.{up-of}
use Rattle.zvt_term.proofs.AskedMeans.{Word, Plain, Meant, till_meant}
use Rattle.zvt_settle.proofs.OrderEnds.{with_status, ended-asking}
use Rattle.zvt_term.proofs.Standing.{requests, StageAt, asked_on, rest_on, Holds}
use Rattle.zvt_term.proofs.SureTerminal.{any-more, any-last}
use Rattle.zvt_term.proofs.Surety.{is_replied, is_answer, Ordered, ordered-quiet, NoCompletion, RegistersOnly, Registered, NoBreak, no-break-heard, Sure, heard-first}
use Rattle.zvt_term.proofs.TalkStands.{no-requests, requests-more}

-- ---- replies

replies : (m : Heard) → is_replied m ≡ true → list_any is_answer (map Plain (answer_to true m)) ≡ true
replies Positive e = absurd cc
replies (Negative c) e = absurd cc
replies (Status f) e = refl
replies Passing e = refl
replies Completion e = refl
replies (Abort c) e = refl
replies Strange e = refl

ending-heard : (sent : List Word) (k : ℕ) (m : Heard) (q : List Heard) → (drop k (sent ++ map Plain (answer_to true m)) ≡ drop k sent ++ map Plain (answer_to true m))
    → (list_any is_answer (drop k sent) ≡ true) ⊎ (list_any is_replied (m ∷ q) ≡ true)
    → (list_any is_answer (drop k (sent ++ map Plain (answer_to true m))) ≡ true) ⊎ (list_any is_replied q ≡ true)
ending-heard sent k m q longer (inl h) = inl (ap (list_any is_answer) longer ∙ any-more is_answer (drop k sent) (map Plain (answer_to true m)) h)
ending-heard sent k m q longer (inr h) = by_reply (is_replied m) refl h
  where
    by_reply : (b : Bool) → is_replied m ≡ b → (b || list_any is_replied q) ≡ true
        → (list_any is_answer (drop k (sent ++ map Plain (answer_to true m))) ≡ true) ⊎ (list_any is_replied q ≡ true)
    by_reply true e r = inl (ap (list_any is_answer) longer ∙ any-last is_answer (drop k sent) (map Plain (answer_to true m)) (replies m e))
    by_reply false e r = inr r

-- a reply is sent where no request is on the way
order-heard : (own : ℕ) (before now : List Row) (sent : List Word) (k : ℕ) (t : TillState) (s : Settling) (m : Heard) (q coming : List Heard)
    → StageAt own before now (requests (drop k sent)) t s (words (m ∷ q) ++ coming)
    → (requests (drop k (sent ++ map Plain (answer_to true m))) ≡ requests (drop k sent)) → Ordered (drop k sent) → Ordered (drop k (sent ++ map Plain (answer_to true m)))
order-heard own before now sent k t s Positive q coming stage same ordered = subst (λ x. Ordered (drop k x)) (sym (append-nil sent)) ordered
order-heard own before now sent k t s m q coming stage same ordered =
    ordered-quiet (drop k (sent ++ map Plain (answer_to true m))) (same ∙ heard-first own before now (requests (drop k sent)) t s m (words q ++ coming) stage)

-- ---- while a registration runs

unregistered-end : (st : Statuses) (out : Outcome) → registered_after_outcome false out ≡ false → registered_after_outcome false (broken_outcome st out) ≡ false
unregistered-end NoStatuses out e = e
unregistered-end (AllGood t r) out e = refl
unregistered-end (AllDeclining c) out e = e
unregistered-end (Fault x) out e = refl

-- without a completion, the till is not registered
record NotYet (t : TillState) (s : Settling) (rest : List Heard) : Type 0 where
  registered : t.registered ≡ false
  idle : s.asking ≡ None
  only : RegistersOnly t.running rest

not-yet-end : (k : Settings) (up : Bool) (es : List Entry) (u : List (ℕ × Cause)) (lo : Option Outcome) (p : Bool) (st : Statuses) (s : Settling) (m : Heard) (tail : List Heard) (b : Bool)
    → s.asking ≡ None → NoCompletion (m ∷ tail) → ends p (HeardIn m) ≡ b
    → let t : TillState = state k up false (Some (record { order = Register; positive = p; statuses = st })) es u lo in
    let r : Running = record { order = Register; positive = p; statuses = st } in
    NotYet (cond b (finish t Register (outcome_by es Register st (HeardIn m))) (record t { running = Some (listened (demand_of k.rules (Some k.currency) es u Register) r (HeardIn m)) }))
    (ended_as (with_status s (HeardIn m)) (Some Register) (cond b (Some (outcome_by es Register st (HeardIn m))) None) (length u)) tail
not-yet-end k up es u lo p st s Positive tail true idle n e = absurd cc
not-yet-end k up es u lo p st s (Negative c) tail true idle n e =
    record { registered = unregistered-end st (RefusedOutcome c) refl; idle = ended-asking (with_status s (HeardIn (Negative c))) Register (outcome_by es Register st (HeardIn (Negative c))) (length u) ∙ idle; only = tt }
not-yet-end k up es u lo p st s (Status f) tail true idle n e = absurd cc
not-yet-end k up es u lo p st s Passing tail true idle n e = absurd cc
not-yet-end k up es u lo p st s Completion tail b idle n e = absurd n
not-yet-end k up es u lo p st s (Abort c) tail true idle n e =
    record { registered = unregistered-end st (Aborted c) refl; idle = ended-asking (with_status s (HeardIn (Abort c))) Register (outcome_by es Register st (HeardIn (Abort c))) (length u) ∙ idle; only = tt }
not-yet-end k up es u lo p st s Strange tail true idle n e = absurd cc
not-yet-end k up es u lo p st s m tail false idle n e = record { registered = refl; idle = idle; only = (refl, n) }

words-tail : (m : Heard) (q coming : List Heard) → NoCompletion (words (m ∷ q) ++ coming) → NoCompletion (m ∷ (words q ++ coming))
words-tail Positive q coming n = n
words-tail (Negative c) q coming n = n
words-tail (Status f) q coming n = n
words-tail Passing q coming n = n
words-tail Completion q coming n = n
words-tail (Abort c) q coming n = n
words-tail Strange q coming n = n

not-yet-by : (k : Settings) (up : Bool) (run : Option Running) (es : List Entry) (u : List (ℕ × Cause)) (lo : Option Outcome) (s : Settling) (m : Heard) (q coming : List Heard)
    → s.asking ≡ None → RegistersOnly run (words (m ∷ q) ++ coming)
    → let t : TillState = state k up false run es u lo in
    NotYet (meet t (HeardIn m)) (unasked t (with_status s (HeardIn m)) (HeardIn m)) (words q ++ coming)
not-yet-by k up None es u lo s m q coming idle only = record { registered = refl; idle = idle; only = tt }
not-yet-by k up (Some r) es u lo s m q coming idle only = by_order r.order only.0
  where
    by_order : (o : Order) → o ≡ Register
        → let t : TillState = state k up false (Some (record { order = o; positive = r.positive; statuses = r.statuses })) es u lo in
        NotYet (meet t (HeardIn m)) (unasked t (with_status s (HeardIn m)) (HeardIn m)) (words q ++ coming)
    by_order Register e =
        not-yet-end k up es u lo r.positive r.statuses s m (words q ++ coming) (ends r.positive (HeardIn m)) idle (words-tail m q coming only.1) refl
    by_order (Pay a) e = absurd cc
    by_order (Reverse i) e = absurd cc
    by_order CloseDay e = absurd cc
    by_order Cancel e = absurd cc

idle-meets : (t : TillState) (s : Settling) (m : Heard) → s.asking ≡ None → meets t s (HeardIn m) ≡ unasked t (with_status s (HeardIn m)) (HeardIn m)
idle-meets t s m e = ap (λ a. met t (with_status s (HeardIn m)) a (HeardIn m)) e

not-yet-hears : (t : TillState) (s : Settling) (m : Heard) (q coming : List Heard) → t.line_up ≡ true → t.registered ≡ false → s.asking ≡ None → RegistersOnly t.running (words (m ∷ q) ++ coming)
    → NotYet (step t (HeardIn m)) (settles t s (HeardIn m)) (words q ++ coming)
not-yet-hears t s m q coming up none idle only =
    subst (λ b. NotYet (cond b (meet t (HeardIn m)) t) (cond b (meets t s (HeardIn m)) s) (words q ++ coming)) (sym up)
    (subst (λ x. NotYet (meet t (HeardIn m)) x (words q ++ coming)) (sym (idle-meets t s m idle))
    (subst (λ g. NotYet (meet (state t.settings t.line_up g t.running t.book t.unclear t.last_outcome) (HeardIn m)) (unasked (state t.settings t.line_up g t.running t.book t.unclear t.last_outcome) (with_status s (HeardIn m)) (HeardIn m)) (words q ++ coming)) (sym none)
    (not-yet-by t.settings t.line_up t.running t.book t.unclear t.last_outcome s m q coming idle only)))

registered-heard : (term : TerminalState) (t : TillState) (s : Settling) (m : Heard) (q coming : List Heard) → t.line_up ≡ true → Registered term t s (words (m ∷ q) ++ coming)
    → Registered term (step t (HeardIn m)) (settles t s (HeardIn m)) (words q ++ coming)
registered-heard term t s m q coming up (inl e) = inl e
registered-heard term t s m q coming up (inr (none, idle, only)) = let k = not-yet-hears t s m q coming up none idle only in inr (k.registered, k.idle, k.only)

-- ---- while an ask runs

abbrev settling : Option Bool → StatusSoFar → Option StatusFacts → Option Pending → List Settlement → Settling
settling asking so_far last pending done = record { asking = asking; so_far = so_far; last = last; pending = pending; settled = done }

-- an ask that still runs ran before, and the same is pending
record Still (s : Settling) (pending : Option Pending) : Type 0 where
  accepted : Bool
  asking : s.asking ≡ Some accepted
  same : pending ≡ s.pending

answered-none : (t : TillState) (s : Settling) (a : Option StatusFacts) (accepted : Bool) → (answered t s a).asking ≡ Some accepted → ⊥
answered-none t s None accepted e = cc
answered-none t s (Some f) accepted e = cc

still-by : (t : TillState) (asking : Option Bool) (so_far : StatusSoFar) (last : Option StatusFacts) (pending : Option Pending) (done : List Settlement) (m : Heard) (run : Option Running) (accepted : Bool)
    → t.running ≡ run → (meets t (settling asking so_far last pending done) (HeardIn m)).asking ≡ Some accepted
    → Still (settling asking so_far last pending done) (meets t (settling asking so_far last pending done) (HeardIn m)).pending
still-by t None so_far last pending done m run accepted r e = absurd (by_run t.running e)
  where
    by_end : (o : Order) (out : Option Outcome) → (ended_as (with_status (settling None so_far last pending done) (HeardIn m)) (Some o) out (length t.unclear)).asking ≡ Some accepted → ⊥
    by_end o None q = cc
    by_end o (Some out) q = let no : None ≡ Some accepted = sym (ended-asking (with_status (settling None so_far last pending done) (HeardIn m)) o out (length t.unclear)) ∙ q in cc

    by_run : (x : Option Running)
        → (ended_as (with_status (settling None so_far last pending done) (HeardIn m)) (option_map (λ y. y.order) x) (elim x [ None ↦ None | Some y ↦ cond (ends y.positive (HeardIn m)) (Some (outcome_by t.book y.order y.statuses (HeardIn m))) None ]) (length t.unclear)).asking ≡ Some accepted
        → ⊥
    by_run None q = cc
    by_run (Some y) q = by_end y.order (cond (ends y.positive (HeardIn m)) (Some (outcome_by t.book y.order y.statuses (HeardIn m))) None) q
still-by t (Some a) so_far last pending done m run accepted r e = by_ends (ends a (HeardIn m)) refl e
  where
    by_ends : (b : Bool) → ends a (HeardIn m) ≡ b
        → (cond b (answered t (with_status (settling (Some a) so_far last pending done) (HeardIn m)) (answer_by (with_status (settling (Some a) so_far last pending done) (HeardIn m)).so_far (HeardIn m))) (record (with_status (settling (Some a) so_far last pending done) (HeardIn m)) { asking = Some (a || is_positive (HeardIn m)) })).asking ≡ Some accepted
        → Still (settling (Some a) so_far last pending done)
        (cond b (answered t (with_status (settling (Some a) so_far last pending done) (HeardIn m)) (answer_by (with_status (settling (Some a) so_far last pending done) (HeardIn m)).so_far (HeardIn m))) (record (with_status (settling (Some a) so_far last pending done) (HeardIn m)) { asking = Some (a || is_positive (HeardIn m)) })).pending
    by_ends true is q = absurd (answered-none t (with_status (settling (Some a) so_far last pending done) (HeardIn m)) (answer_by (with_status (settling (Some a) so_far last pending done) (HeardIn m)).so_far (HeardIn m)) accepted q)
    by_ends false is q = record { accepted = a; asking = refl; same = refl }

still : (t : TillState) (s : Settling) (m : Heard) (accepted : Bool) → t.line_up ≡ true → (settles t s (HeardIn m)).asking ≡ Some accepted → Still s (settles t s (HeardIn m)).pending
still t s m accepted up e =
    subst (λ b. (cond b (meets t s (HeardIn m)) s).asking ≡ Some accepted → Still s (cond b (meets t s (HeardIn m)) s).pending) (sym up)
    (λ q. still-by t s.asking s.so_far s.last s.pending s.settled m t.running accepted refl q) e

-- ---- the delivery

pub sure-till : (own : ℕ) (w : Meant) (c : Line) → c.to_till < length w.from_terminal → c.till_lost ≡ false → Holds own w c → Sure w c
    → Sure (till_meant w (slice_get w.from_terminal c.to_till)) (record c { to_till = c.to_till + 1 })
sure-till own w c lt up i k =
    let next = next-of w.from_terminal c.to_till lt in
    let m : Heard = next.message in
    let t : TillState = w.till in
    let s : Settling = w.settling in
    let q = drop (c.to_till + 1) w.from_terminal in
    let coming = words (script_of w.terminal.phase) in
    let found = up-of c.till_lost own w.before w.terminal.ledger (asked_on w c) t s (rest_on w c) up i.stands in
    let stage : StageAt own w.before w.terminal.ledger (asked_on w c) t s (words (m ∷ q) ++ coming) =
    subst (λ x. StageAt own w.before w.terminal.ledger (asked_on w c) t s (words x ++ coming)) next.waiting found.1 in
    let more = map Plain (answer_to true m) in
    let sent_more : drop c.to_terminal (w.from_till ++ more) ≡ drop c.to_terminal w.from_till ++ more = drop-append-le c.to_terminal w.from_till more i.till_sent in
    let same : requests (drop c.to_terminal (w.from_till ++ more)) ≡ asked_on w c =
    requests-more c.to_terminal w.from_till more i.till_sent ∙ ap (λ x. asked_on w c ++ x) (no-requests true m) ∙ append-nil (asked_on w c) in
    let replied : map Plain (answer_to t.line_up m) ≡ more = ap (λ b. map Plain (answer_to b m)) found.0 in
    let here : Sure (record w { till = step t (HeardIn m); settling = settles t s (HeardIn m); from_till = w.from_till ++ more }) (record c { to_till = c.to_till + 1 }) =
    record {
      down = λ e. let no : true ≡ false = sym e ∙ up in absurd cc;
      order = λ e. order-heard own w.before w.terminal.ledger w.from_till c.to_terminal t s m q coming stage same (k.order e);
      ending = λ e f phase.
          ending-heard w.from_till c.to_terminal m q sent_more (subst (λ x. (list_any is_answer (drop c.to_terminal w.from_till) ≡ true) ⊎ (list_any is_replied x ≡ true)) next.waiting (k.ending e f phase));
      registered = λ e f. registered-heard w.terminal t s m q coming found.0 (subst (λ x. Registered w.terminal t s (words x ++ coming)) next.waiting (k.registered e f));
      answered = λ e accepted asking p pending.
          let old = still t s m accepted found.0 asking in
          no-break-heard m q coming (subst (λ x. NoBreak (words x ++ coming)) next.waiting (k.answered e old.accepted old.asking p (sym old.same ∙ pending)));
    } in
    subst (λ o. Sure (till_meant w o) (record c { to_till = c.to_till + 1 })) (sym next.is_next)
    (subst (λ ms. Sure (record w { till = step t (HeardIn m); settling = settles t s (HeardIn m); from_till = w.from_till ++ ms }) (record c { to_till = c.to_till + 1 })) (sym replied) here)
