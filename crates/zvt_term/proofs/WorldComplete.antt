-- Over lines that keep order, an answer settles what is pending.
use Rattle.std.proofs.Common.{◌≡◌, ℕ, ◌+◌, ◌<◌, ◌≤◌, ◌⊎◌, inl, inr, Bool, true, false, not, cond, ◌&&◌, ◌==◌, nat_lt, List, [], ◌∷◌, ◌++◌, length, drop, Option, Some, None, IsSome, map, fold, slice_get, option_to_list, refl, sym, ap, subst, ◌∙◌, eqb-true}
use Rattle.std.proofs.lemmas.Bool.{ltb-true}
use Rattle.std.proofs.lemmas.List.{length-map}
use Rattle.std.proofs.lemmas.List.Sums.{fold-append}
use Rattle.zvt_till.specs.declared.happenings.Happening.TheVariants.{Heard as HeardIn}
use Rattle.zvt_till.specs.declared.messages.Heard.{Heard}
use Rattle.zvt_till.specs.declared.messages.Heard.TheVariants.{Positive, Negative, Status, Passing, Completion, Abort}
use Rattle.zvt_till.specs.declared.messages.StatusFacts.{StatusFacts}
use Rattle.zvt_till.specs.Events.{run_settings}
use Rattle.zvt_till.specs.Hearing.{heard_as}
use Rattle.zvt_till.specs.Laws.{row_of}
use Rattle.zvt_till.specs.Till.{TillState, facts_of}
use Rattle.zvt_term.specs.declared.extras.Extra.TheVariants.{RepeatReceipt}
use Rattle.zvt_term.specs.declared.ledger.Row.{Row}
use Rattle.zvt_term.specs.declared.turns.Verdict.{Verdict}
use Rattle.zvt_term.specs.declared.world.Move.TheVariants.{Connect, Order as Ordered, ToTerminal, ToTill, TillLost, TerminalLost}
use Rattle.zvt_term.specs.Ledger.{NumberedFrom}
use Rattle.zvt_term.specs.Orderly.{Line, no_line, is_orderly}
use Rattle.zvt_term.proofs.Accounting.{and-left, and-right, not-true, next-of}
use Rattle.zvt_term.proofs.Accounts.{words}
use Rattle.zvt_term.proofs.Answering.{script_of}
use Rattle.zvt_settle.specs.declared.deciding.Pending.{Pending}
use Rattle.zvt_settle.specs.declared.deciding.Settlement.{Settlement}
use Rattle.zvt_settle.specs.declared.deciding.StatusSoFar.{StatusSoFar}
use Rattle.zvt_settle.specs.declared.deciding.StatusSoFar.TheVariants.{Nothing, One, Mixed}
use Rattle.zvt_term.specs.AskedWorld.{Act, Does, Asks, Ends, new_ends, act, asked_world, act_orderly, cable_after, orderly_from, FitAct, FitActs, Complete}
use Rattle.zvt_settle.specs.Deciding.{one_status}
use Rattle.zvt_settle.specs.Settling.{Settling, paid_traces, decided, answered, asked, met, meets, settles, ask_refusal}
use Rattle.zvt_term.proofs.ActStands.{up-of}
use Rattle.zvt_term.proofs.AnswerDecides.{answer-decides}
use Rattle.zvt_term.proofs.AskedFits.{Fit, act-means, act-fit, new-fit}
use Rattle.zvt_term.proofs.AskedMeans.{Word, Beyond, word_of, Meant, meaning, refuses_meant, terminal_meant, till_meant, act_meant}
use Rattle.zvt_settle.proofs.OrderEnds.{with_status}
use Rattle.zvt_term.proofs.Standing.{IsLast, Waits, Goes, Repeats, Answers, Asking, StageAt, asked_on, rest_on, Holds}
use Rattle.zvt_term.proofs.SureAnswers.{ask-stage, sure-terminal}
use Rattle.zvt_term.proofs.SureOrders.{sure-orders, sure-asks}
use Rattle.zvt_term.proofs.SureTerminal.{sure-connects, sure-till-lost, sure-terminal-lost}
use Rattle.zvt_term.proofs.SureTill.{sure-till}
use Rattle.zvt_term.proofs.Surety.{NoBreak, Sure}
use Rattle.zvt_term.proofs.WorldSound.{act-means-so, at-first}

-- ---- each act

pub terminal-next : (w : Meant) (c : Line) (k : ℕ) (v : Verdict) → is_orderly (length w.from_till) (length w.from_terminal) c (ToTerminal k v) ≡ true
    → (k ≡ c.to_terminal) × (c.to_terminal < length w.from_till) × (c.terminal_lost ≡ false)
terminal-next w c k v e =
    let named = k == c.to_terminal in
    let sent = nat_lt k (length w.from_till) in
    let first = and-left (named && sent) (not c.terminal_lost) e in
    let same : k ≡ c.to_terminal = eqb-true k c.to_terminal (and-left named sent first) in
    let within : k < length w.from_till = ltb-true k (length w.from_till) (and-right named sent first) in
    (same, subst (λ n. n < length w.from_till) same within, not-true c.terminal_lost (and-right (named && sent) (not c.terminal_lost) e))

pub till-next : (w : Meant) (c : Line) (k : ℕ) → is_orderly (length w.from_till) (length w.from_terminal) c (ToTill k) ≡ true → (k ≡ c.to_till) × (c.to_till < length w.from_terminal) × (c.till_lost ≡ false)
till-next w c k e =
    let named = k == c.to_till in
    let sent = nat_lt k (length w.from_terminal) in
    let first = and-left (named && sent) (not c.till_lost) e in
    let same : k ≡ c.to_till = eqb-true k c.to_till (and-left named sent first) in
    let within : k < length w.from_terminal = ltb-true k (length w.from_terminal) (and-right named sent first) in
    (same, subst (λ n. n < length w.from_terminal) same within, not-true c.till_lost (and-right (named && sent) (not c.till_lost) e))

sure-act : (own : ℕ) (w : Meant) (c : Line) (x : Act) → act_orderly (length w.from_till) (length w.from_terminal) c x ≡ true → Holds own w c → Sure w c
    → Sure (act_meant w x) (cable_after (length w.from_till) (length w.from_terminal) c x)
sure-act own w c (Does Connect) e i k = sure-connects own w c e i k
sure-act own w c (Does (Ordered o)) e i k = sure-orders own w c o (refuses_meant w o) refl i k
sure-act own w c (Does (ToTerminal n v)) e i k =
    let d = terminal-next w c n v e in
    subst (λ j. Sure (terminal_meant w v (slice_get w.from_till j)) (record c { to_terminal = j + 1 })) (sym d.0) (sure-terminal own w c v d.1 d.2 i k)
sure-act own w c (Does (ToTill n)) e i k =
    let d = till-next w c n e in
    subst (λ j. Sure (till_meant w (slice_get w.from_terminal j)) (record c { to_till = j + 1 })) (sym d.0) (sure-till own w c d.1 d.2 i k)
sure-act own w c (Does TillLost) e i k = sure-till-lost w c
sure-act own w c (Does TerminalLost) e i k = sure-terminal-lost w c k
sure-act own w c Asks e i k = sure-asks own w c (ask_refusal (facts_of w.till) w.settling.asking) refl i k

sure-means : (own : ℕ) (w : Ends) (c : Line) (x : Act) → FitAct x → Fit w → act_orderly (length w.from_till) (length w.from_terminal) c x ≡ true → Holds own (meaning w) c → Sure (meaning w) c
    → Sure (meaning (act w x)) (cable_after (length w.from_till) (length w.from_terminal) c x)
sure-means own w c x f k e i sure =
    let m : length (map word_of w.from_till) ≡ length w.from_till = length-map w.from_till word_of in
    let n : length (map heard_as w.from_terminal) ≡ length w.from_terminal = length-map w.from_terminal heard_as in
    let orderly : act_orderly (length (map word_of w.from_till)) (length (map heard_as w.from_terminal)) c x ≡ true =
    subst (λ (a : ℕ). act_orderly a (length (map heard_as w.from_terminal)) c x ≡ true) (sym m) (subst (λ (b : ℕ). act_orderly (length w.from_till) b c x ≡ true) (sym n) e) in
    subst (λ (v : Meant). Sure v (cable_after (length w.from_till) (length w.from_terminal) c x)) (sym (act-means w x f k))
    (subst (λ (a : ℕ). Sure (act_meant (meaning w) x) (cable_after a (length w.from_terminal) c x)) m
    (subst (λ (b : ℕ). Sure (act_meant (meaning w) x) (cable_after (length (map word_of w.from_till)) b c x)) n (sure-act own (meaning w) c x orderly i sure)))

-- ---- all acts

record Reached (own : ℕ) (w : Ends) (more : List Act) : Type 0 where
  line : Line
  fit : Fit w
  holds : Holds own (meaning w) line
  sure : Sure (meaning w) line
  orderly : orderly_from w line more ≡ true

reach-all : (own : ℕ) (w : Ends) (c : Line) (acts more : List Act) → FitActs acts → Fit w → Holds own (meaning w) c → Sure (meaning w) c → orderly_from w c (acts ++ more) ≡ true → Reached own (fold act w acts) more
reach-all own w c [] more f k i s e = record { line = c; fit = k; holds = i; sure = s; orderly = e }
reach-all own w c (x ∷ acts) more f k i s e =
    let next = cable_after (length w.from_till) (length w.from_terminal) c x in
    let now = act_orderly (length w.from_till) (length w.from_terminal) c x in
    let later = orderly_from (act w x) next (acts ++ more) in
    let here = and-left now later e in
    reach-all own (act w x) next acts more f.1 (act-fit w x f.0 k) (act-means-so own w c x f.0 k here i).holds (sure-means own w c x f.0 k here i s) (and-right now later e)

sure-first : Sure (meaning new_ends) no_line
sure-first =
    record {
      down = λ e. refl;
      order = λ e. tt;
      ending = λ e f phase. absurd cc;
      registered = λ e f. absurd cc;
      answered = λ e accepted asking p pending. absurd cc;
    }

-- ---- the answer

abbrev Settled : (old new : List Settlement) → Type 0
Settled old new = (s : Settlement) × (new ≡ old ++ s ∷ [])

-- what the till needs
record Waiting (own : ℕ) (before now : List Row) (t : TillState) (s : Settling) (p : Pending) : Type 0 where
  currency : t.settings.currency ≡ own
  numbered : NumberedFrom 1 now
  few : length now ≤ 9999
  pending : s.pending ≡ Some p
  waits : Waits own (map row_of t.book) t.unclear (paid_traces s.settled) before now p

answer-settles : (own : ℕ) (before now : List Row) (t : TillState) (s : Settling) (p : Pending) (f : StatusFacts) → Waiting own before now t s p → IsLast now f
    → Settled s.settled (s.settled ++ option_to_list (decided t s.settled f s.pending))
answer-settles own before now t s p f w last =
    let d = answer-decides t s before now p f w.numbered w.few (subst (λ c. Waits c (map row_of t.book) t.unclear (paid_traces s.settled) before now p) (sym w.currency) w.waits) last in
    (d.settlement, ap (λ o. s.settled ++ option_to_list (decided t s.settled f o)) w.pending ∙ ap (λ o. s.settled ++ option_to_list o) d.is)

abbrev AskSettles : TillState → Settling → Bool → Heard → Type 0
AskSettles t s accepted m = (asked t (with_status s (HeardIn m)) accepted (HeardIn m)).asking ≡ None → Settled s.settled (asked t (with_status s (HeardIn m)) accepted (HeardIn m)).settled

told-settles : (own : ℕ) (before now : List Row) (t : TillState) (s : Settling) (accepted : Bool) (m : Heard) (tail : List Heard) (p : Pending) (f : StatusFacts) → Waiting own before now t s p
    → s.so_far ≡ One f → IsLast now f → Goes (m ∷ tail) → AskSettles t s accepted m
told-settles own before now t s accepted Passing tail p f w one last d e = absurd cc
told-settles own before now t s accepted Completion tail p f w one last d e =
    let numbered_status : one_status s.so_far ≡ Some f = ap one_status one ∙ ap (λ g. one_status (One g)) last.tells ∙ ap Some (sym last.tells) in
    subst (λ o. Settled s.settled (answered t (with_status s (HeardIn Completion)) o).settled) (sym numbered_status) (answer-settles own before now t s p f w last)
told-settles own before now t s accepted m tail p f w one last d e = absurd d

fresh-settles : (now : List Row) (t : TillState) (s : Settling) (accepted : Bool) (m : Heard) (tail : List Heard) → NoBreak (m ∷ tail) → Repeats now (m ∷ tail) → AskSettles t s accepted m
fresh-settles now t s accepted (Status f) tail n d e = absurd cc
fresh-settles now t s accepted (Negative c) tail n d e = absurd n
fresh-settles now t s accepted (Abort c) tail n d e = absurd n
fresh-settles now t s accepted m tail n d e = absurd d

word-settles : (own : ℕ) (before now : List Row) (t : TillState) (s : Settling) (accepted : Bool) (m : Heard) (tail : List Heard) (p : Pending) (so_far : StatusSoFar) → Waiting own before now t s p
    → s.so_far ≡ so_far → NoBreak (m ∷ tail) → Answers now so_far (m ∷ tail) → AskSettles t s accepted m
word-settles own before now t s accepted m tail p Nothing w e n d = fresh-settles now t s accepted m tail n d
word-settles own before now t s accepted m tail p (One f) w e n d = told-settles own before now t s accepted m tail p f w e d.0 d.1
word-settles own before now t s accepted m tail p Mixed w e n d = absurd d

ask-settles : (own : ℕ) (before now : List Row) (requests : List Word) (t : TillState) (s : Settling) (accepted : Bool) (m : Heard) (q coming : List Heard) (p : Pending) → Waiting own before now t s p
    → NoBreak (words (m ∷ q) ++ coming) → Asking own (map row_of t.book) t.unclear before now requests s (words (m ∷ q) ++ coming) → AskSettles t s accepted m
ask-settles own before now requests t s accepted Positive q coming p w n k e = absurd cc
ask-settles own before now requests t s accepted m q coming p w n k e = by_words k.words e
  where
    by_words : ((requests ≡ Beyond RepeatReceipt ∷ []) × (words (m ∷ q) ++ coming ≡ []) × (s.so_far ≡ Nothing)) ⊎ ((requests ≡ []) × Answers now s.so_far (words (m ∷ q) ++ coming)) → AskSettles t s accepted m
    by_words (inl x) = let gone = x.1 in absurd cc
    by_words (inr x) = word-settles own before now t s accepted m (words q ++ coming) p s.so_far w refl n x.1

met-settles : (t : TillState) (s : Settling) (accepted : Bool) (m : Heard) → t.line_up ≡ true → s.asking ≡ Some accepted → AskSettles t s accepted m
    → (settles t s (HeardIn m)).asking ≡ None → Settled s.settled (settles t s (HeardIn m)).settled
met-settles t s accepted m up asking k =
    subst (λ b. (cond b (meets t s (HeardIn m)) s).asking ≡ None → Settled s.settled (cond b (meets t s (HeardIn m)) s).settled) (sym up)
    (subst (λ a. (met t (with_status s (HeardIn m)) a (HeardIn m)).asking ≡ None → Settled s.settled (met t (with_status s (HeardIn m)) a (HeardIn m)).settled) (sym asking) k)

till-settles : (own : ℕ) (w : Meant) (c : Line) (accepted : Bool) (p : Pending) → c.to_till < length w.from_terminal → c.till_lost ≡ false → Holds own w c → Sure w c
    → w.settling.asking ≡ Some accepted → w.settling.pending ≡ Some p
    → (till_meant w (slice_get w.from_terminal c.to_till)).settling.asking ≡ None → Settled w.settling.settled (till_meant w (slice_get w.from_terminal c.to_till)).settling.settled
till-settles own w c accepted p lt up i k asking pending =
    let next = next-of w.from_terminal c.to_till lt in
    let m : Heard = next.message in
    let t : TillState = w.till in
    let s : Settling = w.settling in
    let l : List Row = w.terminal.ledger in
    let q = drop (c.to_till + 1) w.from_terminal in
    let coming = words (script_of w.terminal.phase) in
    let found = up-of c.till_lost own w.before l (asked_on w c) t s (rest_on w c) up i.stands in
    let stage : StageAt own w.before l (asked_on w c) t s (words (m ∷ q) ++ coming) = subst (λ x. StageAt own w.before l (asked_on w c) t s (words x ++ coming)) next.waiting found.1 in
    let ask = ask-stage own w.before l (asked_on w c) t s t.running s.asking (words (m ∷ q) ++ coming) accepted asking stage in
    let unbroken : NoBreak (words (m ∷ q) ++ coming) = subst (λ x. NoBreak (words x ++ coming)) next.waiting (k.answered up accepted asking p pending) in
    let waiting : Waiting own w.before l t s p = record { currency = i.currency; numbered = i.sound.2; few = i.sound.1; pending = pending; waits = ask.known.waits p pending } in
    subst (λ o. (till_meant w o).settling.asking ≡ None → Settled s.settled (till_meant w o).settling.settled) (sym next.is_next)
    (met-settles t s accepted m found.0 asking (ask-settles own w.before l (asked_on w c) t s accepted m q coming p waiting unbroken ask))

some-of : {X : Type 0} (o : Option X) → IsSome o → (x : X) × (o ≡ Some x)
some-of None e = absurd cc
some-of (Some x) e = (x, refl)

pub complete : Complete
complete acts n f e asking pending gone =
    let w : Ends = asked_world acts in
    let x : Act = Does (ToTill n) in
    let own : ℕ = run_settings.currency in
    let r = reach-all own new_ends no_line acts (x ∷ []) f new-fit at-first sure-first e in
    let here : act_orderly (length w.from_till) (length w.from_terminal) r.line x ≡ true =
    and-left (act_orderly (length w.from_till) (length w.from_terminal) r.line x) (orderly_from (act w x) (cable_after (length w.from_till) (length w.from_terminal) r.line x) []) r.orderly in
    let long : length (map heard_as w.from_terminal) ≡ length w.from_terminal = length-map w.from_terminal heard_as in
    let orderly : is_orderly (length (map word_of w.from_till)) (length (map heard_as w.from_terminal)) r.line (ToTill n) ≡ true = subst (λ (b : ℕ). act_orderly (length w.from_till) b r.line x ≡ true) (sym long) here in
    let d = till-next (meaning w) r.line n orderly in
    let a = some-of w.settling.asking asking in
    let p = some-of w.settling.pending pending in
    let after : asked_world (acts ++ x ∷ []) ≡ act w x = fold-append act new_ends acts (x ∷ []) in
    let means : meaning (act w x) ≡ till_meant (meaning w) (slice_get (map heard_as w.from_terminal) r.line.to_till) =
    act-means w x tt r.fit ∙ ap (λ j. till_meant (meaning w) (slice_get (map heard_as w.from_terminal) j)) d.0 in
    let settled = till-settles own (meaning w) r.line a.0 p.0 d.1 d.2 r.holds r.sure a.1 p.1 in
    subst (λ (v : Ends). Settled w.settling.settled v.settling.settled) (sym after)
    (subst (λ (v : Meant). v.settling.asking ≡ None → Settled w.settling.settled v.settling.settled) (sym means) settled
    (ap (λ (v : Ends). v.settling.asking) (sym after) ∙ gone))
