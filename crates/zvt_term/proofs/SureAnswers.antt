-- The terminal is registered and idle when it hears an ask. For the proof that an answer settles what is pending.
use Rattle.std.proofs.Common.{◌≡◌, ℕ, ◌+◌, ◌-◌, ◌<◌, ◌⊎◌, inl, inr, Bool, true, false, ◌&&◌, List, [], ◌∷◌, ◌++◌, length, drop, Option, Some, None, map, slice_get, refl, sym, ap, ap₂, subst, ◌∙◌, length-append, arith}
use Rattle.std.specs.List.{list_any}
use Rattle.std.proofs.lemmas.List.{drop-append-le}
use Rattle.zvt_till.specs.declared.messages.Heard.{Heard}
use Rattle.zvt_till.specs.declared.messages.Heard.TheVariants.{Positive}
use Rattle.zvt_till.specs.declared.outcomes.Cause.{Cause}
use Rattle.zvt_till.specs.declared.statuses.Running.{Running}
use Rattle.zvt_till.specs.Books.{Booked}
use Rattle.zvt_till.specs.Laws.{row_of}
use Rattle.zvt_till.specs.Till.{TillState}
use Rattle.zvt_term.specs.declared.extras.Extra.TheVariants.{RepeatReceipt}
use Rattle.zvt_term.specs.declared.ledger.Row.{Row}
use Rattle.zvt_term.specs.declared.messages.Asked.TheVariants.{AbortOrder, Answer}
use Rattle.zvt_term.specs.declared.turns.Phase.{Phase}
use Rattle.zvt_term.specs.declared.turns.Phase.TheVariants.{Idle, Printing, Completing, Aborting, Ending}
use Rattle.zvt_term.specs.declared.turns.Verdict.{Verdict}
use Rattle.zvt_term.specs.Extended.{last_row}
use Rattle.zvt_term.specs.Orderly.{Line}
use Rattle.zvt_term.specs.Terminal.{TerminalState, is_idle, is_ready}
use Rattle.zvt_term.proofs.Accounting.{next-of}
use Rattle.zvt_term.proofs.Accounts.{words}
use Rattle.zvt_term.proofs.Answering.{script_of}
use Rattle.zvt_term.proofs.Facts.{heard_of}
use Rattle.zvt_term.proofs.Matching.{slice_get-last}
use Rattle.zvt_settle.specs.declared.deciding.Pending.{Pending}
use Rattle.zvt_settle.specs.declared.deciding.StatusSoFar.TheVariants.{Nothing}
use Rattle.zvt_settle.specs.Settling.{Settling, paid_traces}
use Rattle.zvt_term.proofs.ActStands.{up-of}
use Rattle.zvt_term.proofs.AskedMeans.{Word, Plain, Beyond, Meant, after_on, said_on, terminal_meant}
use Rattle.zvt_term.proofs.Standing.{Waits, GrewFor, order_of, requests, OwnWord, Asking, Stage, StageAt, Answers, asked_on, rest_on, Holds}
use Rattle.zvt_term.proofs.SureTerminal.{ending-hears, terminal-registered}
use Rattle.zvt_term.proofs.Surety.{is_replied, is_answer, Ordered, Registered, NoBreak, idle-repeats, Sure}
use Rattle.zvt_term.proofs.TalkStands.{own-at, said-more}
use Rattle.zvt_term.proofs.TerminalStands.{speech, abort-unheeded, answer-unheeded, alone}

-- ---- what is pending needs a last row

last-row-of : (rows : List Row) (row : Row) → last_row (rows ++ row ∷ []) ≡ Some row
last-row-of rows row =
    let size : length (rows ++ row ∷ []) - 1 ≡ length rows = omega (arith, length-append rows (row ∷ [])) in ap (slice_get (rows ++ row ∷ [])) size ∙ slice_get-last rows row

has-last : (own : ℕ) (rows : List Booked) (loose : List (ℕ × Cause)) (traces : List ℕ) (before now : List Row) (p : Pending) → Waits own rows loose traces before now p → (row : Row) × (last_row now ≡ Some row)
has-last own rows loose traces before now p w = by_growth w.grew
  where
    by_growth : GrewFor own rows before now (order_of p.what) → (row : Row) × (last_row now ≡ Some row)
    by_growth (inl same) = (w.last.row, ap last_row (same ∙ w.last.is) ∙ last-row-of w.last.rows w.last.row)
    by_growth (inr k) = (k.0, ap last_row k.1 ∙ last-row-of before k.0)

-- ---- idle

-- nothing is to be said, and no reply is awaited
idle-phase : (phase : Phase) → words (script_of phase) ≡ [] → (phase ≡ Ending → ⊥) → is_idle phase ≡ true
idle-phase Idle quiet n = refl
idle-phase (Printing line) quiet n = absurd cc
idle-phase Completing quiet n = absurd cc
idle-phase (Aborting code) quiet n = absurd cc
idle-phase Ending quiet n = absurd (n refl)

no-reply : (ms : List Heard) → words ms ≡ [] → list_any is_replied ms ≡ false
no-reply [] e = refl
no-reply (Positive ∷ ms) e = no-reply ms e
no-reply (m ∷ ms) e = absurd cc

-- an ask that is the only request on the way, while nothing is to be heard
not-ending : (s : TerminalState) (q : List Word) (heard : List Heard) → Ordered (Beyond RepeatReceipt ∷ q) → words heard ≡ []
    → (s.phase ≡ Ending → (list_any is_answer (Beyond RepeatReceipt ∷ q) ≡ true) ⊎ (list_any is_replied heard ≡ true)) → s.phase ≡ Ending → ⊥
not-ending s q heard ordered silent before e = by_either (before e)
  where
    by_either : (list_any is_answer (Beyond RepeatReceipt ∷ q) ≡ true) ⊎ (list_any is_replied heard ≡ true) → ⊥
    by_either (inl h) = let no : true ≡ false = sym h ∙ ordered.0 refl in cc
    by_either (inr h) = let no : true ≡ false = sym h ∙ no-reply heard silent in cc

both-true : (a b : Bool) → a ≡ true → b ≡ true → (a && b) ≡ true
both-true a b e f = ap₂ (λ x y. x && y) e f

asked-registered : (s : TerminalState) (t : TillState) (x : Settling) (rest : List Heard) (accepted : Bool) → x.asking ≡ Some accepted → Registered s t x rest → s.registered ≡ true
asked-registered s t x rest accepted asking (inl e) = e
asked-registered s t x rest accepted asking (inr k) = let no : None ≡ Some accepted = sym k.1 ∙ asking in absurd cc

-- ---- an ask that arrives

ask-arrives : (own : ℕ) (before : List Row) (s : TerminalState) (v : Verdict) (q : List Word) (t : TillState) (x : Settling) (heard : List Heard) (accepted : Bool) (p : Pending) (rest : List Heard)
    → Ordered (Beyond RepeatReceipt ∷ q) → (s.phase ≡ Ending → (list_any is_answer (Beyond RepeatReceipt ∷ q) ≡ true) ⊎ (list_any is_replied heard ≡ true))
    → Registered s t x rest → x.asking ≡ Some accepted → x.pending ≡ Some p → ((z : Pending) → x.pending ≡ Some z → Waits own (map row_of t.book) t.unclear (paid_traces x.settled) before s.ledger z)
    → words heard ≡ [] → words (script_of s.phase) ≡ []
    → NoBreak (words heard ++ speech (after_on s (Beyond RepeatReceipt) v) (said_on s (Beyond RepeatReceipt) v))
ask-arrives own before s v q t x heard accepted p rest ordered ending registered asking pending waits silent quiet =
    let w = has-last own (map row_of t.book) t.unclear (paid_traces x.settled) before s.ledger p (waits p pending) in
    let ready : is_ready s ≡ true =
    both-true s.registered (is_idle s.phase) (asked-registered s t x rest accepted asking registered) (idle-phase s.phase quiet (not-ending s q heard ordered silent ending)) in
    subst (λ y. NoBreak (y ++ speech (after_on s (Beyond RepeatReceipt) v) (said_on s (Beyond RepeatReceipt) v))) (sym silent) (idle-repeats s v w.0 ready w.1)

-- the stage of an ask
pub ask-stage : (own : ℕ) (before now : List Row) (asked : List Word) (t : TillState) (x : Settling) (run : Option Running) (asking : Option Bool) (rest : List Heard) (accepted : Bool) → asking ≡ Some accepted
    → Stage own (map row_of t.book) t.unclear before now asked x run asking rest → Asking own (map row_of t.book) t.unclear before now asked x rest
ask-stage own before now asked t x None None rest accepted e k = absurd cc
ask-stage own before now asked t x None (Some a) rest accepted e k = k
ask-stage own before now asked t x (Some r) None rest accepted e k = absurd cc
ask-stage own before now asked t x (Some r) (Some a) rest accepted e k = absurd k

record Arrives (s : TerminalState) (m : Word) (q : List Word) (t : TillState) (x : Settling) (heard : List Heard) : Type 0 where
  ordered : Ordered (m ∷ q)
  ending : s.phase ≡ Ending → (list_any is_answer (m ∷ q) ≡ true) ⊎ (list_any is_replied heard ≡ true)
  registered : Registered s t x (words heard ++ words (script_of s.phase))

request-answered : (own : ℕ) (before : List Row) (s : TerminalState) (m : Word) (v : Verdict) (q rest : List Word) (t : TillState) (x : Settling) (heard : List Heard) (accepted : Bool) (p : Pending)
    → StageAt own before s.ledger (m ∷ rest) t x (words heard ++ words (script_of s.phase)) → Arrives s m q t x heard → x.asking ≡ Some accepted → x.pending ≡ Some p
    → NoBreak (words heard ++ speech (after_on s m v) (said_on s m v))
request-answered own before s m v q rest t x heard accepted p k a asking pending = by_words stage.words
  where
    stage : Asking own (map row_of t.book) t.unclear before s.ledger (m ∷ rest) x (words heard ++ words (script_of s.phase))
    stage = ask-stage own before s.ledger (m ∷ rest) t x t.running x.asking (words heard ++ words (script_of s.phase)) accepted asking k

    by_words : ((m ∷ rest ≡ Beyond RepeatReceipt ∷ []) × (words heard ++ words (script_of s.phase) ≡ []) × (x.so_far ≡ Nothing)) ⊎ ((m ∷ rest ≡ []) × Answers s.ledger x.so_far (words heard ++ words (script_of s.phase)))
        → NoBreak (words heard ++ speech (after_on s m v) (said_on s m v))
    by_words (inr w) = let gone = w.0 in absurd cc
    by_words (inl w) =
        let only = alone m (Beyond RepeatReceipt) rest (words heard) s w.0 w.1 in
        subst (λ n. NoBreak (words heard ++ speech (after_on s n v) (said_on s n v))) (sym only.word)
        (ask-arrives own before s v q t x heard accepted p (words heard ++ words (script_of s.phase)) (subst (λ n. Ordered (n ∷ q)) only.word a.ordered)
        (subst (λ n. s.phase ≡ Ending → (list_any is_answer (n ∷ q) ≡ true) ⊎ (list_any is_replied heard ≡ true)) only.word a.ending) a.registered asking pending stage.known.waits only.heard only.quiet)

terminal-answered : (own : ℕ) (before : List Row) (s : TerminalState) (m : Word) (v : Verdict) (q : List Word) (t : TillState) (x : Settling) (heard : List Heard) (accepted : Bool) (p : Pending)
    → StageAt own before s.ledger (requests (m ∷ q)) t x (words heard ++ words (script_of s.phase)) → Arrives s m q t x heard → NoBreak (words heard ++ words (script_of s.phase)) → x.asking ≡ Some accepted → x.pending ≡ Some p
    → NoBreak (words heard ++ speech (after_on s m v) (said_on s m v))
terminal-answered own before s (Plain AbortOrder) v q t x heard accepted p k a n asking pending = subst (λ y. NoBreak (words heard ++ y)) (sym (abort-unheeded s v).says) n
terminal-answered own before s (Plain Answer) v q t x heard accepted p k a n asking pending = subst (λ y. NoBreak (words heard ++ y)) (sym (answer-unheeded s v).says) n
terminal-answered own before s m v q t x heard accepted p k a n asking pending = request-answered own before s m v q (requests q) t x heard accepted p k a asking pending

-- ---- the delivery

pub sure-terminal : (own : ℕ) (w : Meant) (c : Line) (v : Verdict) → c.to_terminal < length w.from_till → c.terminal_lost ≡ false → Holds own w c → Sure w c
    → Sure (terminal_meant w v (slice_get w.from_till c.to_terminal)) (record c { to_terminal = c.to_terminal + 1 })
sure-terminal own w c v lt up i k =
    let next = next-of w.from_till c.to_terminal lt in
    let m : Word = next.message in
    let s : TerminalState = w.terminal in
    let said : List Heard = map heard_of (said_on s m v) in
    let q = drop (c.to_terminal + 1) w.from_till in
    let heard = drop c.to_till w.from_terminal in
    let own_word : OwnWord own m = own-at own w.from_till c.to_terminal m i.sent next.is_next in
    let stage : c.till_lost ≡ false → StageAt own w.before s.ledger (requests (m ∷ q)) w.till w.settling (words heard ++ words (script_of s.phase)) =
    λ e. subst (λ x. StageAt own w.before s.ledger (requests x) w.till w.settling (words heard ++ words (script_of s.phase))) next.waiting (up-of c.till_lost own w.before s.ledger (asked_on w c) w.till w.settling (rest_on w c) e i.stands).1 in
    let ordered : c.till_lost ≡ false → Ordered (m ∷ q) = λ e. subst Ordered next.waiting (k.order e) in
    let ending : c.till_lost ≡ false → s.phase ≡ Ending → (list_any is_answer (m ∷ q) ≡ true) ⊎ (list_any is_replied heard ≡ true) =
    λ e f. subst (λ x. (list_any is_answer x ≡ true) ⊎ (list_any is_replied heard ≡ true)) next.waiting (k.ending e up f) in
    let longer : words (drop c.to_till (w.from_terminal ++ said)) ++ words (script_of (after_on s m v).phase) ≡ words heard ++ speech (after_on s m v) (said_on s m v) =
    said-more c.to_till w.from_terminal said (words (script_of (after_on s m v).phase)) i.terminal_sent in
    let here : Sure (terminal_meant w v (Some m)) (record c { to_terminal = c.to_terminal + 1 }) =
    record {
      down = k.down;
      order = λ e. (ordered e).1;
      ending = λ e f phase.
          subst (λ x. (list_any is_answer q ≡ true) ⊎ (list_any is_replied x ≡ true)) (sym (drop-append-le c.to_till w.from_terminal said i.terminal_sent))
          (ending-hears own s m v q heard own_word (ending e) phase);
      registered = λ e f. subst (Registered (after_on s m v) w.till w.settling) (sym longer) (terminal-registered own w.before s m v q w.till w.settling (words heard) own_word (stage e) (k.registered e up));
      answered = λ e accepted asking p pending.
          subst NoBreak (sym longer)
          (terminal-answered own w.before s m v q w.till w.settling heard accepted p (stage e) (record { ordered = ordered e; ending = ending e; registered = k.registered e up }) (k.answered e accepted asking p pending) asking pending);
    } in
    subst (λ o. Sure (terminal_meant w v o) (record c { to_terminal = c.to_terminal + 1 })) (sym next.is_next) here
