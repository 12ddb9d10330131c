-- The terminal keeps what makes it answer an ask: as it hears a message, and as a line begins or is lost. For the proof
-- that an answer settles what is pending.
use Rattle.std.proofs.Common.{◌≡◌, ℕ, ◌⊎◌, inl, inr, Bool, true, false, ◌||◌, ◌&&◌, List, [], ◌∷◌, ◌++◌, length, drop, Option, Some, None, map, refl, sym, ap, subst, ◌∙◌, append-nil}
use Rattle.std.specs.List.{list_any}
use Rattle.std.proofs.Math.Seq.{drop-length}
use Rattle.std.proofs.lemmas.List.Folds.{list_any-append}
use Rattle.zvt_till.specs.declared.messages.Heard.{Heard}
use Rattle.zvt_till.specs.declared.orders.Order.TheVariants.{Register}
use Rattle.zvt_till.specs.declared.outcomes.Cause.{Cause}
use Rattle.zvt_till.specs.declared.statuses.Running.{Running}
use Rattle.zvt_till.specs.Books.{Booked}
use Rattle.zvt_till.specs.Laws.{row_of}
use Rattle.zvt_till.specs.Till.{TillState}
use Rattle.zvt_term.specs.declared.ledger.Row.{Row}
use Rattle.zvt_term.specs.declared.messages.Asked.TheVariants.{Registration, AbortOrder, Answer}
use Rattle.zvt_term.specs.declared.messages.Report.{Report}
use Rattle.zvt_term.specs.declared.turns.Phase.TheVariants.{Idle, Ending}
use Rattle.zvt_term.specs.declared.turns.Verdict.{Verdict}
use Rattle.zvt_term.specs.declared.world.Move.TheVariants.{Connect, TillLost, TerminalLost}
use Rattle.zvt_term.specs.Orderly.{Line, line_after}
use Rattle.zvt_term.specs.Terminal.{TerminalState}
use Rattle.zvt_term.proofs.Accounting.{and-left, and-right}
use Rattle.zvt_term.proofs.Accounts.{words, EndsLast}
use Rattle.zvt_term.proofs.Answering.{script_of}
use Rattle.zvt_term.proofs.Facts.{heard_of}
use Rattle.zvt_settle.specs.Settling.{Settling}
use Rattle.zvt_term.proofs.ActStands.{down-of}
use Rattle.zvt_term.proofs.AskedMeans.{Word, Plain, Meant, after_on, said_on, move_meant}
use Rattle.zvt_term.proofs.Standing.{FitsOrder, requests, OwnWord, Quiet, RunsAs, Stage, StageAt, asked_on, rest_on, Holds}
use Rattle.zvt_term.proofs.Surety.{is_replied, is_answer, Ordered, ending-on, stays-registered, NoCompletion, RegistersOnly, Registered, NoBreak, no-break-first, Sure}
use Rattle.zvt_term.proofs.TerminalStands.{speech, abort-unheeded, answer-unheeded, alone}
use Rattle.zvt_term.proofs.TurnCases.{registration-cases}

-- ---- a line begins, or is lost

pub sure-connects : (own : ℕ) (w : Meant) (c : Line) → (c.till_lost && c.terminal_lost) ≡ true → Holds own w c → Sure w c
    → Sure (move_meant w Connect) (line_after (length w.from_till) (length w.from_terminal) c Connect)
sure-connects own w c e i k =
    let lost = and-left c.till_lost c.terminal_lost e in
    let down = down-of c.till_lost own w.before w.terminal.ledger (asked_on w c) w.till w.settling (rest_on w c) lost i.stands in
    let silent = i.silent (and-right c.till_lost c.terminal_lost e) in
    record {
      down = λ q. absurd cc;
      order = λ q. subst Ordered (sym (drop-length w.from_till)) tt;
      ending = λ q r phase. let no : Idle ≡ Ending = sym silent ∙ phase in absurd cc;
      registered = λ q r. inr (k.down lost, down.asking, subst (λ run. RegistersOnly run (words (drop (length w.from_terminal) w.from_terminal) ++ words (script_of w.terminal.phase))) (sym down.running) tt);
      answered = λ q accepted asking p pending. let no : None ≡ Some accepted = sym down.asking ∙ asking in absurd cc;
    }

pub sure-till-lost : (w : Meant) (c : Line) → Sure (move_meant w TillLost) (record c { till_lost = true })
sure-till-lost w c =
    record {
      down = λ q. refl;
      order = λ q. absurd cc;
      ending = λ q r phase. absurd cc;
      registered = λ q r. absurd cc;
      answered = λ q accepted asking p pending. absurd cc;
    }

pub sure-terminal-lost : (w : Meant) (c : Line) → Sure w c → Sure (move_meant w TerminalLost) (record c { terminal_lost = true })
sure-terminal-lost w c k =
    let said = words (drop c.to_till w.from_terminal) in
    record {
      down = k.down;
      order = k.order;
      ending = λ q r phase. absurd cc;
      registered = λ q r. absurd cc;
      answered = λ q accepted asking p pending. subst NoBreak (sym (append-nil said)) (no-break-first said (words (script_of w.terminal.phase)) (k.answered q accepted asking p pending));
    }

-- ---- the terminal hears a message

or-true : (a b : Bool) → b ≡ true → (a || b) ≡ true
or-true true b e = refl
or-true false b e = e

true-or : (a b : Bool) → a ≡ true → (a || b) ≡ true
true-or a b e = ap (λ x. x || b) e

pub any-more : {X : Type 0} (p : X → Bool) (xs ys : List X) → list_any p xs ≡ true → list_any p (xs ++ ys) ≡ true
any-more p xs ys e = list_any-append p xs ys ∙ true-or (list_any p xs) (list_any p ys) e

pub any-last : {X : Type 0} (p : X → Bool) (xs ys : List X) → list_any p ys ≡ true → list_any p (xs ++ ys) ≡ true
any-last p xs ys e = list_any-append p xs ys ∙ or-true (list_any p xs) (list_any p ys) e

pub ending-hears : (own : ℕ) (s : TerminalState) (m : Word) (v : Verdict) (q : List Word) (heard : List Heard) → OwnWord own m
    → (s.phase ≡ Ending → (list_any is_answer (m ∷ q) ≡ true) ⊎ (list_any is_replied heard ≡ true)) → (after_on s m v).phase ≡ Ending
    → (list_any is_answer q ≡ true) ⊎ (list_any is_replied (heard ++ map heard_of (said_on s m v)) ≡ true)
ending-hears own s m v q heard f before e = by_end (ending-on s m v own f e)
  where
    by_before : is_answer m ≡ false → (list_any is_answer (m ∷ q) ≡ true) ⊎ (list_any is_replied heard ≡ true)
        → (list_any is_answer q ≡ true) ⊎ (list_any is_replied (heard ++ map heard_of (said_on s m v)) ≡ true)
    by_before n (inl h) = inl (ap (λ b. b || list_any is_answer q) (sym n) ∙ h)
    by_before n (inr h) = inr (any-more is_replied heard (map heard_of (said_on s m v)) h)

    by_end : ((s.phase ≡ Ending) × (is_answer m ≡ false)) ⊎ (list_any is_replied (map heard_of (said_on s m v)) ≡ true)
        → (list_any is_answer q ≡ true) ⊎ (list_any is_replied (heard ++ map heard_of (said_on s m v)) ≡ true)
    by_end (inl k) = by_before k.1 (before k.0)
    by_end (inr k) = inr (any-last is_replied heard (map heard_of (said_on s m v)) k)

-- ---- registered

abbrev Quietly : TerminalState → List Report → Type 0
Quietly t said = t.registered ≡ false → NoCompletion (speech t said)

registration-quiet : (own : ℕ) (s : TerminalState) (v : Verdict) → words (script_of s.phase) ≡ []
    → (after_on s (Plain (Registration (Some own))) v).registered ≡ false → NoCompletion (speech (after_on s (Plain (Registration (Some own))) v) (said_on s (Plain (Registration (Some own))) v))
registration-quiet own s v quiet = registration-cases Quietly s (Some own) v (λ e. subst NoCompletion (sym quiet) tt) (λ e. absurd cc)

-- a registration that runs, and its message
quiet-word : (own : ℕ) (rows : List Booked) (loose : List (ℕ × Cause)) (before : List Row) (s : TerminalState) (m : Word) (v : Verdict) (q : List Word) (x : Settling) (said : List Heard)
    → Quiet own rows loose before s.ledger (m ∷ q) x Register (said ++ words (script_of s.phase)) → (after_on s m v).registered ≡ false
    → NoCompletion (said ++ speech (after_on s m v) (said_on s m v))
quiet-word own rows loose before s m v q x said k e = by_words k.words
  where
    by_words : ((n : Word) × (m ∷ q ≡ n ∷ []) × FitsOrder own rows Register n × (said ++ words (script_of s.phase) ≡ [])) ⊎ ((m ∷ q ≡ []) × EndsLast (said ++ words (script_of s.phase)))
        → NoCompletion (said ++ speech (after_on s m v) (said_on s m v))
    by_words (inr w) = let gone = w.0 in absurd cc
    by_words (inl w) =
        let only = alone m w.0 q said s w.1 w.3 in
        let word : m ≡ Plain (Registration (Some own)) = only.word ∙ w.2 in
        subst (λ y. NoCompletion (y ++ speech (after_on s m v) (said_on s m v))) (sym only.heard)
        (subst (λ n. (after_on s n v).registered ≡ false → NoCompletion (speech (after_on s n v) (said_on s n v))) (sym word) (registration-quiet own s v only.quiet) e)

registers-hears : (own : ℕ) (before : List Row) (s : TerminalState) (m : Word) (v : Verdict) (q : List Word) (t : TillState) (x : Settling) (said : List Heard) (run : Option Running)
    → (after_on s m v).registered ≡ false → Stage own (map row_of t.book) t.unclear before s.ledger (m ∷ q) x run None (said ++ words (script_of s.phase))
    → RegistersOnly run (said ++ words (script_of s.phase)) → RegistersOnly run (said ++ speech (after_on s m v) (said_on s m v))
registers-hears own before s m v q t x said None e k only = tt
registers-hears own before s m v q t x said (Some r) e k only = (
  only.0,
  quiet-word own (map row_of t.book) t.unclear before s m v q x said (subst (λ o. RunsAs own (map row_of t.book) t.unclear before s.ledger (m ∷ q) x o r.statuses (said ++ words (script_of s.phase))) only.0 k) e,
)

registered-by : (s : TerminalState) (t : TillState) (x : Settling) (rest : List Heard) → t.registered ≡ false → x.asking ≡ None → (s.registered ≡ false → RegistersOnly t.running rest) → Registered s t x rest
registered-by s t x rest none idle only = by_flag s.registered refl
  where
    by_flag : (b : Bool) → s.registered ≡ b → Registered s t x rest
    by_flag true e = inl e
    by_flag false e = inr (none, idle, only e)

request-registered : (own : ℕ) (before : List Row) (s : TerminalState) (m : Word) (v : Verdict) (q : List Word) (t : TillState) (x : Settling) (said : List Heard) → OwnWord own m
    → StageAt own before s.ledger (m ∷ q) t x (said ++ words (script_of s.phase)) → Registered s t x (said ++ words (script_of s.phase))
    → Registered (after_on s m v) t x (said ++ speech (after_on s m v) (said_on s m v))
request-registered own before s m v q t x said f k (inl e) = inl (stays-registered own s m v e f)
request-registered own before s m v q t x said f k (inr (none, idle, only)) =
    registered-by (after_on s m v) t x (said ++ speech (after_on s m v) (said_on s m v)) none idle
    (λ e. registers-hears own before s m v q t x said t.running e
    (subst (λ a. Stage own (map row_of t.book) t.unclear before s.ledger (m ∷ q) x t.running a (said ++ words (script_of s.phase))) idle k) only)

unheeded-registered : (s u : TerminalState) (t : TillState) (x : Settling) (rest later : List Heard) → later ≡ rest → (s.registered ≡ true → u.registered ≡ true) → Registered s t x rest → Registered u t x later
unheeded-registered s u t x rest later e stays (inl k) = inl (stays k)
unheeded-registered s u t x rest later e stays (inr (none, idle, only)) = inr (none, idle, subst (RegistersOnly t.running) (sym e) only)

pub terminal-registered : (own : ℕ) (before : List Row) (s : TerminalState) (m : Word) (v : Verdict) (q : List Word) (t : TillState) (x : Settling) (said : List Heard) → OwnWord own m
    → StageAt own before s.ledger (requests (m ∷ q)) t x (said ++ words (script_of s.phase)) → Registered s t x (said ++ words (script_of s.phase))
    → Registered (after_on s m v) t x (said ++ speech (after_on s m v) (said_on s m v))
terminal-registered own before s (Plain AbortOrder) v q t x said f k r =
    unheeded-registered s (after_on s (Plain AbortOrder) v) t x (said ++ words (script_of s.phase)) (said ++ speech (after_on s (Plain AbortOrder) v) (said_on s (Plain AbortOrder) v)) (ap (λ y. said ++ y) (abort-unheeded s v).says)
    (λ e. stays-registered own s (Plain AbortOrder) v e f) r
terminal-registered own before s (Plain Answer) v q t x said f k r =
    unheeded-registered s (after_on s (Plain Answer) v) t x (said ++ words (script_of s.phase)) (said ++ speech (after_on s (Plain Answer) v) (said_on s (Plain Answer) v)) (ap (λ y. said ++ y) (answer-unheeded s v).says)
    (λ e. stays-registered own s (Plain Answer) v e f) r
terminal-registered own before s m v q t x said f k r = request-registered own before s m v (requests q) t x said f k r
