-- Why the terminal does not refuse an ask while something is pending: it is registered and idle by then. For the proof that
-- an answer settles what is pending.
use Rattle.std.proofs.Common.{◌≡◌, ℕ, ◌⊎◌, inl, inr, Bool, true, false, cond, ◌||◌, List, [], ◌∷◌, ◌++◌, drop, Option, Some, None, map, option_map, refl, sym, ap, subst, ◌∙◌}
use Rattle.std.specs.List.{list_any}
use Rattle.std.proofs.lemmas.List.Folds.{list_any-append}
use Rattle.zvt_till.specs.declared.messages.Heard.{Heard}
use Rattle.zvt_till.specs.declared.messages.Heard.TheVariants.{Positive, Negative, Completion, Abort}
use Rattle.zvt_till.specs.declared.orders.Order.{Order}
use Rattle.zvt_till.specs.declared.orders.Order.TheVariants.{Register, Pay, Reverse, CloseDay, Cancel}
use Rattle.zvt_till.specs.declared.statuses.Running.{Running}
use Rattle.zvt_till.specs.declared.statuses.Statuses.{Statuses}
use Rattle.zvt_till.specs.Laws.{row_of}
use Rattle.zvt_till.specs.Till.{TillState}
use Rattle.zvt_term.specs.declared.extras.Extra.TheVariants.{RepeatReceipt}
use Rattle.zvt_term.specs.declared.ledger.Row.{Row}
use Rattle.zvt_term.specs.declared.messages.Asked.TheVariants.{Registration, Authorisation, Reversal as ReversalAsked, EndOfDay, AbortOrder, Answer, Unknown}
use Rattle.zvt_term.specs.declared.messages.Report.{Report}
use Rattle.zvt_term.specs.declared.turns.Phase.{Phase}
use Rattle.zvt_term.specs.declared.turns.Phase.TheVariants.{Idle, Printing, Completing, Aborting, Ending}
use Rattle.zvt_term.specs.declared.turns.Verdict.{Verdict}
use Rattle.zvt_term.specs.Extended.{last_row, report_of_row, repeats, extra_turn}
use Rattle.zvt_term.specs.Orderly.{Line}
use Rattle.zvt_term.specs.Terminal.{TerminalState, is_ready, authorises, reverses, refuses, goes_on, when, after, reports_of}
use Rattle.zvt_term.proofs.Accounts.{words, EndsLast}
use Rattle.zvt_term.proofs.Facts.{heard_of}
use Rattle.zvt_settle.specs.declared.deciding.Pending.{Pending}
use Rattle.zvt_settle.specs.declared.deciding.StatusSoFar.TheVariants.{Nothing}
use Rattle.zvt_settle.specs.Settling.{Settling}
use Rattle.zvt_term.proofs.AskedMeans.{Word, Plain, Beyond, Meant, after_on, said_on}
use Rattle.zvt_term.proofs.Standing.{FitsOrder, is_request, requests, OwnWord, Taking, InFlight, Denied, Unsaid, Said, RunsAs, Stage, StageAt, Answers, rest_on}
use Rattle.zvt_term.proofs.TerminalStands.{speech, report-heard}
use Rattle.zvt_term.proofs.TurnCases.{either, payment-cases, reversal-cases, registration-cases, closing-cases, repeat-cases}

-- ---- replies

-- the till replies to it
abbrev pub is_replied : Heard → Bool
is_replied Positive = false
is_replied (Negative c) = false
is_replied m = true

abbrev pub is_answer : Word → Bool
is_answer (Plain Answer) = true
is_answer m = false

-- no reply comes after a request
abbrev pub Ordered : List Word → Type 0
Ordered [] = Unit {0}
Ordered (m ∷ q) = (is_request m ≡ true → list_any is_answer q ≡ false) × Ordered q

pub ordered-more : (q : List Word) (m : Word) → is_answer m ≡ false → Ordered q → Ordered (q ++ m ∷ [])
ordered-more [] m e k = (λ r. refl, tt)
ordered-more (n ∷ q) m e k = (
  λ r. list_any-append is_answer q (m ∷ []) ∙ ap (λ b. b || (is_answer m || false)) (k.0 r) ∙ ap (λ b. b || false) e,
  ordered-more q m e k.1,
)

pub ordered-quiet : (q : List Word) → requests q ≡ [] → Ordered q
ordered-quiet [] e = tt
ordered-quiet (m ∷ q) e = by_request (is_request m) refl e (ordered-quiet q)
  where
    by_request : (b : Bool) → is_request m ≡ b → cond b (m ∷ requests q) (requests q) ≡ [] → (requests q ≡ [] → Ordered q) → Ordered (m ∷ q)
    by_request true is r later = absurd cc
    by_request false is r later = (λ t. let no : true ≡ false = sym t ∙ is in absurd cc, later r)

-- ---- the end of an order

abbrev Ends : TerminalState → TerminalState → List Report → Type 0
Ends s t said = t.phase ≡ Ending → ((s.phase ≡ Ending) × (false ≡ false)) ⊎ (list_any is_replied (map heard_of said) ≡ true)

-- the terminal waits for a reply only where one, or what it replies to, is on the way
pub ending-on : (s : TerminalState) (m : Word) (v : Verdict) (own : ℕ) → OwnWord own m → (after_on s m v).phase ≡ Ending
    → ((s.phase ≡ Ending) × (is_answer m ≡ false)) ⊎ (list_any is_replied (map heard_of (said_on s m v)) ≡ true)
ending-on s (Plain (Registration currency)) v own f e =
    registration-cases (Ends s) s currency v (λ q. inl (q, refl)) (λ q. inr refl) e
ending-on s (Plain (Authorisation None named)) v own f e =
    either (λ turn. Ends s (after s turn) (reports_of turn.reply)) (is_ready s) (authorises s None named v) (refuses s 131) (λ ready q. inl (q, refl)) (λ q. inl (q, refl)) e
ending-on s (Plain (Authorisation (Some a) named)) v own f e = payment-cases (Ends s) s a named v (λ code n q. inl (q, refl)) (λ ready q. absurd cc) (λ code q. absurd cc) e
ending-on s (Plain (ReversalAsked None)) v own f e =
    either (λ turn. Ends s (after s turn) (reports_of turn.reply)) (is_ready s) (reverses s None) (refuses s 131) (λ ready q. inr refl) (λ q. inl (q, refl)) e
ending-on s (Plain (ReversalAsked (Some receipt))) v own f e = reversal-cases (Ends s) s receipt v (λ code n q. inl (q, refl)) (λ code q. inr refl) (λ row ready is q. absurd cc) e
ending-on s (Plain EndOfDay) v own f e = closing-cases (Ends s) s v (λ q. inl (q, refl)) (λ q. absurd cc) e
ending-on s (Plain AbortOrder) v own f e = inl (e, refl)
ending-on s (Plain Answer) v own f e = by_phase s.phase e
  where
    by_phase : (phase : Phase) → (after s (goes_on s phase)).phase ≡ Ending → ((s.phase ≡ Ending) × (true ≡ false)) ⊎ (list_any is_replied (map heard_of (reports_of (goes_on s phase).reply)) ≡ true)
    by_phase Idle q = absurd cc
    by_phase (Printing line) q = absurd cc
    by_phase Completing q = inr refl
    by_phase (Aborting code) q = inr refl
    by_phase Ending q = absurd cc
ending-on s (Plain Unknown) v own f e = inl (e, refl)
ending-on s (Beyond x) v own f e = by_extra f e
  where
    by_extra : x ≡ RepeatReceipt → (after_on s (Beyond x) v).phase ≡ Ending → ((s.phase ≡ Ending) × (false ≡ false)) ⊎ (list_any is_replied (map heard_of (said_on s (Beyond x) v)) ≡ true)
    by_extra g =
        subst (λ y. (after_on s (Beyond y) v).phase ≡ Ending → ((s.phase ≡ Ending) × (false ≡ false)) ⊎ (list_any is_replied (map heard_of (said_on s (Beyond y) v)) ≡ true)) (sym g)
        (repeat-cases (Ends s) s (λ q. inl (q, refl)) (λ q. inr refl) (λ row is q. absurd cc))

-- ---- registered

abbrev StaysIn : TerminalState → List Report → Type 0
StaysIn s said = s.registered ≡ true

-- a terminal that is registered stays so while its line is up
pub stays-registered : (own : ℕ) (s : TerminalState) (m : Word) (v : Verdict) → s.registered ≡ true → OwnWord own m → (after_on s m v).registered ≡ true
stays-registered own s (Plain (Registration currency)) v k f = registration-cases StaysIn s currency v k refl
stays-registered own s (Plain (Authorisation None named)) v k f = either (λ turn. (after s turn).registered ≡ true) (is_ready s) (authorises s None named v) (refuses s 131) (λ ready. k) k
stays-registered own s (Plain (Authorisation (Some a) named)) v k f = payment-cases StaysIn s a named v (λ code e. k) (λ ready. k) (λ code. k)
stays-registered own s (Plain (ReversalAsked None)) v k f = either (λ turn. (after s turn).registered ≡ true) (is_ready s) (reverses s None) (refuses s 131) (λ ready. k) k
stays-registered own s (Plain (ReversalAsked (Some receipt))) v k f = reversal-cases StaysIn s receipt v (λ code e. k) (λ code. k) (λ row ready e. k)
stays-registered own s (Plain EndOfDay) v k f = closing-cases StaysIn s v k k
stays-registered own s (Plain AbortOrder) v k f = k
stays-registered own s (Plain Answer) v k f = by_phase s.phase
  where
    by_phase : (phase : Phase) → (after s (goes_on s phase)).registered ≡ true
    by_phase Idle = k
    by_phase (Printing line) = k
    by_phase Completing = k
    by_phase (Aborting code) = k
    by_phase Ending = k
stays-registered own s (Plain Unknown) v k f = k
stays-registered own s (Beyond x) v k f = subst (λ y. (after s (extra_turn s None y)).registered ≡ true) (sym f) (repeat-cases StaysIn s k k (λ row e. k))

-- what a registration has still to hear, while the terminal is not registered
abbrev pub NoCompletion : List Heard → Type 0
NoCompletion [] = Unit {0}
NoCompletion (Completion ∷ r) = ⊥
NoCompletion (m ∷ r) = NoCompletion r

pub no-completion-first : (xs ys : List Heard) → NoCompletion (xs ++ ys) → NoCompletion xs
no-completion-first [] ys h = tt
no-completion-first (Completion ∷ xs) ys h = absurd h
no-completion-first (m ∷ xs) ys h = no-completion-first xs ys h

pub no-completion-more : (xs ys : List Heard) → NoCompletion xs → NoCompletion ys → NoCompletion (xs ++ ys)
no-completion-more [] ys h k = k
no-completion-more (Completion ∷ xs) ys h k = absurd h
no-completion-more (m ∷ xs) ys h k = no-completion-more xs ys h k

abbrev pub RegistersOnly : Option Running → List Heard → Type 0
RegistersOnly None rest = Unit {0}
RegistersOnly (Some r) rest = (r.order ≡ Register) × NoCompletion rest

-- the till is registered only where the terminal is
abbrev pub Registered : TerminalState → TillState → Settling → List Heard → Type 0
Registered s t x rest = (s.registered ≡ true) ⊎ ((t.registered ≡ false) × (x.asking ≡ None) × RegistersOnly t.running rest)

-- ---- the answer to an ask

-- no refusal and no abort
abbrev pub NoBreak : List Heard → Type 0
NoBreak [] = Unit {0}
NoBreak (Negative c ∷ r) = ⊥
NoBreak (Abort c ∷ r) = ⊥
NoBreak (m ∷ r) = NoBreak r

pub no-break-first : (xs ys : List Heard) → NoBreak (xs ++ ys) → NoBreak xs
no-break-first [] ys h = tt
no-break-first (Negative c ∷ xs) ys h = absurd h
no-break-first (Abort c ∷ xs) ys h = absurd h
no-break-first (m ∷ xs) ys h = no-break-first xs ys h

pub no-break-heard : (m : Heard) (q coming : List Heard) → NoBreak (words (m ∷ q) ++ coming) → NoBreak (words q ++ coming)
no-break-heard Positive q coming h = h
no-break-heard (Negative c) q coming h = absurd h
no-break-heard (Abort c) q coming h = absurd h
no-break-heard m q coming h = h

-- an idle terminal whose ledger has a row answers the ask
pub idle-repeats : (s : TerminalState) (v : Verdict) (row : Row) → is_ready s ≡ true → last_row s.ledger ≡ Some row → NoBreak (speech (after_on s (Beyond RepeatReceipt) v) (said_on s (Beyond RepeatReceipt) v))
idle-repeats s v row ready last =
    subst (λ b. NoBreak (speech (after s (when b s (repeats s (option_map report_of_row (last_row s.ledger))))) (reports_of (when b s (repeats s (option_map report_of_row (last_row s.ledger)))).reply))) (sym ready)
    (subst (λ o. NoBreak (speech (after s (repeats s (option_map report_of_row o))) (reports_of (repeats s (option_map report_of_row o)).reply))) (sym last)
    (subst (λ h. NoBreak (words (h ∷ []) ++ Completion ∷ [])) (sym (report-heard row)) tt))

-- ---- both ends

pub record Sure (w : Meant) (c : Line) : Type 0 where
  pub down : c.till_lost ≡ true → w.till.registered ≡ false
  pub order : c.till_lost ≡ false → Ordered (drop c.to_terminal w.from_till)
  pub ending :
      c.till_lost ≡ false → c.terminal_lost ≡ false → w.terminal.phase ≡ Ending
      → (list_any is_answer (drop c.to_terminal w.from_till) ≡ true) ⊎ (list_any is_replied (drop c.to_till w.from_terminal) ≡ true)
  pub registered : c.till_lost ≡ false → c.terminal_lost ≡ false → Registered w.terminal w.till w.settling (rest_on w c)
  pub answered : c.till_lost ≡ false → (accepted : Bool) → w.settling.asking ≡ Some accepted → (p : Pending) → w.settling.pending ≡ Some p → NoBreak (rest_on w c)

-- where something is still to be heard, no request is on the way
pub heard-first : (own : ℕ) (before now : List Row) (asked : List Word) (t : TillState) (s : Settling) (m : Heard) (r : List Heard) → StageAt own before now asked t s (m ∷ r) → asked ≡ []
heard-first own before now asked t s m r k = by_stage t.running s.asking k
  where
    by_taking : (o : Order) (st : Statuses) → Taking own (map row_of t.book) before now asked o st s.so_far (m ∷ r) → asked ≡ []
    by_taking o st (InFlight n e f none same nothing empty) = absurd cc
    by_taking o st (Denied e same n d) = e
    by_taking o st (Unsaid row e grew f nothing empty d) = e
    by_taking o st (Said row e grew f claims one d) = e

    by_words : (o : Order) → ((n : Word) × (asked ≡ n ∷ []) × FitsOrder own (map row_of t.book) o n × (m ∷ r ≡ [])) ⊎ ((asked ≡ []) × EndsLast (m ∷ r)) → asked ≡ []
    by_words o (inl w) = let gone = w.3 in absurd cc
    by_words o (inr w) = w.0

    by_ask : ((asked ≡ Beyond RepeatReceipt ∷ []) × (m ∷ r ≡ []) × (s.so_far ≡ Nothing)) ⊎ ((asked ≡ []) × Answers now s.so_far (m ∷ r)) → asked ≡ []
    by_ask (inl w) = let gone = w.1 in absurd cc
    by_ask (inr w) = w.0

    by_order : (o : Order) (st : Statuses) → RunsAs own (map row_of t.book) t.unclear before now asked s o st (m ∷ r) → asked ≡ []
    by_order Register st q = by_words Register q.words
    by_order (Pay a) st q = by_taking (Pay a) st q.taking
    by_order (Reverse i) st q = by_taking (Reverse i) st q.taking
    by_order CloseDay st q = by_words CloseDay q.words
    by_order Cancel st q = absurd q

    by_stage : (run : Option Running) (asking : Option Bool) → Stage own (map row_of t.book) t.unclear before now asked s run asking (m ∷ r) → asked ≡ []
    by_stage None None q = q.no_request
    by_stage None (Some accepted) q = by_ask q.words
    by_stage (Some x) None q = by_order x.order x.statuses q
    by_stage (Some x) (Some accepted) q = absurd q
