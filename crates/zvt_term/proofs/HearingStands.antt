-- What stays true as the till hears the next message of the terminal. For the proof that settlements agree with the ledger.
use Rattle.std.proofs.Common.{◌≡◌, ℕ, ◌⊎◌, inl, inr, Bool, true, false, not, cond, List, [], ◌∷◌, ◌++◌, length, Option, Some, None, map, refl, sym, ap, subst, ◌∙◌}
use Rattle.zvt_till.specs.declared.happenings.Happening.{Happening}
use Rattle.zvt_till.specs.declared.happenings.Happening.TheVariants.{Heard as HeardIn}
use Rattle.zvt_till.specs.declared.messages.Heard.{Heard}
use Rattle.zvt_till.specs.declared.messages.Heard.TheVariants.{Positive, Negative, Status, Passing, Completion, Abort, Strange}
use Rattle.zvt_till.specs.declared.orders.Order.{Order}
use Rattle.zvt_till.specs.declared.orders.Order.TheVariants.{Register, Pay, Reverse, CloseDay, Cancel}
use Rattle.zvt_till.specs.declared.outcomes.Cause.{Cause}
use Rattle.zvt_till.specs.declared.outcomes.Outcome.{Outcome}
use Rattle.zvt_till.specs.declared.statuses.Running.{Running}
use Rattle.zvt_till.specs.declared.statuses.Demand.{Demand}
use Rattle.zvt_till.specs.declared.statuses.Statuses.{Statuses}
use Rattle.zvt_till.specs.declared.statuses.Statuses.TheVariants.{Nothing as NoStatuses}
use Rattle.zvt_till.specs.Books.{Booked}
use Rattle.zvt_till.specs.Laws.{row_of}
use Rattle.zvt_till.specs.Outcomes.{demand_of, note, note_if, outcome_by, listened}
use Rattle.zvt_till.specs.Segments.{ends, status_of}
use Rattle.zvt_till.specs.Till.{TillState, book_after, unclear_after, finish, meet_running}
use Rattle.zvt_term.specs.declared.ledger.Row.{Row}
use Rattle.zvt_term.proofs.Accounts.{words, EndsLast}
use Rattle.zvt_settle.specs.declared.deciding.StatusSoFar.TheVariants.{Nothing, One}
use Rattle.zvt_settle.specs.Deciding.{status_after}
use Rattle.zvt_term.specs.Ledgers.{status_of_row}
use Rattle.zvt_settle.specs.Settling.{Settling, ended, ended_as}
use Rattle.zvt_term.proofs.AskedMeans.{Word}
use Rattle.zvt_settle.proofs.ChapterEnds.{proper}
use Rattle.zvt_settle.proofs.OrderEnds.{with_status, ended-asking, plain-stays, plain-register, plain-closing}
use Rattle.zvt_term.proofs.Standing.{KnownBy, RowFor, Claims, FitsOrder, Goes, Tells, Denies, NotGood, Taking, InFlight, Denied, Unsaid, Said, Paying, Quiet, RunsAs, Stage, StageAt, AllIn}
use Rattle.zvt_term.proofs.StatusStands.{code-note, row-note}
use Rattle.zvt_term.proofs.TillStands.{Pays, After, not-known, denied-ends, said-completes}

-- after a message
pub record Met (own : ℕ) (before now : List Row) (asked : List Word) (rest : List Heard) (t : TillState) (s : Settling) : Type 0 where
  pub stage : StageAt own before now asked t s rest
  pub books : AllIn own now (map row_of t.book)

-- the order goes on, or ends
abbrev pub running_till : TillState → Running → Happening → Bool → TillState
running_till t r h b = cond b (finish t r.order (outcome_by t.book r.order r.statuses h)) (record t { running = Some (listened (demand_of t.settings.rules (Some t.settings.currency) t.book t.unclear r.order) r h) })

abbrev pub running_settling : TillState → Running → Settling → Happening → Bool → Settling
running_settling t r s h b = ended_as (with_status s h) (Some r.order) (cond b (Some (outcome_by t.book r.order r.statuses h)) None) (length t.unclear)

-- what follows if it ends, or if it does not
record Follows (own : ℕ) (before now : List Row) (asked : List Word) (rest : List Heard) (t : TillState) (r : Running) (s : Settling) (h : Happening) : Type 0 where
  idle : s.asking ≡ None
  ended : ends r.positive h ≡ true
      → (asked ≡ []) × (rest ≡ [])
      × After own before now (book_after t.book r.order (outcome_by t.book r.order r.statuses h)) (unclear_after t.unclear r.order (outcome_by t.book r.order r.statuses h)) (ended (with_status s h) r.order (outcome_by t.book r.order r.statuses h) (length t.unclear))
  on : ends r.positive h ≡ false
      → RunsAs own (map row_of t.book) t.unclear before now asked (with_status s h) r.order (note_if (demand_of t.settings.rules (Some t.settings.currency) t.book t.unclear r.order) r.statuses (status_of h)) rest
      × AllIn own now (map row_of t.book)

met-by : (own : ℕ) (before now : List Row) (asked : List Word) (rest : List Heard) (t : TillState) (r : Running) (s : Settling) (h : Happening) (b : Bool) → ends r.positive h ≡ b
    → Follows own before now asked rest t r s h → Met own before now asked rest (running_till t r h b) (running_settling t r s h b)
met-by own before now asked rest t r s h true e f =
    let k = f.ended e in
    let out : Outcome = outcome_by t.book r.order r.statuses h in
    record {
      stage =
          subst (λ a. Stage own (map row_of (book_after t.book r.order out)) (unclear_after t.unclear r.order out) before now asked (ended (with_status s h) r.order out (length t.unclear)) None a rest)
          (sym (ended-asking (with_status s h) r.order out (length t.unclear) ∙ f.idle))
          (record { known = k.2.known; no_request = k.0; no_word = k.1 });
      books = k.2.books;
    }
met-by own before now asked rest t r s h false e f =
    let k = f.on e in
    let d = demand_of t.settings.rules (Some t.settings.currency) t.book t.unclear r.order in
    record {
      stage = subst (λ a. Stage own (map row_of t.book) t.unclear before now asked (with_status s h) (Some (listened d r h)) a rest) (sym f.idle) k.0;
      books = k.1;
    }

run-meets : (own : ℕ) (before now : List Row) (asked : List Word) (rest : List Heard) (t : TillState) (r : Running) (s : Settling) (h : Happening)
    → Follows own before now asked rest t r s h → Met own before now asked rest (running_till t r h (ends r.positive h)) (running_settling t r s h (ends r.positive h))
run-meets own before now asked rest t r s h f = met-by own before now asked rest t r s h (ends r.positive h) refl f

-- ---- a payment or a reversal that runs

as-paying : (own : ℕ) (rows : List Booked) (loose : List (ℕ × Cause)) (before now : List Row) (asked : List Word) (s : Settling) (o : Order) (st : Statuses) (rest : List Heard)
    → Pays o → Paying own rows before now asked s o st rest → RunsAs own rows loose before now asked s o st rest
as-paying own rows loose before now asked s Register st rest pays k = absurd pays
as-paying own rows loose before now asked s (Pay a) st rest pays k = k
as-paying own rows loose before now asked s (Reverse e) st rest pays k = k
as-paying own rows loose before now asked s CloseDay st rest pays k = absurd pays
as-paying own rows loose before now asked s Cancel st rest pays k = absurd pays

abbrev DemandAt : TillState → Running → Option Demand
DemandAt t r = demand_of t.settings.rules (Some t.settings.currency) t.book t.unclear r.order

-- the order goes on
goes-on : (own : ℕ) (before now : List Row) (asked : List Word) (rest : List Heard) (t : TillState) (r : Running) (s : Settling) (h : Happening) (later : List Heard)
    → Pays r.order → AllIn own now (map row_of t.book) → Paying own (map row_of t.book) before now asked s r.order r.statuses later
    → Taking own (map row_of t.book) before now asked r.order (note_if (DemandAt t r) r.statuses (status_of h)) (with_status s h).so_far rest
    → RunsAs own (map row_of t.book) t.unclear before now asked (with_status s h) r.order (note_if (DemandAt t r) r.statuses (status_of h)) rest × AllIn own now (map row_of t.book)
goes-on own before now asked rest t r s h later pays all k taking = (
  as-paying own (map row_of t.book) t.unclear before now asked (with_status s h) r.order (note_if (DemandAt t r) r.statuses (status_of h)) rest pays
      (record { last = k.last; pending = k.pending; fresh = k.fresh; taking = taking }),
  all,
)

denied-word : (own : ℕ) (before now : List Row) (asked : List Word) (tail : List Heard) (t : TillState) (r : Running) (s : Settling) (m : Heard)
    → Pays r.order → s.asking ≡ None → AllIn own now (map row_of t.book) → Paying own (map row_of t.book) before now asked s r.order r.statuses (m ∷ tail)
    → asked ≡ [] → now ≡ before → NotGood r.statuses → Denies (m ∷ tail) → Follows own before now asked tail t r s (HeardIn m)
denied-word own before now asked tail t r s (Negative c) pays idle all k none same n d =
    let h : Happening = HeardIn (Negative c) in
    record {
      idle = idle;
      ended = λ e. (
        none,
        d,
        denied-ends own r.order before now t.book t.unclear (with_status s h) (outcome_by t.book r.order r.statuses h) pays k.last k.pending k.fresh same all (not-known r.order r.statuses t.book h pays n),
      );
      on = λ e. goes-on own before now asked tail t r s h (Negative c ∷ tail) pays all k (Denied none same n (subst Denies (sym d) tt));
    }
denied-word own before now asked tail t r s (Status f) pays idle all k none same n d =
    record {
      idle = idle;
      ended = λ e. absurd cc;
      on = λ e.
          goes-on own before now asked tail t r s (HeardIn (Status f)) (Status f ∷ tail) pays all k
          (Denied none same
          (subst (λ g. NotGood (note (DemandAt t r) r.statuses g)) (sym d.0.1) (code-note t.settings.rules (Some t.settings.currency) t.book t.unclear r.order r.statuses d.0.0 pays n))
          d.1);
    }
denied-word own before now asked tail t r s (Abort c) pays idle all k none same n d =
    let h : Happening = HeardIn (Abort c) in
    record {
      idle = idle;
      ended = λ e. (
        none,
        d,
        denied-ends own r.order before now t.book t.unclear (with_status s h) (outcome_by t.book r.order r.statuses h) pays k.last k.pending k.fresh same all (not-known r.order r.statuses t.book h pays n),
      );
      on = λ e. absurd cc;
    }
denied-word own before now asked tail t r s Positive pays idle all k none same n d = absurd d
denied-word own before now asked tail t r s Passing pays idle all k none same n d = absurd d
denied-word own before now asked tail t r s Completion pays idle all k none same n d = absurd d
denied-word own before now asked tail t r s Strange pays idle all k none same n d = absurd d

unsaid-word : (own : ℕ) (before now : List Row) (asked : List Word) (tail : List Heard) (t : TillState) (r : Running) (s : Settling) (m : Heard) (row : Row)
    → Pays r.order → s.asking ≡ None → AllIn own now (map row_of t.book) → Paying own (map row_of t.book) before now asked s r.order r.statuses (m ∷ tail)
    → asked ≡ [] → now ≡ before ++ row ∷ [] → RowFor own (map row_of t.book) r.order row → r.statuses ≡ NoStatuses → s.so_far ≡ Nothing → Tells (status_of_row row) (m ∷ tail)
    → Follows own before now asked tail t r s (HeardIn m)
unsaid-word own before now asked tail t r s (Status f) row pays idle all k none grew is nothing empty d =
    record {
      idle = idle;
      ended = λ e. absurd cc;
      on = λ e.
          goes-on own before now asked tail t r s (HeardIn (Status f)) (Status f ∷ tail) pays all k
          (Said row none grew is
          (subst (λ g. Claims r.order row (note (DemandAt t r) r.statuses g)) (sym d.0)
          (subst (λ st. Claims r.order row (note (DemandAt t r) st (status_of_row row))) (sym nothing) (row-note t.settings.rules (Some t.settings.currency) t.book t.unclear r.order row own is)))
          (ap (λ x. status_after x f) empty ∙ ap One d.0) d.1);
    }
unsaid-word own before now asked tail t r s m row pays idle all k none grew is nothing empty d = absurd d

said-word : (own : ℕ) (before now : List Row) (asked : List Word) (tail : List Heard) (t : TillState) (r : Running) (s : Settling) (m : Heard) (row : Row)
    → Pays r.order → s.asking ≡ None → AllIn own now (map row_of t.book) → Paying own (map row_of t.book) before now asked s r.order r.statuses (m ∷ tail)
    → asked ≡ [] → now ≡ before ++ row ∷ [] → RowFor own (map row_of t.book) r.order row → Claims r.order row r.statuses → s.so_far ≡ One (status_of_row row) → Goes (m ∷ tail)
    → Follows own before now asked tail t r s (HeardIn m)
said-word own before now asked tail t r s Passing row pays idle all k none grew is claims one d =
    record {
      idle = idle;
      ended = λ e. absurd cc;
      on = λ e. goes-on own before now asked tail t r s (HeardIn Passing) (Passing ∷ tail) pays all k (Said row none grew is claims one d);
    }
said-word own before now asked tail t r s Completion row pays idle all k none grew is claims one d =
    record {
      idle = idle;
      ended = λ e.
          (none, d, said-completes own r.order before now t.book t.unclear (with_status s (HeardIn Completion)) r.statuses row pays k.last k.pending k.fresh grew is claims one all);
      on = λ e. absurd cc;
    }
said-word own before now asked tail t r s m row pays idle all k none grew is claims one d = absurd d

paying-word : (own : ℕ) (before now : List Row) (asked : List Word) (tail : List Heard) (t : TillState) (r : Running) (s : Settling) (m : Heard)
    → Pays r.order → s.asking ≡ None → AllIn own now (map row_of t.book) → Paying own (map row_of t.book) before now asked s r.order r.statuses (m ∷ tail)
    → Follows own before now asked tail t r s (HeardIn m)
paying-word own before now asked tail t r s m pays idle all k = by_taking k.taking
  where
    by_taking : Taking own (map row_of t.book) before now asked r.order r.statuses s.so_far (m ∷ tail) → Follows own before now asked tail t r s (HeardIn m)
    by_taking (InFlight n e f none same nothing empty) = absurd cc
    by_taking (Denied e same n d) = denied-word own before now asked tail t r s m pays idle all k e same n d
    by_taking (Unsaid row e grew is nothing empty d) = unsaid-word own before now asked tail t r s m row pays idle all k e grew is nothing empty d
    by_taking (Said row e grew is claims one d) = said-word own before now asked tail t r s m row pays idle all k e grew is claims one d

-- ---- a registration or an end of day that runs

ends-tail : (p : Bool) (m : Heard) (tail : List Heard) → ends p (HeardIn m) ≡ true → EndsLast (m ∷ tail) → tail ≡ []
ends-tail p Positive tail e k = absurd cc
ends-tail p (Negative c) tail e k = k
ends-tail p (Status f) tail e k = absurd cc
ends-tail p Passing tail e k = absurd cc
ends-tail p Completion tail e k = k
ends-tail p (Abort c) tail e k = k
ends-tail p Strange tail e k = absurd cc

on-tail : (p : Bool) (m : Heard) (tail : List Heard) → ends p (HeardIn m) ≡ false → EndsLast (m ∷ tail) → EndsLast tail
on-tail p Positive tail e k = k
on-tail p (Negative c) tail e k = subst EndsLast (sym k) tt
on-tail p (Status f) tail e k = k
on-tail p Passing tail e k = k
on-tail p Completion tail e k = absurd cc
on-tail p (Abort c) tail e k = absurd cc
on-tail p Strange tail e k = k

abbrev runs_as : Order → Bool → Statuses → Running
runs_as o p st = record { order = o; positive = p; statuses = st }

-- what is heard of it
heard-words : (own : ℕ) (rows : List Booked) (loose : List (ℕ × Cause)) (before now : List Row) (asked : List Word) (s : Settling) (o : Order) (m : Heard) (tail : List Heard)
    → Quiet own rows loose before now asked s o (m ∷ tail) → (asked ≡ []) × EndsLast (m ∷ tail)
heard-words own rows loose before now asked s o m tail k = by_words k.words
  where
    by_words : ((n : Word) × (asked ≡ n ∷ []) × FitsOrder own rows o n × (m ∷ tail ≡ [])) ⊎ ((asked ≡ []) × EndsLast (m ∷ tail)) → (asked ≡ []) × EndsLast (m ∷ tail)
    by_words (inl w) = let gone = w.3 in absurd cc
    by_words (inr w) = w

register-word : (own : ℕ) (before now : List Row) (asked : List Word) (tail : List Heard) (t : TillState) (p : Bool) (st : Statuses) (s : Settling) (m : Heard)
    → s.asking ≡ None → AllIn own now (map row_of t.book) → Quiet own (map row_of t.book) t.unclear before now asked s Register (m ∷ tail)
    → Follows own before now asked tail t (runs_as Register p st) s (HeardIn m)
register-word own before now asked tail t p st s m idle all k =
    let h : Happening = HeardIn m in
    let w = heard-words own (map row_of t.book) t.unclear before now asked s Register m tail k in
    let out : Outcome = outcome_by t.book Register st h in
    let stays = plain-stays (with_status s h) Register h out (length t.unclear) plain-register (proper t.book Register st h) in
    record {
      idle = idle;
      ended = λ e.
          (w.0, ends-tail p m tail e w.1, record { known = subst (λ (x : Settling). KnownBy own (map row_of t.book) t.unclear before now x) (sym stays) k.known; books = all });
      on = λ e. (record { known = k.known; words = inr (w.0, on-tail p m tail e w.1) }, all);
    }

closing-word : (own : ℕ) (before now : List Row) (asked : List Word) (tail : List Heard) (t : TillState) (p : Bool) (st : Statuses) (s : Settling) (m : Heard)
    → s.asking ≡ None → AllIn own now (map row_of t.book) → Quiet own (map row_of t.book) t.unclear before now asked s CloseDay (m ∷ tail)
    → Follows own before now asked tail t (runs_as CloseDay p st) s (HeardIn m)
closing-word own before now asked tail t p st s m idle all k =
    let h : Happening = HeardIn m in
    let w = heard-words own (map row_of t.book) t.unclear before now asked s CloseDay m tail k in
    let out : Outcome = outcome_by t.book CloseDay st h in
    let stays = plain-stays (with_status s h) CloseDay h out (length t.unclear) plain-closing (proper t.book CloseDay st h) in
    record {
      idle = idle;
      ended = λ e.
          (w.0, ends-tail p m tail e w.1, record { known = subst (λ (x : Settling). KnownBy own (map row_of t.book) t.unclear before now x) (sym stays) k.known; books = all });
      on = λ e. (record { known = k.known; words = inr (w.0, on-tail p m tail e w.1) }, all);
    }

-- ---- any order that runs

run-word : (own : ℕ) (before now : List Row) (asked : List Word) (tail : List Heard) (t : TillState) (o : Order) (p : Bool) (st : Statuses) (s : Settling) (m : Heard)
    → s.asking ≡ None → AllIn own now (map row_of t.book) → RunsAs own (map row_of t.book) t.unclear before now asked s o st (m ∷ tail)
    → Follows own before now asked tail t (runs_as o p st) s (HeardIn m)
run-word own before now asked tail t Register p st s m idle all k = register-word own before now asked tail t p st s m idle all k
run-word own before now asked tail t (Pay a) p st s m idle all k = paying-word own before now asked tail t (runs_as (Pay a) p st) s m tt idle all k
run-word own before now asked tail t (Reverse e) p st s m idle all k = paying-word own before now asked tail t (runs_as (Reverse e) p st) s m tt idle all k
run-word own before now asked tail t CloseDay p st s m idle all k = closing-word own before now asked tail t p st s m idle all k
run-word own before now asked tail t Cancel p st s m idle all k = absurd k

-- a positive answer decides nothing
positive-follows : (own : ℕ) (before now : List Row) (asked : List Word) (rest : List Heard) (t : TillState) (r : Running) (s : Settling)
    → s.asking ≡ None → AllIn own now (map row_of t.book) → RunsAs own (map row_of t.book) t.unclear before now asked s r.order r.statuses rest
    → Follows own before now asked rest t r s (HeardIn Positive)
positive-follows own before now asked rest t r s idle all k = record { idle = idle; ended = λ e. absurd cc; on = λ e. (k, all) }

run-follows : (own : ℕ) (before now : List Row) (asked : List Word) (t : TillState) (r : Running) (s : Settling) (m : Heard) (q coming : List Heard)
    → s.asking ≡ None → AllIn own now (map row_of t.book) → RunsAs own (map row_of t.book) t.unclear before now asked s r.order r.statuses (words (m ∷ q) ++ coming)
    → Follows own before now asked (words q ++ coming) t r s (HeardIn m)
run-follows own before now asked t r s Positive q coming idle all k = positive-follows own before now asked (words q ++ coming) t r s idle all k
run-follows own before now asked t r s m q coming idle all k = run-word own before now asked (words q ++ coming) t r.order r.positive r.statuses s m idle all k

pub run-hears : (own : ℕ) (before now : List Row) (asked : List Word) (t : TillState) (r : Running) (s : Settling) (m : Heard) (q coming : List Heard)
    → s.asking ≡ None → AllIn own now (map row_of t.book) → RunsAs own (map row_of t.book) t.unclear before now asked s r.order r.statuses (words (m ∷ q) ++ coming)
    → Met own before now asked (words q ++ coming) (meet_running t r (HeardIn m)) (running_settling t r s (HeardIn m) (ends r.positive (HeardIn m)))
run-hears own before now asked t r s m q coming idle all k =
    run-meets own before now asked (words q ++ coming) t r s (HeardIn m) (run-follows own before now asked t r s m q coming idle all k)
