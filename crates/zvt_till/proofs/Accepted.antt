-- From an accepted order on, an order runs or it is known how one ended.
use Rattle.std.proofs.Common.{◌≡◌, Bool, true, false, cond, Option, Some, None, IsSome, refl, sym, subst, ◌∙◌, option_map}
use Rattle.zvt_till.specs.declared.happenings.Happening.{Happening}
use Rattle.zvt_till.specs.declared.happenings.Happening.TheVariants.{Heard as HeardIn, Malformed, Lost}
use Rattle.zvt_till.specs.declared.messages.Heard.{Heard}
use Rattle.zvt_till.specs.declared.orders.Order.{Order}
use Rattle.zvt_till.specs.declared.orders.Order.TheVariants.{Register, Pay, Reverse, CloseDay, Cancel}
use Rattle.zvt_till.specs.declared.orders.Outgoing.{Outgoing}
use Rattle.zvt_till.specs.declared.statuses.Running.{Running}
use Rattle.zvt_till.specs.declared.outcomes.Outcome.{Outcome}
use Rattle.zvt_till.specs.Segments.{ends}
use Rattle.zvt_till.specs.Outcomes.{demand_of, outcome_by, listened}
use Rattle.zvt_till.specs.Refusals.{refusal, or_else, cancel_refusal}
use Rattle.zvt_till.specs.Till.{TillState, finish, meet_running, meet, accept, step, awaited_by, facts_of}
use Rattle.zvt_till.specs.View.{TillValue}
use Rattle.zvt_till.specs.Line.{is_idle, IsEnded}
use Rattle.zvt_till.specs.Keeping.{Accepts}

-- where no order runs, it is known how the last one ended
abbrev pub IsKnown : TillState → Type 0
IsKnown s = s.running ≡ None → IsSome s.last_outcome

some-none : {A : Type 0} (x : A) (o : Option A) → o ≡ Some x → o ≡ None → ⊥
some-none x o e n = let f : Some x ≡ None = sym e ∙ n in cc

runs : (s : TillState) (r : Running) → s.running ≡ Some r → IsKnown s
runs s r e none = absurd (some-none r s.running e none)

no-cancel : (up : Bool) → or_else (cond up (cancel_refusal None) (Some Rattle.zvt_till.specs.declared.orders.OrderRefusal.TheVariants.Offline)) None ≡ None → ⊥
no-cancel true e = cc
no-cancel false e = cc

cancelled : (s : TillState) (run : Option Running) → s.running ≡ run → or_else (cond s.line_up (cancel_refusal (option_map (awaited_by s.settings.currency) run)) (Some Rattle.zvt_till.specs.declared.orders.OrderRefusal.TheVariants.Offline)) None ≡ None → IsKnown s
cancelled s None e r = absurd (no-cancel s.line_up r)
cancelled s (Some run) e r = runs s run e

pub known-accepted : (s : TillState) (o : Order) → refusal (facts_of s) o ≡ None → IsKnown (accept s o)
known-accepted s Register r = λ e. absurd cc
known-accepted s (Pay a) r = λ e. absurd cc
known-accepted s (Reverse k) r = λ e. absurd cc
known-accepted s CloseDay r = λ e. absurd cc
known-accepted s Cancel r = cancelled s s.running refl r

pub known-taken : (o : Order) (outgoing : Outgoing) (old new : TillValue) → Accepts o outgoing old new → IsKnown new.state
known-taken o outgoing old new taken = subst IsKnown (sym taken.runs) (known-accepted old.state o taken.taken)

by-end : (s : TillState) (r : Running) (h : Happening) (b : Bool)
    → IsKnown (cond b (finish s r.order (outcome_by s.book r.order r.statuses h)) (record s { running = Some (listened (demand_of s.settings.rules (Some s.settings.currency) s.book s.unclear r.order) r h) }))
by-end s r h true = λ e. refl
by-end s r h false = λ e. absurd cc

by-running : (s : TillState) (h : Happening) (run : Option Running) → IsKnown s → IsKnown (elim run as (λ x. TillState) [ None ↦ s | Some r ↦ meet_running s r h ])
by-running s h None k = k
by-running s h (Some r) k = by-end s r h (ends r.positive h)

by-line : (s : TillState) (h : Happening) (up : Bool) → IsKnown s → IsKnown (cond up (meet s h) s)
by-line s h true k = by-running s h s.running k
by-line s h false k = k

-- a message that is heard keeps it
pub known-heard : (s : TillState) (m : Heard) → IsKnown s → IsKnown (step s (HeardIn m))
known-heard s m k = by-line s (HeardIn m) s.line_up k

over-lost : (s : TillState) (run : Option Running) → s.running ≡ run → IsKnown s → ((elim run as (λ x. TillState) [ None ↦ s | Some r ↦ meet_running s r Lost ]).running ≡ None) × IsSome (elim run as (λ x. TillState) [ None ↦ s | Some r ↦ meet_running s r Lost ]).last_outcome
over-lost s None e k = (e, k e)
over-lost s (Some r) e k = (refl, refl)

over-malformed : (s : TillState) (run : Option Running) → s.running ≡ run → IsKnown s → ((elim run as (λ x. TillState) [ None ↦ s | Some r ↦ meet_running s r Malformed ]).running ≡ None) × IsSome (elim run as (λ x. TillState) [ None ↦ s | Some r ↦ meet_running s r Malformed ]).last_outcome
over-malformed s None e k = (e, k e)
over-malformed s (Some r) e k = (refl, refl)

-- a till that lost its line
pub lost-over : (old new : TillState) → new ≡ step old Lost → IsKnown old → IsEnded new
lost-over old new e k = let o = over-lost old old.running refl k in subst IsEnded (sym e) (o.0, refl, o.1)

pub malformed-over : (old new : TillState) → new ≡ step old Malformed → IsKnown old → IsEnded new
malformed-over old new e k = let o = over-malformed old old.running refl k in subst IsEnded (sym e) (o.0, refl, o.1)

idle-none : (run : Option Running) → is_idle run ≡ true → run ≡ None
idle-none None e = refl
idle-none (Some r) e = absurd cc

none-not-some : (o : Option Outcome) → o ≡ None → IsSome o → ⊥
none-not-some None e s = absurd cc
none-not-some (Some x) e s = absurd cc

-- a till that rests knows how the order ended
pub rests-known : (s : TillState) → is_idle s.running ≡ true → IsKnown s → s.last_outcome ≡ None → ⊥
rests-known s idle k e = none-not-some s.last_outcome e (k (idle-none s.running idle))
