-- What the signs of a trace are after all its messages.
use Rattle.std.proofs.Common.{◌≡◌, ℕ, ◌+◌, ◌<◌, ◌==◌, Bool, true, false, not, ◌&&◌, ◌||◌, cond, List, [], ◌∷◌, Option, Some, None, refl, ◌∙◌, ap, ap₂, arith}
use Rattle.std.proofs.lemmas.Bool.{eqb-true}
use Rattle.std.proofs.lemmas.List.Sums.{sum_by-cons}
use Rattle.std.specs.List.{cons_option, find}
use Rattle.std.specs.Prelude.{is_some, nat_eq, option_map}
use Rattle.zvt_trace.specs.Listening.{HearsAll}
use Rattle.zvt_trace.specs.TraceEvent.{At}
use Rattle.zvt_trace.specs.declared.direction.Direction.{Direction}
use Rattle.zvt_trace.specs.declared.direction.Direction.TheVariants.{FromTill, FromTerminal}
use Rattle.zvt_audit.specs.Orders.{is_order_from, orders_from}
use Rattle.zvt_report.specs.Findings.{SwappedAsInAudit, currencies, names_other, naming_at, namings, orders_in, other_than, saturated, swapped, swapped_if, two_named}
use Rattle.zvt_report.specs.Signs.{counted_if, currencies_by, named_with, no_signs, sees, signs_after}
use Rattle.zvt_report.specs.declared.findings.Finding.{Finding}
use Rattle.zvt_report.specs.declared.findings.Finding.TheVariants.{Currencies, Swapped}
use Rattle.zvt_report.specs.declared.signs.NamedSoFar.{NamedSoFar}
use Rattle.zvt_report.specs.declared.signs.NamedSoFar.TheVariants.{Nothing, One, Two}
use Rattle.zvt_report.specs.declared.signs.Signs.{Signs}

-- ---- the orders of each side

one_counted : (more : Bool) (n k : ℕ) → n ≡ saturated k → counted_if more n ≡ saturated (k + cond more 1 0)
one_counted true n k is = omega (arith, is)
one_counted false n k is = omega (arith, is)

one_first : (side : Direction) (k : ℕ) (event : At) (events : List At) → (k + cond (is_order_from side event.trace_event) 1 0) + orders_in side events ≡ k + orders_in side (event ∷ events)
one_first side k event events = omega (arith, sum_by-cons (λ (e : At). cond (is_order_from side e.trace_event) 1 0) event events)

module _ (side : Direction) (count : Signs → ℕ) (step : (old : Signs) (event : At) → count (signs_after old event) ≡ counted_if (is_order_from side event.trace_event) (count old)) where
  all_counted : (events : List At) (k : ℕ) (old new : Signs) → count old ≡ saturated k → HearsAll sees old events new → count new ≡ saturated (k + orders_in side events)
  all_counted [] k old new is same = ap count same ∙ is ∙ ap saturated (omega arith)
  all_counted (event ∷ events) k old new is (middle, seen, rest) =
      all_counted events (k + cond (is_order_from side event.trace_event) 1 0) middle new
      (ap count seen ∙ step old event ∙ one_counted (is_order_from side event.trace_event) (count old) k is) rest
      ∙ ap saturated (one_first side k event events)

from_none : (n : ℕ) → saturated (0 + n) ≡ saturated n
from_none n = ap saturated (omega arith)

pub swapped_seen : (events : List At) (old new : Signs) → old ≡ no_signs → HearsAll sees old events new → swapped_if new.till new.terminal ≡ swapped events
swapped_seen events old new fresh heard =
    ap₂ swapped_if (all_counted FromTill (λ (s : Signs). s.till) (λ s e. refl) events 0 old new (ap (λ (s : Signs). s.till) fresh) heard ∙ from_none (orders_in FromTill events))
    (all_counted FromTerminal (λ (s : Signs). s.terminal) (λ s e. refl) events 0 old new (ap (λ (s : Signs). s.terminal) fresh) heard ∙ from_none (orders_in FromTerminal events))

-- ---- the currencies

-- what is found if these are named after what was named so far
abbrev named_then : NamedSoFar → List (ℕ × ℕ) → Option Finding
named_then Nothing later = two_named later
named_then (One first) later = other_than first later
named_then (Two first other line) later = Some (Currencies first other line)

one_named : (named : NamedSoFar) (o : Option (ℕ × ℕ)) (later : List (ℕ × ℕ)) → named_then (named_with named o) later ≡ named_then named (cons_option o later)
one_named named None later = refl
one_named Nothing (Some naming) later = refl
one_named (One first) (Some naming) later = by (nat_eq first naming.0)
  where
    by : (same : Bool) → named_then (cond same (One first) (Two first naming.0 naming.1)) later
        ≡ option_map (λ (other : ℕ × ℕ). Currencies first other.0 other.1) (cond (not same) (Some naming) (find (names_other first) later))
    by true = refl
    by false = refl
one_named (Two first other line) (Some naming) later = refl

all_named : (events : List At) (old new : Signs) → HearsAll sees old events new → named_then new.named [] ≡ named_then old.named (namings events)
all_named [] old new same = ap (λ (s : Signs). named_then s.named []) same
all_named (event ∷ events) old new (middle, seen, rest) =
    all_named events middle new rest ∙ ap (λ (s : Signs). named_then s.named (namings events)) seen ∙ one_named old.named (naming_at event) (namings events)

none_later : (named : NamedSoFar) → currencies_by named ≡ named_then named []
none_later Nothing = refl
none_later (One first) = refl
none_later (Two first other line) = refl

pub currencies_seen : (events : List At) (old new : Signs) → old ≡ no_signs → HearsAll sees old events new → currencies_by new.named ≡ currencies events
currencies_seen events old new fresh heard =
    none_later new.named ∙ all_named events old new heard ∙ ap (λ (s : Signs). named_then s.named (namings events)) fresh

-- ---- the audit

not_zero : (n : ℕ) → 0 < n → (n == 0) ≡ false
not_zero n more = by (n == 0) refl
  where
    by : (zero : Bool) → (n == 0) ≡ zero → zero ≡ false
    by true is = absurd (omega (arith, eqb-true n 0 is, more))
    by false is = refl

none_ordered : (side : Direction) (events : List At) → (saturated (orders_in side events) == 0) ≡ not (orders_from side events)
none_ordered side [] = refl
none_ordered side (event ∷ events) = ap (λ (n : ℕ). saturated n == 0) (sum_by-cons (λ (e : At). cond (is_order_from side e.trace_event) 1 0) event events) ∙ by (is_order_from side event.trace_event) (none_ordered side events)
  where
    by : (one : Bool) → (saturated (orders_in side events) == 0) ≡ not (orders_from side events) → (saturated (cond one 1 0 + orders_in side events) == 0) ≡ not (one || orders_from side events)
    by true later = not_zero (saturated (1 + orders_in side events)) (omega arith)
    by false later = ap (λ (n : ℕ). saturated n == 0) (omega arith) ∙ later

is_found : (test : Bool) (found : Finding) → is_some (cond test (Some found) None) ≡ test
is_found true found = refl
is_found false found = refl

not_not : (b : Bool) → not (not b) ≡ b
not_not true = refl
not_not false = refl

pub swapped_as_in_audit : SwappedAsInAudit
swapped_as_in_audit events =
    is_found ((saturated (orders_in FromTill events) == 0) && not (saturated (orders_in FromTerminal events) == 0)) (Swapped (saturated (orders_in FromTerminal events)))
    ∙ ap₂ (λ (a b : Bool). a && not b) (none_ordered FromTill events) (none_ordered FromTerminal events)
    ∙ ap (λ (b : Bool). not (orders_from FromTill events) && b) (not_not (orders_from FromTerminal events))
