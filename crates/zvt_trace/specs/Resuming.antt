-- Where reading of a side resumes after a refusal.
use Rattle.std.specs.Prelude.{⊤, ℕ, Bool, true, false, zero, suc, ◌+◌, ◌-◌, ◌*◌, ◌≤◌, ◌==◌, nat_lt, if◌then◌else◌, Option, None, Some, List, [], ◌∷◌, take}
use Rattle.zvt_trace.specs.Trace.{Side, running, skipping, stopped}
use Rattle.zvt_trace.specs.TraceEvent.{At, on}
use Rattle.zvt_trace.specs.TraceEvent as trace_event
use Rattle.zvt_trace.specs.declared.direction.Direction.{Direction}
use Rattle.zvt_trace.specs.declared.listener.Scope.{Scope}
use Rattle.zvt_trace.specs.declared.listener.Scope.TheVariants.{OneMessage, OneSide, WholeLine}

-- what is not read after a refused message of a line whose sides are read apart
abbrev pub side_scope : (reads_on : Bool) → Scope
side_scope false = OneSide
side_scope true = OneMessage

-- ---- the size that a message announces

-- after FF, two bytes give the size of the data, the low one first
abbrev pub long_size : List ℕ → Option ℕ
long_size [] = None
long_size (low ∷ []) = None
long_size (low ∷ high ∷ content) = Some (5 + low + 256 * high)

-- the size of the whole message, once enough of its first bytes have arrived
abbrev pub announced : List ℕ → Option ℕ
announced [] = None
announced (class ∷ []) = None
announced (class ∷ instruction ∷ []) = None
announced (class ∷ instruction ∷ size ∷ more) = if size == 255 then long_size more else Some (3 + size)

-- this size, if reading resumes after a refusal at this place of the message
abbrev pub size_by : Scope → (place : ℕ) → Option ℕ → Option ℕ
size_by OneSide place size = None
size_by OneMessage place None = None
size_by OneMessage place (Some size) = if nat_lt place size then Some size else None
size_by WholeLine place size = None

-- the bytes up to the fatal one announce it
abbrev pub refused_size : Scope → (rest : List ℕ) → (place : ℕ) → Option ℕ
refused_size scope rest place = size_by scope place (announced (take (suc place) rest))

-- ---- the rest of a refused message

-- This many bytes of a refused message are missing. After the last of them, reading resumes.
abbrev pub side_skipping : (size left : ℕ) → Side
side_skipping size zero = running []
side_skipping size (suc left) = skipping size (suc left)

abbrev pub skipping_events : ℕ → Direction → (size left : ℕ) → List At
skipping_events line from size zero = on line (trace_event.resumed from size) ∷ []
skipping_events line from size (suc left) = []

-- This many bytes of the refused message have arrived, and none of a later one.
abbrev pub side_refused : Option ℕ → (come : ℕ) → Side
side_refused None come = stopped
side_refused (Some size) come = side_skipping size (size - come)

abbrev pub resuming_events : ℕ → Direction → Option ℕ → (come : ℕ) → List At
resuming_events line from None come = []
resuming_events line from (Some size) come = skipping_events line from size (size - come)

abbrev pub IsWithin : Option ℕ → (come : ℕ) → Type 0
IsWithin None come = ⊤
IsWithin (Some size) come = come ≤ size
