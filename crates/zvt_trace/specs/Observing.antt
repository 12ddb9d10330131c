-- Observers of the chunks of a line, and devices with an observer.
use Rattle.std.specs.Prelude.{◌≡◌, ◌⊎◌, ◌+◌, ℕ, Bool, true, false, List, ◌∷◌, ◌++◌, [], codes, take, Option, None, Some, Result, Ok, Err}
use Rattle.std.specs.Io.KnownBytes.{Appends}
use Rattle.zvt_trace.specs.Lines.{piece_text}
use Rattle.zvt_trace.specs.Written.{AppendsPrefix}
use Rattle.zvt_trace.specs.declared.direction.Direction.{Direction}
use Rattle.zvt_trace.specs.declared.listener.ListenerError.{ListenerError}
use Rattle.zvt_trace.specs.declared.listener.ListenerError.TheVariants.{Memory, Write}

-- the observer after one chunk, and after a chunk that it misses
abbrev pub Observes : Type 0 → Type 1
Observes S = S → Direction → List ℕ → S → Type 0

abbrev pub Misses : Type 0 → Type 1
Misses S = S → Direction → List ℕ → ListenerError → S → Type 0

-- ---- observers of observers

-- both observe the chunk
abbrev pub BothObserve : {A B : Type 0} → Observes A → Observes B → Direction → List ℕ → (a : A) (b : B) (x : A) (y : B) → Type 0
BothObserve first second from bytes a b x y = first a from bytes x × second b from bytes y

-- The first misses the chunk, and the second does not change; or the first observes the chunk, and the second misses it.
abbrev pub OneMisses : {A B : Type 0} → Observes A → Misses A → Misses B → Direction → List ℕ → ListenerError → (a : A) (b : B) (x : A) (y : B) → Type 0
OneMisses observes misses second_misses from bytes why a b x y = (misses a from bytes why x × (y ≡ b)) ⊎ (observes a from bytes x × second_misses b from bytes why y)

-- a present observer observes the chunk, and an absent one stays absent
abbrev pub OneObserves : {K : Type 0} → Observes K → Direction → List ℕ → (old new : Option K) → Type 0
OneObserves observes from bytes None new = new ≡ None
OneObserves observes from bytes (Some old) None = ⊥
OneObserves observes from bytes (Some old) (Some new) = observes old from bytes new

-- a present observer misses the chunk
abbrev pub SomeMisses : {K : Type 0} → Misses K → Direction → List ℕ → ListenerError → (old new : Option K) → Type 0
SomeMisses misses from bytes why None new = ⊥
SomeMisses misses from bytes why (Some old) None = ⊥
SomeMisses misses from bytes why (Some old) (Some new) = misses old from bytes why new

-- ---- the trace

-- the line of the chunk was appended to the trace
abbrev pub Traces : {T : Type 0} → (T → Option (List ℕ)) → (T → ℕ) → Direction → List ℕ → (old new : T) → Type 0
Traces written failures from bytes old new = Appends (written old) (written new) (piece_text from bytes) × (failures new ≡ failures old)

-- An allocation failed, and the device does not change; or a write failed, and a prefix of the line was appended.
abbrev pub MissesLine : {T : Type 0} → (T → Option (List ℕ)) → (T → ℕ) → Direction → List ℕ → ListenerError → (old new : T) → Type 0
MissesLine written failures from bytes Memory old new = new ≡ old
MissesLine written failures from bytes Write old new = AppendsPrefix (written old) (written new) (piece_text from bytes) × (failures new ≡ failures old + 1)

-- The end of a trace. It is incomplete if it lacked a chunk before or if its end could not be written.
abbrev pub EndsTrace : (lacked : Bool) → (old new : Option (List ℕ)) → (failures_before failures_after : ℕ) → (lacks : Bool) → Type 0
EndsTrace lacked old new before after true = (lacked ≡ true) ⊎ (after ≡ before + 1)
EndsTrace lacked old new before after false = (lacked ≡ false) × (after ≡ before) × Appends old new (codes "!" ++ 10 ∷ [])

-- ---- a device whose chunks are observed

-- the chunk was observed; or it was missed, which breaks the device
abbrev pub Offers : {S : Type 0} → Observes S → Misses S → Direction → List ℕ → (is_broken : Bool) → (old new : S) → Type 0
Offers observes misses from bytes false old new = observes old from bytes new
Offers observes misses from bytes true old new = (why : ListenerError) × misses old from bytes why new

-- Only a read that returned bytes is observed.
abbrev pub ObservesRead : {S E : Type 0} → Observes S → Misses S → Direction → (was is : Bool) → (old new : S) → Result ℕ E → List ℕ → Type 0
ObservesRead observes misses from was is old new (Ok count) buffer =
    (was ≡ false) × (((count ≡ 0) × (is ≡ false) × (new ≡ old)) ⊎ Offers observes misses from (take count buffer) is old new)
ObservesRead observes misses from was is old new (Err failed) buffer = (is ≡ was) × (new ≡ old)

-- A write is observed before it is made. It is not made once the device is broken.
abbrev pub ObservesWrite : {S E : Type 0} → Observes S → Misses S → Direction → (was is : Bool) → (old new : S) → Result Unit E → List ℕ → Type 0
ObservesWrite observes misses from was is old new (Ok done) bytes = (was ≡ false) × (is ≡ false) × Offers observes misses from bytes is old new
ObservesWrite observes misses from was is old new (Err failed) bytes = ((was ≡ true) × (is ≡ true) × (new ≡ old)) ⊎ ((was ≡ false) × Offers observes misses from bytes is old new)
