-- What a recorder and a watcher of a line observe, chunk by chunk.
use Rattle.std.specs.Prelude.{◌≡◌, ◌⊎◌, ℕ, List, [], ◌∷◌}
use Rattle.zvt_trace.specs.Observing.{Misses, Observes}
use Rattle.zvt_trace.specs.declared.direction.Direction.{Direction}
use Rattle.zvt_trace.specs.declared.listener.ListenerError.{ListenerError}
use Rattle.zvt_trace.specs.declared.listener.ListenerError.TheVariants.{Memory, Write}
use Rattle.zvt_tap.specs.Chunks.{Chunk}
use Rattle.zvt_tap.specs.declared.watched.Watched.{Watched}

-- ---- one chunk

-- an observer observes the chunk, or misses it
abbrev pub Sees : {S : Type 0} → Observes S → Misses S → Direction → List ℕ → (old new : S) → Type 0
Sees observes misses from bytes old new = observes old from bytes new ⊎ ((why : ListenerError) × misses old from bytes why new)

-- what a watcher does with a chunk that the recorder missed: it sees it all the same, but where there was no memory for it
abbrev pub SeesMissed : {S : Type 0} → Observes S → Misses S → Direction → List ℕ → ListenerError → (old new : S) → Type 0
SeesMissed observes misses from bytes Memory old new = new ≡ old
SeesMissed observes misses from bytes Write old new = Sees observes misses from bytes old new

module _ {K V : Type 0} (observes : Observes K) (misses : Misses K) (watches : Observes V) (overlooks : Misses V) where
  -- the recorder observes the chunk, and the watcher sees it
  abbrev pub Records : Observes (Watched K V)
  Records old from bytes new = observes old.recorder from bytes new.recorder × Sees watches overlooks from bytes old.watcher new.watcher

  -- the recorder misses the chunk
  abbrev pub Loses : Misses (Watched K V)
  Loses old from bytes why new = misses old.recorder from bytes why new.recorder × SeesMissed watches overlooks from bytes why old.watcher new.watcher

-- ---- chunks, one after another

-- these chunks were observed
abbrev pub ObservesAll : {S : Type 0} → Observes S → S → List Chunk → S → Type 0
ObservesAll observes old [] new = new ≡ old
ObservesAll {S = S} observes old (one ∷ more) new = (middle : S) × observes old one.from one.bytes middle × ObservesAll observes middle more new

-- these chunks were observed, and the last one was missed
abbrev pub ObservesUntil : {S : Type 0} → Observes S → Misses S → S → List Chunk → (last : Chunk) → ListenerError → S → Type 0
ObservesUntil {S = S} observes misses old chunks last why new = (middle : S) × ObservesAll observes old chunks middle × misses middle last.from last.bytes why new
