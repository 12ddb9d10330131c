-- Texts that are written whole, or not at all.
use Rattle.std.specs.Prelude.{◌≡◌, ◌<◌, ◌≤◌, ℕ, List, ◌++◌, length, take, Result, MatchResult}

-- The text grew by all that was to be said; or it stayed, where memory was refused.
abbrev pub Adds : {E : Type 0} → Result Unit E → (old new : List ℕ) → (said : List ℕ) → Type 0
Adds result old new said = MatchResult result (λ _. new ≡ old ++ said) (λ _. new ≡ old)

-- The text ends at a place in the buffer, and is what stood before the place at which it began, and what was said; where
-- the buffer is full it has no capacity for all of that.
abbrev pub Puts : {E : Type 0} → Result ℕ E → (at : ℕ) → (old new : List ℕ) → (said : List ℕ) → Type 0
Puts result at old new said = MatchResult result (λ end. (end ≤ length new) × (take end new ≡ take at old ++ said)) (λ _. length new < length (take at old ++ said))
