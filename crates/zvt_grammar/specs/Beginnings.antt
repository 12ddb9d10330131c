-- Which beginnings can be completed, and where the others fail. Nothing here knows a grammar.
use Rattle.std.specs.Prelude.{◌≡◌, ℕ, ◌<◌, suc, List, ◌++◌, length, take}

-- Some value's spelling begins with these bytes.
pub record Alive {V : Type 0} (spells : V → List ℕ → Type 0) (bytes : List ℕ) : Type 0 where
  pub value : V
  pub rest : List ℕ
  pub spelled : spells value (bytes ++ rest)

-- No value's spelling is a prefix of the bytes.
abbrev pub NoneWhole : {V : Type 0} → (V → List ℕ → Type 0) → List ℕ → Type 0
NoneWhole {V = V} spells bytes = (value : V) (prefix rest : List ℕ) → bytes ≡ prefix ++ rest → spells value prefix → ⊥

-- The bytes begin a spelling and hold none.
pub record Unfinished {V : Type 0} (spells : V → List ℕ → Type 0) (bytes : List ℕ) : Type 0 where
  pub alive : Alive spells bytes
  pub none_whole : NoneWhole spells bytes

-- The first byte after which no spelling can follow.
pub record Place {V : Type 0} (spells : V → List ℕ → Type 0) (bytes : List ℕ) (place : ℕ) : Type 0 where
  pub present : place < length bytes
  pub alive : Alive spells (take place bytes)
  pub dead : Alive spells (take (suc place) bytes) → ⊥
