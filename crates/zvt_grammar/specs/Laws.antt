-- Laws that hold for every grammar whose spellings end themselves. Nothing here knows a grammar.
use Rattle.std.specs.Prelude.{◌≡◌, ℕ, List, ◌++◌}
use Rattle.zvt_grammar.specs.Beginnings.{Alive}
use Rattle.zvt_grammar.specs.Cuts.{Spelled, Cut}

-- No spelling begins another, and no two values share one.
abbrev pub EndThemselves : {V : Type 0} → (V → List ℕ → Type 0) → Type 0
EndThemselves {V = V} spells =
    (m n : V) (a b x y : List ℕ) → spells m a → spells n b → a ++ x ≡ b ++ y → (m ≡ n) × (a ≡ b)

-- Each value has one spelling at most.
abbrev pub SpellingsAreOne : {V : Type 0} → (V → List ℕ → Type 0) → Type 0
SpellingsAreOne {V = V} spells = (m : V) (a b : List ℕ) → spells m a → spells m b → a ≡ b

-- A line has one cut.
abbrev pub CutsAreOne : {V : Type 0} → (V → List ℕ → Type 0) → Type 0
CutsAreOne {V = V} spells =
    (bytes : List ℕ) (ms ns : List V) (r s : List ℕ) → Cut spells bytes ms r → Cut spells bytes ns s → (ms ≡ ns) × (r ≡ s)

-- What is spelled at the start of a line is a prefix of its cut.
abbrev pub PrefixesOfCut : {V : Type 0} → (V → List ℕ → Type 0) → Type 0
PrefixesOfCut {V = V} spells =
    (bytes : List ℕ) (ms ns : List V) (r s : List ℕ) → Spelled spells bytes ms r → Cut spells bytes ns s → (later : List V) × (ns ≡ ms ++ later)

-- More bytes leave the values that stand.
abbrev pub Growth : {V : Type 0} → (V → List ℕ → Type 0) → Type 0
Growth {V = V} spells =
    (bytes more : List ℕ) (ms ns : List V) (r s : List ℕ) → Cut spells bytes ms r → Cut spells (bytes ++ more) ns s → (later : List V) × (ns ≡ ms ++ later)

-- Each prefix of what is alive is alive.
abbrev pub PrefixesAlive : {V : Type 0} → (V → List ℕ → Type 0) → Type 0
PrefixesAlive spells = (prefix rest : List ℕ) → Alive spells (prefix ++ rest) → Alive spells prefix
