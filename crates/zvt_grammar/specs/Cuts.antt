-- A line's bytes cut into messages.
use Rattle.std.specs.Prelude.{◌≡◌, ℕ, List, [], ◌∷◌, ◌++◌}
use Rattle.zvt_grammar.specs.Beginnings.{NoneWhole}

-- The bytes are the spellings of the values one after another, then the rest.
abbrev pub Spelled : {V : Type 0} → (V → List ℕ → Type 0) → List ℕ → List V → List ℕ → Type 0
Spelled spells bytes [] rest = bytes ≡ rest
Spelled spells bytes (value ∷ values) rest =
    (prefix : List ℕ) × (later : List ℕ) × (bytes ≡ prefix ++ later) × spells value prefix × Spelled spells later values rest

-- The values of the bytes, and the rest, which begins with no spelling.
pub record Cut {V : Type 0} (spells : V → List ℕ → Type 0) (bytes : List ℕ) (values : List V) (rest : List ℕ) : Type 0 where
  pub spelled : Spelled spells bytes values rest
  pub none_whole : NoneWhole spells rest
