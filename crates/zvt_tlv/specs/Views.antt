-- What views of bytes that spell objects hold.
use Rattle.std.specs.Prelude.{◌≡◌, ℕ, true, List, ◌++◌, length}
use Rattle.std.specs.Coded.{Coded, Coded-set}
use mathlib.Core.HLevel.{Σ_prop_path, Π_prop}
use mathlib.Core.Logic.{∥∥₁_elim, ∥∥₁_prop}
use Rattle.std.proofs.Common.{refl, suc}
use Rattle.zvt_grammar.specs.Reading.{padded}
use Rattle.zvt_tlv.specs.Grammar.{Objects, none, primitive, constructed, IsTag, IsLength, is_constructed, Spells}
use Rattle.zvt_tlv.specs.Coding.{objects_code}
use Rattle.zvt_tlv.specs.UniqueDecoding.{one_tree}

-- A value that the bytes spell.
abbrev pub OneOf : {V : Type 0} → (V → List ℕ → Type 0) → List ℕ → Type 0
OneOf {V = V} spells bytes = (value : V) × ∥ spells value bytes ∥₁

-- It is one alone, where no two values share a spelling.
pub one_value : {V : Type 0} → Coded V → (spells : V → List ℕ → Type 0) → (bytes : List ℕ) →
    ((v w : V) → spells v bytes → spells w bytes → v ≡ w) → (a b : OneOf spells bytes) → a ≡ b
one_value c spells bytes once a b =
    Σ_prop_path (λ v. ∥∥₁_prop) (∥∥₁_elim a.1 (Coded-set c _ _) (λ p. ∥∥₁_elim b.1 (Coded-set c _ _) (λ q. once a.0 b.0 p q)))

-- The objects that the bytes spell, each length in any form that holds it.
abbrev pub ForestBytes : List ℕ → Type 0
ForestBytes = OneOf (Spells padded 1)

pub forest_once : (bytes : List ℕ) → (a b : ForestBytes bytes) → a ≡ b
forest_once bytes = one_value objects_code (Spells padded 1) bytes (λ f g p q. one_tree padded 1 f g bytes bytes refl p q)

-- Objects are in the content of a constructed tag.
abbrev pub ContentOf : (tag content : List ℕ) → Type 0
ContentOf tag content = is_constructed tag ≡ true → ForestBytes content

pub content_once : (tag content : List ℕ) → (a b : ContentOf tag content) → a ≡ b
content_once tag content = Π_prop (λ _. forest_once content)

-- A tag comes first.
abbrev pub TagFirst : List ℕ → Type 0
TagFirst bytes = (tag : List ℕ) × (after : List ℕ) × (bytes ≡ tag ++ after) × IsTag tag

-- A length comes first.
abbrev pub LengthFirst : List ℕ → Type 0
LengthFirst bytes = (n : ℕ) × (size : List ℕ) × (after : List ℕ) × (bytes ≡ size ++ after) × IsLength padded n size

-- An object's parts come first.
pub record Starts (tag size content after bytes : List ℕ) : Type 0 where
  pub whole : bytes ≡ tag ++ (size ++ (content ++ after))
  pub is_tag : IsTag tag
  pub is_length : IsLength padded (length content) size

abbrev pub ObjectFirst : List ℕ → Type 0
ObjectFirst bytes = (tag : List ℕ) × (size : List ℕ) × (content : List ℕ) × (after : List ℕ) × Starts tag size content after bytes

-- How many objects a level has.
abbrev pub count : Objects → ℕ
count none = 0
count (primitive tag content rest) = suc (count rest)
count (constructed tag inner rest) = suc (count rest)
