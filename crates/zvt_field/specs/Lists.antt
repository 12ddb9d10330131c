-- Fields that are together.
use Rattle.std.specs.Prelude.{◌≡◌, ℕ, ◌<◌, ◌^◌, List, [], ◌∷◌, ◌++◌, codes, length}
use Rattle.zvt_grammar.specs.Reading.{shortest}
use Rattle.zvt_field.specs.Grammar.{Field, FieldList}
use Rattle.zvt_field.specs.Bodies.{HaveSpelling}
use Rattle.zvt_field.specs.declared.lists.PushRefusal.{PushRefusal}
use Rattle.zvt_field.specs.declared.lists.PushRefusal.TheVariants.{TooLarge, Memory}

-- The fields have a spelling together, of that many bytes, which are at most 65,535.
pub record HaveSize (fields : List Field) (size : ℕ) : Type 0 where
  pub bytes : List ℕ
  pub spelled : FieldList shortest fields bytes
  pub sized : length bytes ≡ size
  pub small : size < 2 ^ 16

-- The field that is handed back is there for the reason that is given; too large is looked at first.
abbrev pub Refuses : List Field → Field → PushRefusal → Type 0
Refuses fields field (TooLarge back) = (back ≡ field) × (HaveSpelling (fields ++ field ∷ []) → ⊥)
Refuses fields field (Memory back) = (back ≡ field) × HaveSpelling (fields ++ field ∷ [])

abbrev pub push_refusal_text : PushRefusal → List ℕ
push_refusal_text (TooLarge back) = codes "the fields would have more than 65,535 bytes"
push_refusal_text (Memory back) = codes "out of memory"
