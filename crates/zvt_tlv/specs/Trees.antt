-- The tree of objects that a list of them represents.
use Rattle.std.specs.Prelude.{ℕ, List, [], ◌∷◌, map}
use Rattle.zvt_tlv.specs.declared.trees.Tlv.{Tlv, fold-Tlv}
use Rattle.zvt_tlv.specs.declared.trees.Body.TheOpen.{Body-F, Tlv-F, Prim, Cons}
use Rattle.zvt_tlv.specs.Grammar.{Objects, none, primitive, constructed}

-- One after another.
abbrev pub chain : List (Objects → Objects) → Objects
chain [] = none
chain (put ∷ more) = put (chain more)

abbrev pub body_step : Body-F (List ℕ → Objects → Objects) (Objects → Objects) → List ℕ → Objects → Objects
body_step (Prim v) tag rest = primitive tag v.items rest
body_step (Cons v) tag rest = constructed tag (chain v.items) rest

abbrev pub object_step : Tlv-F (List ℕ → Objects → Objects) (Objects → Objects) → Objects → Objects
object_step t rest = t.body t.tag rest

-- An object before others.
abbrev pub before : Tlv → Objects → Objects
before = fold-Tlv (List ℕ → Objects → Objects) (Objects → Objects) body_step object_step

-- The objects of a list, in order.
abbrev pub objects_of : List Tlv → Objects
objects_of ts = chain (map before ts)
