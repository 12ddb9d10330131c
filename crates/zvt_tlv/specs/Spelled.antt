-- What has a spelling.
use Rattle.std.specs.Prelude.{ℕ, ◌<◌, ◌^◌, List, length}
use Rattle.zvt_grammar.specs.Reading.{shortest}
use Rattle.zvt_tlv.specs.Grammar.{Objects, Spells}

-- The objects have a spelling from depth 1 on, of at most 65,535 bytes.
pub record HasSpelling (f : Objects) : Type 0 where
  pub bytes : List ℕ
  pub spelled : Spells shortest 1 f bytes
  pub small : length bytes < 2 ^ 16
