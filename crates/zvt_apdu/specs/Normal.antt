-- Messages of padded lengths in their one strict spelling.
use Rattle.std.specs.Prelude.{◌≡◌, ◌⊎◌, ℕ, ◌≤◌, List, length, take, Vec}
use Rattle.std.specs.Global.{Global}
use Rattle.zvt_grammar.specs.declared.answer.Scan.{Scan}
use Rattle.zvt_grammar.specs.declared.answer.Scan.TheVariants.{Whole, More, Refused}
use Rattle.zvt_grammar.specs.Reading.{shortest, padded}
use Rattle.zvt_apdu.specs.Message.{Message}
use Rattle.zvt_apdu.specs.Grammar.{Spells}
use Rattle.zvt_apdu.specs.Judging.{Found, Answers, TakesMemory}

-- The message that comes first under the padded reading has this strict spelling, of no more bytes; and what stands
-- there is that spelling already where it is a strict one.
pub record IsNormal (bytes strict : List ℕ) (taken : ℕ) : Type 0 where
  pub message : Message
  pub found : Found padded bytes message taken
  pub spelled : Spells shortest message strict
  pub shorter : length strict ≤ taken
  pub kept : (m : Message) → Spells shortest m (take taken bytes) → strict ≡ take taken bytes

-- Whole with the strict spelling and how many bytes it represents; else the answer of the padded reading.
abbrev pub AnswersNormal : (bytes : List ℕ) → Scan (Vec ℕ Global × ℕ) → Type 0
AnswersNormal bytes (Whole found) = IsNormal bytes found.0.items found.1
AnswersNormal bytes More = Answers padded bytes More
AnswersNormal bytes (Refused place why) = Answers padded bytes (Refused place why)

-- To read a message takes memory, or one comes first whose spelling does.
abbrev pub WantsMemory : (bytes : List ℕ) → Type 0
WantsMemory bytes = TakesMemory padded bytes ⊎ ((message : Message) × (size : ℕ) × Found padded bytes message size)
