-- The bytes that a stream keeps, and the message that it lends.
use Rattle.std.specs.Prelude.{◌≡◌, ℕ, Bool, true, false, Option, Some, None, List, []}
use mathlib.Core.HLevel.{Π_prop}
use Rattle.std.proofs.Common.{refl}
use Rattle.zvt_apdu.specs.Message.{Message}
use Rattle.zvt_apdu.specs.Views.{MessageBytes, message_once}
use Rattle.zvt_stream.specs.Head.{head_of}
use Rattle.zvt_stream.specs.LineReading.{kind_named, stand_in}

-- The stored bytes, the capacity, and the bytes of the refused message.
pub record HeldState : Type 0 where
  pub bytes : List ℕ
  pub room : ℕ
  pub refused : List ℕ

-- Lent bytes spell a message, unless they were refused.
abbrev pub LentBytes : (has_message refused : Bool) → List ℕ → Type 0
LentBytes has_message refused bytes = has_message ≡ true → refused ≡ false → MessageBytes bytes

pub lent_once : (has_message refused : Bool) (bytes : List ℕ) → (a b : LentBytes has_message refused bytes) → a ≡ b
lent_once has_message refused bytes = Π_prop (λ _. Π_prop (λ _. message_once bytes))

-- The lent message: the one that the bytes spell, or the stand-in of a refused frame.
abbrev pub lent_of : (has_message refused : Bool) → (bytes : List ℕ) → LentBytes has_message refused bytes → Option Message
lent_of true false bytes spelled = Some (spelled refl refl).0
lent_of true true bytes spelled = Some (stand_in (kind_named (head_of bytes)))
lent_of false refused bytes spelled = None

-- The held bytes of an unfinished message: none while a message is lent.
abbrev pub held_of : (has_message : Bool) → List ℕ → List ℕ
held_of true bytes = []
held_of false bytes = bytes
