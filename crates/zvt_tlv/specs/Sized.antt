-- A length and the objects that it counts, within a room.
use Rattle.std.specs.Prelude.{◌≡◌, ◌≢◌, ℕ, ◌+◌, ◌<◌, ◌≤◌, Some, List, [], ◌∷◌, ◌++◌, length, take, slice_get, suc}
use Rattle.zvt_grammar.specs.declared.why.Why.{Why}
use Rattle.zvt_grammar.specs.declared.answer.Scan.{Scan}
use Rattle.zvt_grammar.specs.declared.answer.Scan.TheVariants.{Whole, More, Refused}
use Rattle.zvt_grammar.specs.Reading.{Reading}
use Rattle.zvt_tlv.specs.Grammar.{Objects, IsLength, Spells}
use Rattle.zvt_tlv.specs.Judging.{Role, Begins, Opener, Position, fault}
use Rattle.zvt_tlv.specs.Answers.{TakesMemory}
use Rattle.zvt_grammar.specs.Beginnings.{Alive, NoneWhole, Unfinished, Place}

-- A length, then objects of that size at depth 1.
pub record Sized (r : Reading) (objects : Objects) (bytes : List ℕ) : Type 0 where
  pub size : List ℕ
  pub content : List ℕ
  pub whole : bytes ≡ size ++ content
  pub is_length : IsLength r (length content) size
  pub inside : Spells r 1 objects content

-- The same in a room of that many bytes, of which not a single one is left over.
pub record SizedIn (r : Reading) (room : ℕ) (objects : Objects) (bytes : List ℕ) : Type 0 where
  pub spelled : Sized r objects bytes
  pub left : ℕ
  pub filled : length bytes + left ≡ room
  pub apart : left ≢ 1

-- After these bytes stands a byte of that role, itself at depth `at`, and `left` bytes of its own level after it.
-- A byte of the length is as after a tag of one byte that says constructed; the first opener's tag is not looked at.
abbrev pub PositionSized : Reading → (room : ℕ) → List Opener → List ℕ → (at : ℕ) → Role → (left : ℕ) → Type 0
PositionSized r room [] bytes at role left = Begins r 0 role (0x25 ∷ bytes) × (length bytes + suc left ≡ room) × (at ≡ 0)
PositionSized r room (o ∷ os) bytes at role left =
    (inside : List ℕ) × (bytes ≡ o.size ++ inside) × IsLength r o.content o.size × (length inside < o.content) × Position r 1 o.content os inside at role left

-- The reason of the byte at the place, by the part that it plays there.
pub record WhySized (r : Reading) (room : ℕ) (bytes : List ℕ) (place : ℕ) (why : Why) : Type 0 where
  pub openers : List Opener
  pub at : ℕ
  pub role : Role
  pub left : ℕ
  pub byte : ℕ
  pub stands : PositionSized r room openers (take place bytes) at role left
  pub is_byte : slice_get bytes place ≡ Some byte
  pub fails : fault r at role left byte ≡ Some why

-- A length and its objects come first, and fit the room.
pub record SizedFound (r : Reading) (room : ℕ) (bytes : List ℕ) (objects : Objects) (size : ℕ) : Type 0 where
  pub present : size ≤ length bytes
  pub spelled : SizedIn r room objects (take size bytes)

-- Whole with what is found; More where more is needed; else the place and the reason.
abbrev pub AnswersSized : Reading → (room : ℕ) → (bytes : List ℕ) → Scan (Objects × ℕ) → Type 0
AnswersSized r room bytes (Whole found) = SizedFound r room bytes found.0 found.1
AnswersSized r room bytes More = Unfinished (SizedIn r room) bytes
AnswersSized r room bytes (Refused place why) =
    NoneWhole (SizedIn r room) bytes × Place (SizedIn r room) bytes place × WhySized r room bytes place why

-- A length comes first, and the bytes are alive after it.
pub record SizeFound (r : Reading) (room : ℕ) (bytes : List ℕ) (size content : ℕ) : Type 0 where
  pub present : size ≤ length bytes
  pub is_length : IsLength r content (take size bytes)
  pub alive : Alive (SizedIn r room) (take size bytes)

abbrev pub AnswersSize : Reading → (room : ℕ) → (bytes : List ℕ) → Scan (ℕ × ℕ) → Type 0
AnswersSize r room bytes (Whole found) = SizeFound r room bytes found.0 found.1
AnswersSize r room bytes More = Unfinished (SizedIn r room) bytes
AnswersSize r room bytes (Refused place why) =
    NoneWhole (SizedIn r room) bytes × Place (SizedIn r room) bytes place × WhySized r room bytes place why

-- A length comes first, and objects that it counts take memory.
pub record SizedTakesMemory (r : Reading) (bytes : List ℕ) : Type 0 where
  pub size : List ℕ
  pub content : ℕ
  pub trailing : List ℕ
  pub whole : bytes ≡ size ++ trailing
  pub is_length : IsLength r content size
  pub inside : TakesMemory r content trailing
