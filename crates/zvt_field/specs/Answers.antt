-- What the reader answers, in the terms of the grammar.
use Rattle.std.specs.Prelude.{◌≡◌, ◌≢◌, ◌⊎◌, ℕ, ◌+◌, ◌*◌, ◌-◌, ◌==◌, ◌<◌, ◌≤◌, Bool, true, false, cond, Some, None, Result, Ok, Err, List, [], ◌∷◌, ◌++◌, length, take, suc}
use Rattle.zvt_grammar.specs.declared.why.Why.{Why}
use Rattle.zvt_grammar.specs.declared.answer.Scan.{Scan}
use Rattle.zvt_grammar.specs.declared.answer.Scan.TheVariants.{Whole, More, Refused}
use Rattle.zvt_grammar.specs.Reading.{Reading, shortest}
use Rattle.zvt_grammar.specs.Beginnings.{Alive, NoneWhole}
use Rattle.zvt_grammar.specs.Cuts.{Cut}
use Rattle.zvt_tlv.specs.Sized.{SizedIn, SizedTakesMemory}
use Rattle.zvt_field.specs.Grammar.{Field, FieldOf, FieldList, IsHead}
use Rattle.zvt_field.specs.declared.shapes.Shape.{Shape}
use Rattle.zvt_field.specs.declared.shapes.Shape.TheVariants.{Fixed, Digits, Ll, Lll, Tree}
use Rattle.zvt_field.specs.declared.judge.LlAt.{LlAt}
use Rattle.zvt_field.specs.declared.judge.LlNext.{LlNext}
use Rattle.zvt_field.specs.declared.judge.LlNext.TheVariants.{Done, More as Another}
use Rattle.zvt_field.specs.declared.reader.Head.{Head}
use Rattle.zvt_field.specs.Shapes.{shape_of}
use Rattle.zvt_field.specs.Judging.{AliveIn, PlaceIn, WhyIn, name, digit, in_content, count_digits, fault}

-- Whole with the fields that fill the room; More where the bytes are too few and alive; else the place and the reason.
abbrev pub Answers : Reading → (room : ℕ) → (bytes : List ℕ) → Scan (List Field) → Type 0
Answers r room bytes (Whole fields) = (room ≤ length bytes) × FieldList r fields (take room bytes)
Answers r room bytes More = (length bytes < room) × AliveIn r room bytes
Answers r room bytes (Refused place why) = PlaceIn r room bytes place × WhyIn r room bytes place why

-- A field comes first, and not a single byte is left over after it.
pub record FieldFound (r : Reading) (room : ℕ) (bytes : List ℕ) (field : Field) (size : ℕ) : Type 0 where
  pub present : size ≤ length bytes
  pub spelled : FieldOf r field (take size bytes)
  pub left : ℕ
  pub filled : size + left ≡ room
  pub apart : left ≢ 1

-- The first field is found; else none is whole in the bytes, or before the place.
abbrev pub AnswersOne : Reading → (room : ℕ) → (bytes : List ℕ) → Scan (Field × ℕ) → Type 0
AnswersOne r room bytes (Whole found) = FieldFound r room bytes found.0 found.1
AnswersOne r room bytes More = (length bytes < room) × AliveIn r room bytes × NoneWhole (FieldOf r) bytes
AnswersOne r room bytes (Refused place why) =
    PlaceIn r room bytes place × WhyIn r room bytes place why × NoneWhole (FieldOf r) (take place bytes)

-- What comes before a content comes first, and the bytes are alive after it.
pub record HeadFound (r : Reading) (room : ℕ) (bytes : List ℕ) (head : Head) : Type 0 where
  pub bmp : ℕ
  pub size : List ℕ
  pub present : head.start ≤ length bytes
  pub whole : take head.start bytes ≡ bmp ∷ size
  pub is_head : IsHead (shape_of bmp) head.digits head.size size
  pub alive : AliveIn r room (take head.start bytes)

abbrev pub AnswersHead : Reading → (room : ℕ) → (bytes : List ℕ) → Scan Head → Type 0
AnswersHead r room bytes (Whole head) = HeadFound r room bytes head
AnswersHead r room bytes More = (length bytes < room) × AliveIn r room bytes × NoneWhole (FieldOf r) bytes
AnswersHead r room bytes (Refused place why) =
    PlaceIn r room bytes place × WhyIn r room bytes place why × NoneWhole (FieldOf r) (take place bytes)

-- A name whose length has that many digits comes first, and is alive.
pub record InName (r : Reading) (room : ℕ) (bytes : List ℕ) (digits : ℕ) : Type 0 where
  pub bmp : ℕ
  pub whole : take 1 bytes ≡ bmp ∷ []
  pub counts : count_digits (shape_of bmp) ≡ digits
  pub alive : AliveIn r room (bmp ∷ [])

-- A container's name comes first, and is alive.
pub record InContainer (r : Reading) (room : ℕ) (bytes : List ℕ) : Type 0 where
  pub bmp : ℕ
  pub inside : List ℕ
  pub whole : bytes ≡ bmp ∷ inside
  pub is_tree : shape_of bmp ≡ Some Tree
  pub level : ℕ
  pub filled : suc level ≡ room
  pub begun : Alive (SizedIn r level) []

-- A byte's tests, and what they let through.
abbrev pub JudgesBmp : Reading → (left byte : ℕ) → Result Shape Why → Type 0
JudgesBmp r left byte (Ok shape) = (fault r name left byte ≡ None) × (shape_of byte ≡ Some shape)
JudgesBmp r left byte (Err why) = fault r name left byte ≡ Some why

-- A digit and a content of bytes have the same tests in both readings.

abbrev pub JudgesDigit : (more before left byte : ℕ) → Result ℕ Why → Type 0
JudgesDigit more before left byte (Ok number) = (fault shortest (digit more before) left byte ≡ None) × (number ≡ 10 * before + (byte - 0xF0))
JudgesDigit more before left byte (Err why) = fault shortest (digit more before) left byte ≡ Some why

-- The number with a digit after it: the length is whole after its last digit.
abbrev pub after_digit : LlAt → (byte : ℕ) → LlNext
after_digit at byte = cond (at.digits_left == 1) (Done (10 * at.so_far + (byte - 0xF0))) (Another (record { digits_left = at.digits_left - 1; so_far = 10 * at.so_far + (byte - 0xF0) }))

abbrev pub JudgesLl : LlAt → (left byte : ℕ) → Result LlNext Why → Type 0
JudgesLl at left byte (Ok next) = (fault shortest (digit (at.digits_left - 1) at.so_far) left byte ≡ None) × (next ≡ after_digit at byte)
JudgesLl at left byte (Err why) = fault shortest (digit (at.digits_left - 1) at.so_far) left byte ≡ Some why

-- Whether the content of a field of that shape is digits.
abbrev pub has_digits : Shape → Bool
has_digits (Fixed n) = false
has_digits (Digits n) = true
has_digits Ll = false
has_digits Lll = false
has_digits Tree = false

abbrev pub JudgesContent : (digits : Bool) → (byte : ℕ) → Result Unit Why → Type 0
JudgesContent digits byte (Ok _) = (left : ℕ) → fault shortest (in_content digits) left byte ≡ None
JudgesContent digits byte (Err why) = (left : ℕ) → fault shortest (in_content digits) left byte ≡ Some why

-- A whole field comes first; or a container's name does, and objects in it that take memory.
abbrev pub HoldsField : Reading → List ℕ → Type 0
HoldsField r bytes = (field : Field) × (prefix : List ℕ) × (rest : List ℕ) × (bytes ≡ prefix ++ rest) × FieldOf r field prefix

abbrev pub HoldsObjects : Reading → List ℕ → Type 0
HoldsObjects r bytes = (bmp : ℕ) × (inside : List ℕ) × (bytes ≡ bmp ∷ inside) × (shape_of bmp ≡ Some Tree) × SizedTakesMemory r inside

abbrev pub HoldsSome : Reading → List ℕ → Type 0
HoldsSome r bytes = HoldsField r bytes ⊎ HoldsObjects r bytes

-- To keep what was read of a room takes memory.
abbrev pub TakesMemory : Reading → (room : ℕ) → List ℕ → Type 0
TakesMemory r room bytes = (0 < room) × HoldsSome r bytes

-- The whole fields at the start of the bytes: after them no field is whole.
abbrev pub Begun : Reading → List ℕ → List Field → Type 0
Begun r bytes fields = (rest : List ℕ) × Cut (FieldOf r) bytes fields rest
