-- Which bytes may follow in a list of fields, and why a byte may not.
use Rattle.std.specs.Prelude.{◌≡◌, ℕ, ◌+◌, ◌*◌, ◌^◌, ◌-◌, ◌<◌, ◌==◌, ◌&&◌, nat_le, Bool, true, false, cond, Option, Some, None, List, [], ◌∷◌, ◌++◌, length, take, slice_get, suc}
use Rattle.zvt_bcd.specs.Digits.{is_digit_pair}
use Rattle.zvt_bcd.specs.LengthDigits.{AreLengthDigits, counted}
use Rattle.zvt_grammar.specs.declared.why.Why.{Why}
use Rattle.zvt_grammar.specs.declared.why.Why.TheVariants.{DoesNotFit, UnknownField, NotDigit, LengthDigit}
use Rattle.zvt_grammar.specs.Reading.{Reading}
use Rattle.zvt_grammar.specs.Tests.{check, fits}
use Rattle.zvt_tlv.specs.Judging.{avoids}
use Rattle.zvt_tlv.specs.Judging as tlv
use Rattle.zvt_tlv.specs.Sized.{PositionSized}
use Rattle.zvt_grammar.specs.Beginnings.{Alive, Place}
use Rattle.zvt_field.specs.declared.shapes.Shape.{Shape}
use Rattle.zvt_field.specs.declared.shapes.Shape.TheVariants.{Fixed, Digits, Ll, Lll, Tree}
use Rattle.zvt_field.specs.Shapes.{shape_of}
use Rattle.zvt_field.specs.Grammar.{Field, FieldList, Filled, IsHead}

-- The bytes can be completed to fields of exactly `room` bytes.
abbrev pub AliveIn : Reading → (room : ℕ) → List ℕ → Type 0
AliveIn r room bytes = Alive (Filled r room) bytes

-- The first byte after which no fields of exactly `room` bytes can follow.
abbrev pub PlaceIn : Reading → (room : ℕ) → List ℕ → ℕ → Type 0
PlaceIn r room bytes place = Place (Filled r room) bytes place × (place < room)

-- What part a byte plays: a name; a digit of a length, with that many digits after it and that number before it;
-- a byte of a content of digits or of any bytes; a byte of a container, by the part that it plays there and its depth.
pub data Role : Type 0 where
  name : Role
  digit : (more before : ℕ) → Role
  in_content : (digits : Bool) → Role
  in_container : (at : ℕ) → (role : tlv.Role) → Role

-- The number of digits of the length after a name of that shape.
abbrev pub count_digits : Option Shape → ℕ
count_digits None = 0
count_digits (Some (Fixed n)) = 0
count_digits (Some (Digits n)) = 0
count_digits (Some Ll) = 2
count_digits (Some Lll) = 3
count_digits (Some Tree) = 0

-- The beginning of a field whose content is bytes, before a byte of that role.
abbrev pub Begins : Role → List ℕ → Type 0
Begins name b = b ≡ []
Begins (digit more before) b =
    (bmp : ℕ) × (size : List ℕ) × (b ≡ bmp ∷ size) × (length size + suc more ≡ count_digits (shape_of bmp))
    × AreLengthDigits size × (counted 0 size ≡ before)
Begins (in_content digits) b =
    (bmp : ℕ) × (size : List ℕ) × (part : List ℕ) × (n : ℕ) × (b ≡ bmp ∷ (size ++ part)) × IsHead (shape_of bmp) digits n size × (length part < n)
Begins (in_container at role) b = ⊥

-- A field that begins there is after complete fields.
pub record Here (r : Reading) (room : ℕ) (bytes : List ℕ) (role : Role) (left : ℕ) : Type 0 where
  pub fields : List Field
  pub done : List ℕ
  pub beginning : List ℕ
  pub whole : bytes ≡ done ++ beginning
  pub spelled : FieldList r fields done
  pub begins : Begins role beginning
  pub filled : length bytes + suc left ≡ room

-- An open container after complete fields.
pub record Within (r : Reading) (room : ℕ) (openers : List tlv.Opener) (bytes : List ℕ) (at : ℕ) (role : tlv.Role) (left : ℕ) : Type 0 where
  pub fields : List Field
  pub done : List ℕ
  pub bmp : ℕ
  pub inside : List ℕ
  pub whole : bytes ≡ done ++ bmp ∷ inside
  pub spelled : FieldList r fields done
  pub is_tree : shape_of bmp ≡ Some Tree
  pub level : ℕ
  pub filled : length done + suc level ≡ room
  pub stands : PositionSized r level openers inside at role left

-- After the bytes, in a list of fields of `room` bytes, stands a byte of that role, and `left` bytes of its own level after it.
abbrev pub Position : Reading → (room : ℕ) → List tlv.Opener → List ℕ → Role → (left : ℕ) → Type 0
Position r room openers bytes name left = (openers ≡ []) × Here r room bytes name left
Position r room openers bytes (digit more before) left = (openers ≡ []) × Here r room bytes (digit more before) left
Position r room openers bytes (in_content digits) left = (openers ≡ []) × Here r room bytes (in_content digits) left
Position r room openers bytes (in_container at role) left = Within r room openers bytes at role left

-- Whether that many bytes can follow a name of that shape.
abbrev pub shape_fits : Reading → Shape → (left : ℕ) → Bool
shape_fits r (Fixed n) left = fits n left
shape_fits r (Digits n) left = fits n left
shape_fits r Ll left = nat_le 2 left
shape_fits r Lll left = nat_le 3 left
shape_fits r Tree left = avoids r true left 2

abbrev pub name_fault : Reading → Option Shape → (left : ℕ) → Option Why
name_fault r None left = Some UnknownField
name_fault r (Some shape) left = check (shape_fits r shape left) DoesNotFit None

-- Whether a content can follow whose length begins with that number and has that many more digits.
abbrev pub count_fits : (more number left : ℕ) → Bool
count_fits more number left = cond (more == 0) (fits number left) (nat_le (more + 10 ^ more * number) left)

abbrev pub is_length_digit : ℕ → Bool
is_length_digit x = nat_le 0xF0 x && nat_le x 0xF9

-- The tests of a byte by its role, and the reason of the first that fails.
abbrev pub fault : Reading → Role → (left byte : ℕ) → Option Why
fault r name left x = name_fault r (shape_of x) left
fault r (digit more before) left x =
    check (is_length_digit x) LengthDigit (check (count_fits more (10 * before + (x - 0xF0)) left) DoesNotFit None)
fault r (in_content true) left x = check (is_digit_pair x) NotDigit None
fault r (in_content false) left x = None
fault r (in_container at role) left x = tlv.fault r at role left x

-- The reason of the byte at the place, by the part that it plays there.
pub record WhyIn (r : Reading) (room : ℕ) (bytes : List ℕ) (place : ℕ) (why : Why) : Type 0 where
  pub openers : List tlv.Opener
  pub role : Role
  pub left : ℕ
  pub byte : ℕ
  pub stands : Position r room openers (take place bytes) role left
  pub is_byte : slice_get bytes place ≡ Some byte
  pub fails : fault r role left byte ≡ Some why
