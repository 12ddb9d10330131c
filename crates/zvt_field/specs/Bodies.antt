-- A field by its name and body.
use Rattle.std.specs.Prelude.{◌≡◌, ℕ, ◌<◌, ◌+◌, ◌^◌, ◌==◌, nat_lt, Bool, true, false, Some, None, List, length}
use Rattle.zvt_bcd.specs.Digits.{AreDigits}
use Rattle.zvt_grammar.specs.Reading.{shortest, AreBytes}
use Rattle.zvt_tlv.specs.Sizes.{size_of, length_size}
use Rattle.zvt_tlv.specs.Spelled as tlv
use Rattle.zvt_field.specs.declared.bodies.FieldBody.{FieldBody}
use Rattle.zvt_field.specs.declared.bodies.FieldBody.TheVariants.{Bytes, Tree}
use Rattle.zvt_field.specs.declared.bodies.BadField.{BadField}
use Rattle.zvt_field.specs.declared.bodies.BadField.TheVariants.{Unknown, Size, NotDigit}
use Rattle.zvt_field.specs.declared.shapes.Shape.{Shape}
use Rattle.zvt_field.specs.declared.shapes.Shape.TheVariants as shape
use Rattle.zvt_field.specs.Shapes.{shape_of}
use Rattle.zvt_field.specs.Grammar.{Field, plain, tree, FieldOf, FieldList}

-- The field of that name and body.
abbrev pub field_of : ℕ → FieldBody → Field
field_of bmp (Bytes v) = plain bmp v.items
field_of bmp (Tree objects) = tree bmp objects

abbrev pub name_of : Field → ℕ
name_of (plain bmp content) = bmp
name_of (tree bmp objects) = bmp

-- The field has a spelling, of at most 65,535 bytes.
pub record HasSpelling (field : Field) : Type 0 where
  pub bytes : List ℕ
  pub spelled : FieldOf shortest field bytes
  pub small : length bytes < 2 ^ 16

-- The fields have a spelling together, of at most 65,535 bytes.
pub record HaveSpelling (fields : List Field) : Type 0 where
  pub bytes : List ℕ
  pub spelled : FieldList shortest fields bytes
  pub small : length bytes < 2 ^ 16

-- The parts that a field is made of: bytes, or objects that have a spelling.
abbrev pub AreParts : Field → Type 0
AreParts (plain bmp content) = AreBytes content
AreParts (tree bmp objects) = tlv.HasSpelling objects

-- Whether a body has the size that the shape asks for.
abbrev pub size_agrees : Shape → Field → Bool
size_agrees (shape.Fixed n) (plain bmp content) = length content == n
size_agrees (shape.Digits n) (plain bmp content) = length content == n
size_agrees shape.Ll (plain bmp content) = nat_lt (length content) 100
size_agrees shape.Lll (plain bmp content) = nat_lt (length content) 1000
size_agrees shape.Tree (plain bmp content) = false
size_agrees (shape.Fixed n) (tree bmp objects) = false
size_agrees (shape.Digits n) (tree bmp objects) = false
size_agrees shape.Ll (tree bmp objects) = false
size_agrees shape.Lll (tree bmp objects) = false
size_agrees shape.Tree (tree bmp objects) = nat_lt (1 + (length_size (size_of objects) + size_of objects)) 65536

-- Digits stand where they are demanded.
abbrev pub DigitsAgree : Shape → Field → Type 0
DigitsAgree (shape.Digits n) (plain bmp content) = AreDigits content
DigitsAgree (shape.Digits n) (tree bmp objects) = Unit {0}
DigitsAgree (shape.Fixed n) field = Unit {0}
DigitsAgree shape.Ll field = Unit {0}
DigitsAgree shape.Lll field = Unit {0}
DigitsAgree shape.Tree field = Unit {0}

-- The first fault of a field of that name.
abbrev pub HasFault : ℕ → Field → BadField → Type 0
HasFault bmp field Unknown = shape_of bmp ≡ None
HasFault bmp field Size = (shape : Shape) × (shape_of bmp ≡ Some shape) × (size_agrees shape field ≡ false)
HasFault bmp field NotDigit = (shape : Shape) × (shape_of bmp ≡ Some shape) × (size_agrees shape field ≡ true) × (DigitsAgree shape field → ⊥)
