-- The position of a judge: the role of the next byte, the number of bytes missing in the innermost level, and for each
-- level around it the number missing after the level inside.
use Rattle.std.specs.Prelude.{◌≡◌, ◌≢◌, ℕ, ◌+◌, ◌-◌, ◌<◌, ◌≤◌, suc, zero, Bool, true, false, Some, List, [], ◌∷◌, ◌++◌, length}
use Rattle.zvt_grammar.specs.Reading.{Reading, AreBytes}
use Rattle.zvt_tlv.specs.Grammar as tlv
use Rattle.zvt_tlv.specs.Grammar.{Objects, IsLength}
use Rattle.zvt_tlv.specs.Judging.{Tagged}
use Rattle.zvt_tlv.specs.Judging as object
use Rattle.zvt_tlv.specs.Answers.{role_of_tag, role_of_length}
use Rattle.zvt_tlv.specs.declared.judge.LengthAt.{LengthAt}
use Rattle.zvt_field.specs.declared.shapes.Shape.TheVariants.{Tree}
use Rattle.zvt_field.specs.Shapes.{shape_of}
use Rattle.zvt_field.specs.Grammar.{Field, FieldList, IsHead, IsContent}
use Rattle.zvt_field.specs.Judging as field
use Rattle.zvt_apdu.specs.Grammar.{IsFrameLength}
use Rattle.zvt_apdu.specs.declared.frame.Layout.{Layout}
use Rattle.zvt_apdu.specs.Judging.{layout_of, head_size, can_fill}
use Rattle.zvt_apdu.specs.Judging as message
use Rattle.zvt_stream.specs.Parts.{At}
use Rattle.zvt_stream.specs.Parts as at

-- The length of a message is complete, and these bytes of its data.
pub record Begun (r : Reading) (n : ℕ) (inside bytes : List ℕ) : Type 0 where
  pub high : ℕ
  pub low : ℕ
  pub size : List ℕ
  pub whole : bytes ≡ high ∷ low ∷ (size ++ inside)
  pub are_bytes : (high < 256) × (low < 256)
  pub is_size : IsFrameLength r n size
  pub fills : can_fill (layout_of high low n) n ≡ true

abbrev pub layout_in : {r : Reading} {n : ℕ} {inside bytes : List ℕ} → Begun r n inside bytes → Layout
layout_in {n = n} b = layout_of b.high b.low n

-- The message is complete.
pub record IsFull (r : Reading) (bytes : List ℕ) : Type 0 where
  pub n : ℕ
  pub inside : List ℕ
  pub begun : Begun r n inside bytes
  pub full : length inside ≡ n

-- Data without fields has begun.
pub record AtPayload (r : Reading) (left : ℕ) (bytes : List ℕ) : Type 0 where
  pub n : ℕ
  pub inside : List ℕ
  pub begun : Begun r n inside bytes
  pub no_fields : (layout_in begun).fields ≡ false
  pub filled : length inside + left ≡ n

-- Data with fields has begun: this many bytes, and then this many bytes of digits, come before the fields.
pub record AtHead (r : Reading) (free digits left : ℕ) (bytes : List ℕ) : Type 0 where
  pub n : ℕ
  pub inside : List ℕ
  pub begun : Begun r n inside bytes
  pub has_fields : (layout_in begun).fields ≡ true
  pub filled : length inside + left ≡ n
  pub sized : length inside + (free + digits) ≡ head_size (layout_in begun)
  pub free_first : 0 < free → digits ≡ (layout_in begun).digits
  pub digits_last : digits ≤ (layout_in begun).digits

-- The fields have begun: this part of their `room` bytes.
pub record Fields (r : Reading) (room : ℕ) (part bytes : List ℕ) : Type 0 where
  pub n : ℕ
  pub head : List ℕ
  pub begun : Begun r n (head ++ part) bytes
  pub has_fields : (layout_in begun).fields ≡ true
  pub sized : length head ≡ head_size (layout_in begun)
  pub filled : length head + room ≡ n

-- A container of `room` bytes after complete fields, and that many bytes after it.
pub record Contained (r : Reading) (trailing : ℕ) (Outer : (room : ℕ) → (part : List ℕ) → Type 0) (room : ℕ) (inside : List ℕ) : Type 0 where
  pub around : ℕ
  pub part : List ℕ
  pub outer : Outer around part
  pub fields : List Field
  pub done : List ℕ
  pub bmp : ℕ
  pub size : List ℕ
  pub whole : part ≡ done ++ bmp ∷ (size ++ inside)
  pub spelled : FieldList r fields done
  pub is_tree : shape_of bmp ≡ Some Tree
  pub is_length : IsLength r room size
  pub filled : length done + suc (length size + (room + trailing)) ≡ around
  pub apart : trailing ≢ 1

-- An object of `room` bytes of objects after complete objects, and that many bytes after it.
pub record Nested (r : Reading) (depth trailing : ℕ) (Outer : (room : ℕ) → (part : List ℕ) → Type 0) (room : ℕ) (inside : List ℕ) : Type 0 where
  pub around : ℕ
  pub part : List ℕ
  pub outer : Outer around part
  pub items : Objects
  pub done : List ℕ
  pub tag : List ℕ
  pub size : List ℕ
  pub whole : part ≡ done ++ (tag ++ (size ++ inside))
  pub spelled : tlv.Spells r depth items done
  pub tagged : Tagged depth true tag
  pub is_length : IsLength r room size
  pub filled : length done + (length tag + (length size + (room + trailing))) ≡ around
  pub apart : trailing ≢ 1

-- The depth of the innermost level: 0 for the fields.
abbrev pub depth_of : (outer : List ℕ) → ℕ
depth_of [] = 0
depth_of (k ∷ []) = 0
depth_of (k ∷ j ∷ ks) = suc (depth_of (j ∷ ks))

-- The innermost level has `room` bytes, and these of them have arrived. The levels around it are listed from the inside out.
abbrev pub Level : Reading → List ℕ → (outer : List ℕ) → (room : ℕ) → (inside : List ℕ) → Type 0
Level r bytes [] room inside = ⊥
Level r bytes (k ∷ []) room inside = (k ≡ 0) × Fields r room inside bytes
Level r bytes (k ∷ j ∷ []) room inside = Contained r k (Level r bytes (j ∷ [])) room inside
Level r bytes (k ∷ j ∷ i ∷ ks) room inside = Nested r (depth_of (j ∷ i ∷ ks)) k (Level r bytes (j ∷ i ∷ ks)) room inside

-- Complete fields and the beginning of one.
pub record AtField (r : Reading) (left : ℕ) (bytes : List ℕ) (Beginning : List ℕ → Type 0) : Type 0 where
  pub room : ℕ
  pub part : List ℕ
  pub level : Fields r room part bytes
  pub fields : List Field
  pub done : List ℕ
  pub beginning : List ℕ
  pub whole : part ≡ done ++ beginning
  pub spelled : FieldList r fields done
  pub begins : Beginning beginning
  pub filled : length part + left ≡ room

-- Complete objects and the beginning of one.
pub record AtObject (r : Reading) (left : ℕ) (outer : List ℕ) (bytes : List ℕ) (Beginning : List ℕ → Type 0) : Type 0 where
  pub room : ℕ
  pub part : List ℕ
  pub level : Level r bytes outer room part
  pub items : Objects
  pub done : List ℕ
  pub beginning : List ℕ
  pub whole : part ≡ done ++ beginning
  pub spelled : tlv.Spells r (depth_of outer) items done
  pub begins : Beginning beginning
  pub filled : length part + left ≡ room

-- The next item has not begun.
abbrev pub IsEmpty : List ℕ → Type 0
IsEmpty s = s ≡ []

-- An item is complete, and `left` bytes of its level are missing.
abbrev pub Between : Reading → (left : ℕ) → (outer : List ℕ) → (bytes : List ℕ) → Type 0
Between r left [] bytes = (left ≡ 0) × IsFull r bytes
Between r left (k ∷ []) bytes = (k ≡ 0) × (left ≢ 1) × AtField r left bytes IsEmpty
Between r left (k ∷ j ∷ ks) bytes = (left ≢ 1) × AtObject r left (k ∷ j ∷ ks) bytes IsEmpty

-- The level is one of objects.
abbrev pub HoldsObjects : (outer : List ℕ) → Type 0
HoldsObjects [] = ⊥
HoldsObjects (k ∷ []) = ⊥
HoldsObjects (k ∷ j ∷ ks) = Unit {0}

-- A content that lacks this many bytes fits the level.
abbrev pub HasRoom : (more left : ℕ) → Type 0
HasRoom more left = (0 < more) × ((over : ℕ) × (left ≡ more + over) × (over ≢ 1))

-- The start of a field, with some of its content.
abbrev pub FieldContent : (digits : Bool) → (more : ℕ) → List ℕ → Type 0
FieldContent digits more b =
    (bmp : ℕ) × (size : List ℕ) × (part : List ℕ) × (n : ℕ) × (b ≡ bmp ∷ (size ++ part)) × IsHead (shape_of bmp) digits n size × (length part + more ≡ n) × IsContent digits part

-- A container's name and the beginning of its length.
abbrev pub ContainerLength : Reading → LengthAt → List ℕ → Type 0
ContainerLength r at b =
    (bmp : ℕ) × (size : List ℕ) × (b ≡ bmp ∷ size) × (shape_of bmp ≡ Some Tree) × object.Begins r 0 (role_of_length true at) (0x25 ∷ size)

-- The start of an object, with some of its content.
abbrev pub ObjectContent : Reading → (depth more : ℕ) → List ℕ → Type 0
ObjectContent r depth more b =
    (tag : List ℕ) × (size : List ℕ) × (part : List ℕ) × (n : ℕ) × (b ≡ tag ++ (size ++ part)) × Tagged depth false tag × IsLength r n size × (length part + more ≡ n) × AreBytes part

-- The missing digits of a length fit the level, and the length has at most three digits.
abbrev pub HasDigits : (more before left : ℕ) → Type 0
HasDigits zero before left = (1 ≤ left) × (before ≤ 99)
HasDigits (suc zero) before left = (2 ≤ left) × (before ≤ 9)
HasDigits (suc (suc zero)) before left = (3 ≤ left) × (before ≡ 0)
HasDigits (suc (suc (suc more))) before left = ⊥

-- What the role of the next byte says about the bytes before it.
abbrev pub Where : Reading → At → (left : ℕ) → (outer : List ℕ) → (bytes : List ℕ) → Type 0
Where r at.FirstControl left outer b = (outer ≡ []) × (b ≡ [])
Where r (at.SecondControl high) left outer b = (outer ≡ []) × (b ≡ high ∷ []) × (high < 256)
Where r (at.FirstSize high low) left outer b = (outer ≡ []) × (b ≡ high ∷ low ∷ []) × (high < 256) × (low < 256)
Where r (at.LowSize high low) left outer b = (outer ≡ []) × (b ≡ high ∷ low ∷ 0xFF ∷ []) × (high < 256) × (low < 256)
Where r (at.HighSize high low size_low) left outer b =
    (outer ≡ []) × (b ≡ high ∷ low ∷ 0xFF ∷ size_low ∷ []) × (high < 256) × (low < 256) × (size_low < 256)
Where r at.Payload left outer b = (outer ≡ []) × (0 < left) × AtPayload r left b
Where r (at.Head free digits) left outer b = (outer ≡ []) × (0 < free + digits) × (free + digits ≤ left) × AtHead r free digits left b
Where r at.Name left outer b = (outer ≡ 0 ∷ []) × (2 ≤ left) × AtField r left b IsEmpty
Where r (at.Digit more before) left outer b = (outer ≡ 0 ∷ []) × HasDigits more before left × AtField r left b (field.Begins (field.digit more before))
Where r (at.Content digits more) left outer b = (outer ≡ 0 ∷ []) × HasRoom more left × AtField r left b (FieldContent digits more)
Where r (at.Container at) left outer b = (outer ≡ 0 ∷ []) × (1 ≤ left) × AtField r left b (ContainerLength r at)
Where r (at.Tag at) left outer b = HoldsObjects outer × (2 ≤ left) × AtObject r left outer b (object.Begins r (depth_of outer) (role_of_tag at))
Where r (at.Length nests at) left outer b = HoldsObjects outer × (1 ≤ left) × AtObject r left outer b (object.Begins r (depth_of outer) (role_of_length nests at))
Where r (at.Object more) left outer b = HoldsObjects outer × HasRoom more left × AtObject r left outer b (ObjectContent r (depth_of outer) more)

-- The role of the next byte, in the terms of the grammar.
abbrev pub role_of : At → (left depth : ℕ) → message.Role
role_of at.FirstControl left depth = message.first_control
role_of (at.SecondControl high) left depth = message.second_control
role_of (at.FirstSize high low) left depth = message.first_size high low
role_of (at.LowSize high low) left depth = message.low_size high low
role_of (at.HighSize high low size_low) left depth = message.high_size high low size_low
role_of at.Payload left depth = message.free
role_of (at.Head zero digits) left depth = message.digit
role_of (at.Head (suc free) digits) left depth = message.free
role_of at.Name left depth = message.in_fields field.name (left - 1)
role_of (at.Digit more before) left depth = message.in_fields (field.digit more before) (left - 1)
role_of (at.Content digits more) left depth = message.in_fields (field.in_content digits) (left - 1)
role_of (at.Container at) left depth = message.in_fields (field.in_container 0 (role_of_length true at)) (left - 1)
role_of (at.Tag at) left depth = message.in_fields (field.in_container depth (role_of_tag at)) (left - 1)
role_of (at.Length nests at) left depth = message.in_fields (field.in_container depth (role_of_length nests at)) (left - 1)
role_of (at.Object more) left depth = message.in_fields (field.in_container depth object.in_content) (left - 1)
