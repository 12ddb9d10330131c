-- The spelling of lists of fields: the name, a length where the content has one, the content (PA00P015, list of bitmaps).
use Rattle.std.specs.Prelude.{◌≡◌, ℕ, Bool, true, false, Option, Some, None, List, [], ◌∷◌, ◌++◌, length}
use Rattle.std.specs.Coded.{Coded, code_by, coded×, coded⊎, coded_ℕ, coded_list}
use Rattle.std.proofs.Common.{◌⊎◌, inl, inr, refl}
use Rattle.zvt_bcd.specs.Digits.{AreDigits}
use Rattle.zvt_bcd.specs.LengthDigits.{IsCount}
use Rattle.zvt_grammar.specs.Reading.{Reading, AreBytes}
use Rattle.zvt_tlv.specs.Grammar.{Objects}
use Rattle.zvt_tlv.specs.Coding.{objects_code}
use Rattle.zvt_tlv.specs.Sized.{Sized}
use Rattle.zvt_field.specs.declared.shapes.Shape.{Shape}
use Rattle.zvt_field.specs.declared.shapes.Shape.TheVariants.{Fixed, Digits, Ll, Lll, Tree}
use Rattle.zvt_field.specs.Shapes.{shape_of}

-- A field: its name, and its content, which is bytes or objects.
pub data Field : Type 0 where
  plain : (bmp : ℕ) → (content : List ℕ) → Field
  tree : (bmp : ℕ) → (objects : Objects) → Field

-- What is between a name of that shape and a content of n bytes; the flag says that digits are demanded.
abbrev pub IsHead : Option Shape → (digits : Bool) → ℕ → List ℕ → Type 0
IsHead None digits n size = ⊥
IsHead (Some (Fixed m)) digits n size = (digits ≡ false) × (n ≡ m) × (size ≡ [])
IsHead (Some (Digits m)) digits n size = (digits ≡ true) × (n ≡ m) × (size ≡ [])
IsHead (Some Ll) digits n size = (digits ≡ false) × IsCount 2 n size
IsHead (Some Lll) digits n size = (digits ≡ false) × IsCount 3 n size
IsHead (Some Tree) digits n size = ⊥

abbrev pub IsContent : (digits : Bool) → List ℕ → Type 0
IsContent true content = AreDigits content
IsContent false content = AreBytes content

-- The spelling of a field whose content is bytes.
pub record Plain (bmp : ℕ) (content bytes : List ℕ) : Type 0 where
  pub digits : Bool
  pub size : List ℕ
  pub whole : bytes ≡ bmp ∷ (size ++ content)
  pub is_head : IsHead (shape_of bmp) digits (length content) size
  pub is_content : IsContent digits content

-- The spelling of a field whose content is objects.
pub record Container (r : Reading) (bmp : ℕ) (objects : Objects) (bytes : List ℕ) : Type 0 where
  pub one : List ℕ
  pub whole : bytes ≡ bmp ∷ one
  pub is_tree : shape_of bmp ≡ Some Tree
  pub sized : Sized r objects one

abbrev pub FieldOf : Reading → Field → List ℕ → Type 0
FieldOf r (plain bmp content) bytes = Plain bmp content bytes
FieldOf r (tree bmp objects) bytes = Container r bmp objects bytes

-- The fields one after another.
abbrev pub FieldList : Reading → List Field → List ℕ → Type 0
FieldList r [] bytes = bytes ≡ []
FieldList r (field ∷ fields) bytes =
    (one : List ℕ) × (after : List ℕ) × (bytes ≡ one ++ after) × FieldOf r field one × FieldList r fields after

-- The same in exactly that many bytes.
abbrev pub Filled : Reading → (room : ℕ) → List Field → List ℕ → Type 0
Filled r room fields bytes = FieldList r fields bytes × (length bytes ≡ room)

-- How the logic stores a field.
abbrev field_parts : Field → (ℕ × List ℕ) ⊎ (ℕ × Objects)
field_parts (plain bmp content) = inl (bmp, content)
field_parts (tree bmp objects) = inr (bmp, objects)

abbrev field_from : (ℕ × List ℕ) ⊎ (ℕ × Objects) → Field
field_from (inl p) = plain p.0 p.1
field_from (inr p) = tree p.0 p.1

pub field-back : (f : Field) → field_from (field_parts f) ≡ f
field-back (plain bmp content) = refl
field-back (tree bmp objects) = refl

abbrev pub field_code : Coded Field
field_code =
    code_by ((ℕ × List ℕ) ⊎ (ℕ × Objects)) (coded⊎ (coded× coded_ℕ (coded_list coded_ℕ)) (coded× coded_ℕ objects_code)) field_parts field_from field-back
