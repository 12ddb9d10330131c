-- What views of bytes that spell fields hold.
use Rattle.std.specs.Prelude.{◌≡◌, ℕ, false, Option, Some, None, List, [], ◌++◌, length}
use Rattle.std.specs.Coded.{Coded-set, coded_list}
use mathlib.Core.HLevel.{Σ_prop_path}
use mathlib.Core.Logic.{∥∥₁_elim, ∥∥₁_prop}
use Rattle.std.proofs.Common.{refl, sym, ◌∙◌, ap, subst}
use Rattle.zvt_grammar.specs.Reading.{padded}
use Rattle.zvt_tlv.specs.Grammar.{Objects, IsLength, Spells}
use Rattle.zvt_tlv.specs.UniqueDecoding.{one_tree}
use Rattle.zvt_tlv.specs.Views.{OneOf, one_value}
use Rattle.zvt_field.specs.declared.shapes.Shape.{Shape}
use Rattle.zvt_field.specs.declared.shapes.Shape.TheVariants.{Fixed, Digits, Ll, Lll, Tree}
use Rattle.zvt_field.specs.Shapes.{shape_of}
use Rattle.zvt_field.specs.Grammar.{Field, plain, tree, field_code, IsHead, Plain, FieldList}
use Rattle.zvt_field.specs.UniqueDecoding.{one_list}

-- The fields that the bytes spell, each length of objects in any form that holds it.
abbrev pub FieldsBytes : List ℕ → Type 0
FieldsBytes = OneOf (FieldList padded)

pub fields_once : (bytes : List ℕ) → (a b : FieldsBytes bytes) → a ≡ b
fields_once bytes = one_value (coded_list field_code) (FieldList padded) bytes (λ f g p q. one_list padded f g bytes bytes refl p q)

-- The field of that name whose content is those bytes, without the length before them.
abbrev pub Holds : (bmp : ℕ) → (content : List ℕ) → Field → Type 0
Holds bmp content (plain name bytes) = (name ≡ bmp) × (bytes ≡ content) × ((one : List ℕ) × Plain bmp content one)
Holds bmp content (tree name objects) = (name ≡ bmp) × (shape_of bmp ≡ Some Tree) × Spells padded 1 objects content

-- The bytes are the content of a field of that BMP that is no container.
abbrev pub PlainBytes : (bmp : ℕ) → (content : List ℕ) → Type 0
PlainBytes bmp content = ∥ ((one : List ℕ) × Plain bmp content one) ∥₁

no_tree : (bmp : ℕ) (content : List ℕ) → (one : List ℕ) × Plain bmp content one → shape_of bmp ≡ Some Tree → ⊥
no_tree bmp content (one, p) e = subst (λ (o : Option Shape). IsHead o p.digits (length content) p.size) e p.is_head

pub holds_once : (bmp : ℕ) (content : List ℕ) (f g : Field) → Holds bmp content f → Holds bmp content g → f ≡ g
holds_once bmp content (plain n c) (plain m d) p q = ap (λ x. plain x c) (p.0 ∙ sym q.0) ∙ ap (plain m) (p.1 ∙ sym q.1)
holds_once bmp content (plain n c) (tree m o) p q = absurd (no_tree bmp content p.2 q.1)
holds_once bmp content (tree n o) (plain m c) p q = absurd (no_tree bmp content q.2 p.1)
holds_once bmp content (tree n o) (tree m i) p q =
    ap (λ x. tree x o) (p.0 ∙ sym q.0) ∙ ap (tree m) (one_tree padded 1 o i content content refl p.2 q.2)

abbrev pub FieldBytes : (bmp : ℕ) → (content : List ℕ) → Type 0
FieldBytes bmp content = (field : Field) × ∥ Holds bmp content field ∥₁

pub field_once : (bmp : ℕ) (content : List ℕ) → (a b : FieldBytes bmp content) → a ≡ b
field_once bmp content a b =
    Σ_prop_path (λ v. ∥∥₁_prop) (∥∥₁_elim a.1 (Coded-set field_code _ _) (λ p. ∥∥₁_elim b.1 (Coded-set field_code _ _) (λ q. holds_once bmp content a.0 b.0 p q)))

-- What is between a name of that shape and a content of n bytes or objects of n bytes.
abbrev pub IsLead : Option Shape → ℕ → List ℕ → Type 0
IsLead None n size = ⊥
IsLead (Some (Fixed m)) n size = (n ≡ m) × (size ≡ [])
IsLead (Some (Digits m)) n size = (n ≡ m) × (size ≡ [])
IsLead (Some Ll) n size = IsHead (Some Ll) false n size
IsLead (Some Lll) n size = IsHead (Some Lll) false n size
IsLead (Some Tree) n size = IsLength padded n size

abbrev pub LeadFirst : Option Shape → List ℕ → Type 0
LeadFirst shape bytes = (n : ℕ) × (size : List ℕ) × (after : List ℕ) × (bytes ≡ size ++ after) × IsLead shape n size

-- A content comes first after a name of that shape.
abbrev pub ContentFirst : Option Shape → List ℕ → Type 0
ContentFirst shape bytes =
    (size : List ℕ) × (content : List ℕ) × (after : List ℕ) × (bytes ≡ size ++ (content ++ after)) × IsLead shape (length content) size

-- The objects of a field.
abbrev pub tree_of : Field → Option Objects
tree_of (plain bmp content) = None
tree_of (tree bmp objects) = Some objects
