-- The field that a view shows, by what the view gives.
use Rattle.std.proofs.Common.{◌≡◌, ℕ, ◌<◌, true, Some, None, List, [], ◌∷◌, ◌++◌, length, ◌∙◌, ap, sym, append_assoc}
use Rattle.std.proofs.Math.Bool.{Bool-set}
use Rattle.std.proofs.Math.Logic.{∥∥₁_elim}
use Rattle.zvt_grammar.specs.Reading.{padded}
use Rattle.zvt_tlv.specs.Grammar.{Objects}
use Rattle.zvt_tlv.specs.Checks.{is_shallow}
use Rattle.zvt_tlv.proofs.CheckLemmas.{spelled_shallow}
use Rattle.zvt_field.specs.Bodies.{name_of}
use Rattle.zvt_field.specs.Grammar.{Field, plain, tree}
use Rattle.zvt_field.specs.Lent.{shown}
use Rattle.zvt_field.specs.Named.{bytes_of}
use Rattle.zvt_field.specs.Views.{FieldBytes, tree_of}
use Rattle.zvt_field.specs.declared.views.FieldView.{FieldView}
use Rattle.zvt_field.proofs.ViewLemmas.{name_is, plain_of}
use Rattle.zvt_text.specs.Lines.{field_line, named_text, noted_value, object_lines}
use Rattle.zvt_text.specs.declared.text_options.TextOptions.{TextOptions}
use Rattle.zvt_text.proofs.RoomLemmas.{prefix_full}

named_plain : (f : Field) (bmp : ℕ) (content : List ℕ) → name_of f ≡ bmp → bytes_of f ≡ Some content → f ≡ plain bmp content
named_plain (plain n c) bmp content name bytes = let same : c ≡ content = cc (bytes) in cc (name, same)
named_plain (tree n o) bmp content name bytes = absurd (cc (bytes))

named_tree : (f : Field) (bmp : ℕ) (objects : Objects) → name_of f ≡ bmp → Some objects ≡ tree_of f → f ≡ tree bmp objects
named_tree (plain n c) bmp objects name is = absurd (cc (is))
named_tree (tree n o) bmp objects name is = let same : objects ≡ o = cc (is) in cc (name, same)

pub plain_shown : (v : FieldView) → None ≡ tree_of (shown v) → shown v ≡ plain v.bmp v.content.now
plain_shown v e = named_plain (shown v) v.bmp v.content.now (name_is v.bmp v.content.now v.field) (plain_of v.bmp v.content.now v.field e).1

pub tree_shown : (v : FieldView) (objects : Objects) → Some objects ≡ tree_of (shown v) → shown v ≡ tree v.bmp objects
tree_shown v objects e = named_tree (shown v) v.bmp objects (name_is v.bmp v.content.now v.field) e

inside_shallow : (bmp : ℕ) (content : List ℕ) (f : FieldBytes bmp content) (objects : Objects) → Some objects ≡ tree_of f.0 → is_shallow 1 objects ≡ true
inside_shallow bmp content (plain n c, h) objects e = absurd (cc (e))
inside_shallow bmp content (tree n o, h) objects e =
    let same : objects ≡ o = cc (e) in ∥∥₁_elim h (Bool-set _ _) (λ h. ap (is_shallow 1) same ∙ spelled_shallow padded 1 o content h.2)

pub objects_shallow : (v : FieldView) (objects : Objects) → Some objects ≡ tree_of (shown v) → is_shallow 1 objects ≡ true
objects_shallow v objects e = inside_shallow v.bmp v.content.now v.field objects e

-- a field's line begins with its name
named_first : (options : TextOptions) (f : Field) (bmp : ℕ) → name_of f ≡ bmp → (rest : List ℕ) × (named_text bmp ++ rest ≡ field_line options f)
named_first options (plain n content) bmp name =
    let same : bmp ≡ n = sym name in (
      32 ∷ noted_value options n content ++ 10 ∷ [],
      sym (append_assoc (named_text bmp) (32 ∷ noted_value options n content) (10 ∷ [])) ∙ ap (λ (b : ℕ). named_text b ++ 32 ∷ noted_value options n content ++ 10 ∷ []) same,
    )
named_first options (tree n objects) bmp name = let same : bmp ≡ n = sym name in (10 ∷ object_lines options 1 objects, ap (λ (b : ℕ). named_text b ++ 10 ∷ object_lines options 1 objects) same)

-- where a buffer is full at the name, it has no capacity for the line
pub name_full : (options : TextOptions) (v : FieldView) (buffer : ℕ) (before : List ℕ) → buffer < length (before ++ named_text v.bmp) → buffer < length (before ++ field_line options (shown v))
name_full options v buffer before full =
    let first = named_first options (shown v) v.bmp (name_is v.bmp v.content.now v.field) in
    prefix_full buffer (before ++ named_text v.bmp) first.0 (before ++ field_line options (shown v)) (append_assoc before (named_text v.bmp) first.0 ∙ ap (λ (line : List ℕ). before ++ line) first.1) full
