-- A field as its BMP and its body.
use Rattle.std.proofs.Common.{◌≡◌, ℕ, ◌+◌, ◌<◌, ◌^◌, true, Some, length, refl, sym, ◌∙◌, ap, subst, arith}
use Rattle.std.specs.declared.vec.Vec.{Vec}
use Rattle.std.specs.declared.alloc.Global.{Global}
use Rattle.zvt_tlv.specs.Grammar.{Objects}
use Rattle.zvt_tlv.specs.Sizes as tlv
use Rattle.zvt_field.specs.declared.bodies.FieldBody.{FieldBody}
use Rattle.zvt_field.specs.declared.bodies.FieldBody.TheVariants.{Bytes, Tree}
use Rattle.zvt_field.specs.declared.shapes.Shape.{Shape}
use Rattle.zvt_field.specs.Shapes.{shape_of}
use Rattle.zvt_field.specs.Grammar.{Field, plain, tree}
use Rattle.zvt_field.specs.Spelling.{count_holds, size_of_field}
use Rattle.zvt_field.specs.Bodies.{field_of, name_of, AreParts, HasSpelling, size_agrees, DigitsAgree}
use Rattle.zvt_field.proofs.Spellings.{field_spelled, field_sized, head_spelled, agrees, has_spelling}

pub name_known : (bmp : ℕ) (body : FieldBody) → name_of (field_of bmp body) ≡ bmp
name_known bmp (Bytes v) = refl
name_known bmp (Tree objects) = refl

pub size_known : (bmp : ℕ) (body : FieldBody) (s : Shape) → shape_of bmp ≡ Some s → HasSpelling (field_of bmp body) → size_agrees s (field_of bmp body) ≡ true
size_known bmp body s e h = (agrees (field_of bmp body) s h (ap shape_of (name_known bmp body) ∙ e)).0

pub body_spelled : (bmp : ℕ) (body : FieldBody) (s : Shape) → shape_of bmp ≡ Some s → true ≡ size_agrees s (field_of bmp body) → DigitsAgree s (field_of bmp body) → AreParts (field_of bmp body) → HasSpelling (field_of bmp body)
body_spelled bmp body s e size digits parts = has_spelling (field_of bmp body) s (ap shape_of (name_known bmp body) ∙ e) (sym size) digits parts

pub small : (f : Field) → HasSpelling f → size_of_field f < 2 ^ 16
small f h = omega (arith, h.small, ap length (field_spelled f h.bytes h.spelled), field_sized f)

pub tree_small : (f : Field) (body : FieldBody) (objects : Objects) (n : ℕ) → HasSpelling f → field_of (name_of f) body ≡ f → body ≡ Tree objects → n ≡ tlv.length_size (tlv.size_of objects) + tlv.size_of objects →
    1 + n < 2 ^ 16
tree_small f body objects n h same is size =
    let e : tree (name_of f) objects ≡ f = ap (field_of (name_of f)) (sym is) ∙ same in
    omega (arith, size, small (tree (name_of f) objects) (subst HasSpelling (sym e) h))

pub content_held : (f : Field) (body : FieldBody) (v : Vec ℕ Global) (bmp n : ℕ) → HasSpelling f → field_of (name_of f) body ≡ f → body ≡ Bytes v → bmp ≡ name_of f → n ≡ length v.items → count_holds (shape_of bmp) n ≡ true
content_held f body v bmp n h same is name long =
    let e : plain (name_of f) v.items ≡ f = ap (field_of (name_of f)) (sym is) ∙ same in
    let p = (subst HasSpelling (sym e) h).spelled in
    ap (λ (b : ℕ). count_holds (shape_of b) n) name ∙ ap (count_holds (shape_of (name_of f))) long ∙ (head_spelled (shape_of (name_of f)) p.digits (length v.items) p.size p.is_head).1
