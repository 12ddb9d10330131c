-- Each beginning that can be completed, and is not whole, is at a position.
use Rattle.std.proofs.Common.{◌≡◌, ℕ, ◌+◌, ◌-◌, ◌<◌, ◌≤◌, Bool, Option, Some, None, List, [], ◌∷◌, ◌++◌, length, refl, sym, ◌∙◌, ap, subst, arith, length-append, ◌⊎◌, suc, inl, inr}
use Rattle.std.proofs.lemmas.List.{append-nil}
use Rattle.zvt_bcd.specs.LengthDigits.{AreLengthDigits, counted}
use Rattle.zvt_grammar.specs.Reading.{Reading}
use Rattle.zvt_tlv.specs.Judging as judging
use Rattle.zvt_tlv.proofs.Exists.{split, sized_prefix}
use Rattle.zvt_field.specs.declared.shapes.Shape.{Shape}
use Rattle.zvt_field.specs.declared.shapes.Shape.TheVariants.{Fixed, Digits, Ll, Lll, Tree}
use Rattle.zvt_field.specs.Shapes.{shape_of}
use Rattle.zvt_field.specs.Grammar.{Field, plain, tree, IsHead, FieldOf, FieldList}
use Rattle.zvt_field.specs.Judging.{AliveIn, Role, name, digit, in_content, in_container, count_digits, Begins, Position}
use Rattle.zvt_field.proofs.Counts.{digits_prefix}
use Rattle.zvt_field.proofs.HeadMoves.{position_here}
use Rattle.zvt_field.proofs.ListMoves.{position_after}

pub record Stands (r : Reading) (room : ℕ) (b : List ℕ) : Type 0 where
  pub openers : List judging.Opener
  pub role : Role
  pub left : ℕ
  pub position : Position r room openers b role left

plainly : (r : Reading) (room : ℕ) (b : List ℕ) (role : Role) → Begins role b → length b < room → Stands r room b
plainly r room b role p lt = record { openers = []; role = role; left = room - length b - 1; position = position_here r room b role p lt }

-- the digits of a length that has begun
counts_head : (o : Option Shape) (digits : Bool) (n : ℕ) (size b : List ℕ) (z : ℕ) (m : List ℕ) → IsHead o digits n size → size ≡ b ++ z ∷ m → (length b + suc (length m) ≡ count_digits o) × AreLengthDigits b
counts_head None d n s b z m h e = absurd h
counts_head (Some (Fixed k)) d n s b z m h e = absurd (omega (arith, ap length h.2, ap length e, length-append b (z ∷ m)))
counts_head (Some (Digits k)) d n s b z m h e = absurd (omega (arith, ap length h.2, ap length e, length-append b (z ∷ m)))
counts_head (Some Ll) d n s b z m h e = (omega (arith, h.1.0, ap length e, length-append b (z ∷ m)), digits_prefix b (z ∷ m) (subst AreLengthDigits e h.1.1))
counts_head (Some Lll) d n s b z m h e = (omega (arith, h.1.0, ap length e, length-append b (z ∷ m)), digits_prefix b (z ∷ m) (subst AreLengthDigits e h.1.1))
counts_head (Some Tree) d n s b z m h e = absurd h

-- a prefix of one field
field_stands : (r : Reading) (room : ℕ) (f : Field) (one b : List ℕ) (z : ℕ) (m : List ℕ) → FieldOf r f one → one ≡ b ++ z ∷ m → length one ≤ room → Stands r room b
field_stands r room f one [] z m p e le = plainly r room [] name refl (omega (arith, le, ap length e))
field_stands r room (plain bmp content) one (x ∷ b) z m p e le =
    let whole : bmp ∷ (p.size ++ content) ≡ x ∷ (b ++ z ∷ m) = sym p.whole ∙ e in
    let names : x ≡ bmp = cc (whole) in
    by_size names (split p.size content b (z ∷ m) (cc (whole)))
  where
    short : length (x ∷ b) < room
    short = omega (arith, le, ap length e, length-append b (z ∷ m))

    by_size : x ≡ bmp → (((m' : List ℕ) × (z' : ℕ) × (p.size ≡ b ++ z' ∷ m')) ⊎ ((m' : List ℕ) × (b ≡ p.size ++ m') × (content ≡ m' ++ z ∷ m))) → Stands r room (x ∷ b)
    by_size names (inl q) =
        let c = counts_head (shape_of bmp) p.digits (length content) p.size b q.1 q.0 p.is_head q.2 in
        plainly r room (x ∷ b) (digit (length q.0) (counted 0 b)) (bmp, b, ap (λ (n : ℕ). n ∷ b) names, c.0, c.1, refl) short
    by_size names (inr q) =
        plainly r room (x ∷ b) (in_content p.digits)
        (bmp, p.size, q.0, length content, ap (λ (n : ℕ). n ∷ b) names ∙ ap (λ (s : List ℕ). bmp ∷ s) q.1, p.is_head, omega (arith, ap length q.2, length-append q.0 (z ∷ m)))
        short
field_stands r room (tree bmp objects) one (x ∷ b) z m p e le =
    let whole : bmp ∷ p.one ≡ x ∷ (b ++ z ∷ m) = sym p.whole ∙ e in
    let names : x ≡ bmp = cc (whole) in
    let s = sized_prefix r (room - 1) objects p.one b z m p.sized (cc (whole)) (omega (arith, le, ap length p.whole)) in
    record {
      openers = s.openers;
      role = in_container s.at s.role;
      left = s.left;
      position = record {
        fields = [];
        done = [];
        bmp = bmp;
        inside = b;
        whole = ap (λ (n : ℕ). n ∷ b) names;
        spelled = refl;
        is_tree = p.is_tree;
        level = room - 1;
        filled = omega (arith, le, ap length p.whole);
        stands = s.position;
      };
    }

-- a prefix of fields
list_stands : (r : Reading) (fs : List Field) (s b : List ℕ) (y : ℕ) (x : List ℕ) → FieldList r fs s → s ≡ b ++ y ∷ x → Stands r (length s) b
list_stands r [] s b y x p e = absurd (omega (arith, ap length p, ap length e, length-append b (y ∷ x)))
list_stands r (f ∷ fs) s b y x (one, after, whole, p, more) e = by_field (λ c h. list_stands r fs after c y x more h) (split one after b (y ∷ x) (sym whole ∙ e))
  where
    total : length one + length after ≡ length s
    total = omega (arith, ap length whole, length-append one after)

    by_field : ((c : List ℕ) → after ≡ c ++ y ∷ x → Stands r (length after) c) →
        (((m : List ℕ) × (z : ℕ) × (one ≡ b ++ z ∷ m)) ⊎ ((m : List ℕ) × (b ≡ one ++ m) × (after ≡ m ++ y ∷ x))) → Stands r (length s) b
    by_field later (inl q) = field_stands r (length s) f one b q.1 q.0 p q.2 (omega (arith, total))
    by_field later (inr q) =
        let h = later q.0 q.2 in
        let position = position_after r (length after) (f ∷ []) one h.openers q.0 h.role h.left (one, [], sym (append-nil one), p, refl) h.position in
        record {
          openers = h.openers;
          role = h.role;
          left = h.left;
          position = subst (λ (n : ℕ). Position r n h.openers b h.role h.left) total (subst (λ (v : List ℕ). Position r (length one + length after) h.openers v h.role h.left) (sym q.1) position);
        }

-- what is alive and not whole is at a position
pub alive_stands : (r : Reading) (room : ℕ) (b : List ℕ) → AliveIn r room b → length b < room → Stands r room b
alive_stands r room b a lt = more a.rest refl
  where
    more : (x : List ℕ) → a.rest ≡ x → Stands r room b
    more [] e = absurd (omega (arith, a.spelled.1, length-append b a.rest, ap length e))
    more (y ∷ x) e = subst (λ (n : ℕ). Stands r n b) a.spelled.1 (list_stands r a.value (b ++ a.rest) b y x a.spelled.0 (ap (λ (v : List ℕ). b ++ v) e))
