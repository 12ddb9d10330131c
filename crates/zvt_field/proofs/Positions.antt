-- The place and the reason of a refusal are one.
use Rattle.std.proofs.Common.{◌≡◌, ℕ, ◌+◌, ◌-◌, ◌<◌, ◌≤◌, Some, List, [], ◌∷◌, ◌++◌, length, take, drop, refl, sym, ◌∙◌, ap, subst, append_assoc, arith, length-append, ◌⊎◌, suc, inl, inr}
use Rattle.std.proofs.lemmas.Bool.{cases_lt}
use Rattle.std.proofs.lemmas.List.{append_cancel_left, append-nil}
use Rattle.std.proofs.Math.Seq.{take-add}
use Rattle.zvt_bcd.specs.LengthDigits.{counted}
use Rattle.zvt_grammar.specs.declared.why.Why.{Why}
use Rattle.zvt_grammar.specs.Reading.{Reading}
use Rattle.zvt_tlv.specs.Judging as judging
use Rattle.zvt_tlv.specs.Sized.{PositionSized}
use Rattle.zvt_tlv.proofs.Alive.{prefix_of}
use Rattle.zvt_tlv.proofs.Unique.{position_once}
use Rattle.zvt_tlv.proofs.SizedLemmas.{openers_of, position_object, position_unfinished, open_shorter}
use Rattle.zvt_field.specs.declared.shapes.Shape.TheVariants.{Tree}
use Rattle.zvt_field.specs.Shapes.{shape_of}
use Rattle.zvt_field.specs.Grammar.{Field, plain, tree, IsHead, FieldOf, FieldList}
use Rattle.zvt_field.specs.Judging.{AliveIn, PlaceIn, WhyIn, Role, name, digit, in_content, in_container, count_digits, Begins, Here, Within, Position, fault}
use Rattle.zvt_field.proofs.FieldLists.{head_prefix, after_fields, field_size}
use Rattle.zvt_field.proofs.Counts.{head_count, no_tree, alive_prefix}
use Rattle.zvt_field.proofs.Fit.{tree_head}

-- no complete field comes first
unfoldable pub Open : Reading → List ℕ → Type 0
Open r c = (f : Field) (m x : List ℕ) → FieldOf r f m → c ≡ m ++ x → ⊥

count_suc : (n more k : ℕ) → n + suc more ≡ k → k ≡ suc (n + more)
count_suc n more k e = omega arith

begins_open : (r : Reading) (role : Role) (c : List ℕ) → Begins role c → Open r c
unfolding Open
begins_open r name c h f m x p e = omega (arith, ap length h, ap length e, length-append m x, field_size r f m p)
begins_open r (digit more before) c (bmp, size, w, is, are, number) (plain bmp' content) m x p e =
    let whole : bmp ∷ size ≡ bmp' ∷ (p.size ++ (content ++ x)) = sym w ∙ e ∙ ap (λ (s : List ℕ). s ++ x) p.whole ∙ ap (λ (s : List ℕ). bmp' ∷ s) (append_assoc p.size content x) in
    let names : bmp ≡ bmp' = cc (whole) in
    let count = head_count (shape_of bmp') (length size + more) p.digits (length content) p.size (ap (λ (n : ℕ). count_digits (shape_of n)) (sym names) ∙ count_suc (length size) more _ is) p.is_head in
    omega (arith, count.0, ap length whole, length-append p.size (content ++ x))
begins_open r (digit more before) c (bmp, size, w, is, are, number) (tree bmp' objects) m x p e =
    let whole : bmp ∷ size ≡ bmp' ∷ (p.one ++ x) = sym w ∙ e ∙ ap (λ (s : List ℕ). s ++ x) p.whole in
    let names : bmp ≡ bmp' = cc (whole) in
    no_tree (shape_of bmp) (length size + more) (count_suc (length size) more _ is) (ap shape_of names ∙ p.is_tree)
begins_open r (in_content digits) c (bmp, size, part, n, w, head, short) (plain bmp' content) m x p e =
    let whole : bmp ∷ (size ++ part) ≡ bmp' ∷ (p.size ++ (content ++ x)) = sym w ∙ e ∙ ap (λ (s : List ℕ). s ++ x) p.whole ∙ ap (λ (s : List ℕ). bmp' ∷ s) (append_assoc p.size content x) in
    let names : bmp ≡ bmp' = cc (whole) in
    let same = head_prefix (shape_of bmp') digits p.digits n (length content) size p.size part (content ++ x) (subst (λ (k : ℕ). IsHead (shape_of k) digits n size) names head) p.is_head (cc (whole)) in
    omega (arith, same.numbers, ap length same.rests, length-append content x)
begins_open r (in_content digits) c (bmp, size, part, n, w, head, short) (tree bmp' objects) m x p e =
    let whole : bmp ∷ (size ++ part) ≡ bmp' ∷ (p.one ++ x) = sym w ∙ e ∙ ap (λ (s : List ℕ). s ++ x) p.whole in
    let names : bmp ≡ bmp' = cc (whole) in
    tree_head (shape_of bmp) digits n size head (ap shape_of names ∙ p.is_tree)
begins_open r (in_container at role) c h f m x p e = absurd h

container_open : (r : Reading) (bmp level : ℕ) (os : List judging.Opener) (inside : List ℕ) (at : ℕ) (role : judging.Role) (left : ℕ) → shape_of bmp ≡ Some Tree →
    PositionSized r level os inside at role left → Open r (bmp ∷ inside)
unfolding Open
container_open r bmp level os inside at role left is h (plain bmp' content) m x p e =
    let whole : bmp ∷ inside ≡ bmp' ∷ ((p.size ++ content) ++ x) = e ∙ ap (λ (s : List ℕ). s ++ x) p.whole in
    let names : bmp ≡ bmp' = cc (whole) in
    tree_head (shape_of bmp') p.digits (length content) p.size p.is_head (ap shape_of (sym names) ∙ is)
container_open r bmp level os inside at role left is h (tree bmp' objects) m x p e =
    let whole : bmp ∷ inside ≡ bmp' ∷ (p.one ++ x) = e ∙ ap (λ (s : List ℕ). s ++ x) p.whole in
    let tails : inside ≡ p.one ++ x = cc (whole) in
    let less = open_shorter r inside (position_unfinished r level os inside at role left h) objects p.one [] x p.sized (append-nil inside ∙ tails) in
    omega (arith, ap length tails, length-append p.one x)

-- complete fields and then an open one: they part in one place
pub part_once : (r : Reading) (f g : List Field) (a b a' b' : List ℕ) → FieldList r f a → FieldList r g a' → Open r b → Open r b' → a ++ b ≡ a' ++ b' → (a ≡ a') × (b ≡ b')
unfolding Open
part_once r f g a b a' b' p q u v e = by_size (cases_lt (length a') (length a))
  where
    shorter : (f g : List Field) (a b a' b' : List ℕ) → FieldList r f a → FieldList r g a' → Open r b → a ++ b ≡ a' ++ b' → length a ≤ length a' → (a ≡ a') × (b ≡ b')
    shorter f g a b a' b' p q u e le =
        let m = prefix_of a b a' b' e le in
        let h = after_fields r f g a m.0 p (subst (FieldList r g) m.1 q) in
        let same : b ≡ m.0 ++ b' = append_cancel_left a b (m.0 ++ b') (e ∙ ap (λ (s : List ℕ). s ++ b') m.1 ∙ append_assoc a m.0 b') in
        ended m.0 m.1 h.0 h.1 same
      where
        ended : (m : List ℕ) → a' ≡ a ++ m → (hs : List Field) → FieldList r hs m → b ≡ m ++ b' → (a ≡ a') × (b ≡ b')
        ended m k [] s same = (sym (k ∙ ap (λ (t : List ℕ). a ++ t) s ∙ append-nil a), same ∙ ap (λ (t : List ℕ). t ++ b') s)
        ended m k (h ∷ hs) (one, after, whole, first, more) same = absurd (u h one (after ++ b') first (same ∙ ap (λ (t : List ℕ). t ++ b') whole ∙ append_assoc one after b'))

    by_size : ((length a' < length a) ⊎ (length a ≤ length a')) → (a ≡ a') × (b ≡ b')
    by_size (inl lt) = let s = shorter g f a' b' a b q p v (sym e) (omega arith) in (sym s.0, sym s.1)
    by_size (inr le) = shorter f g a b a' b' p q u e le

-- one beginning, one role
one_role : (role role' : Role) (b c : List ℕ) → b ≡ c → Begins role b → Begins role' c → role ≡ role'
one_role name name b c e p q = refl
one_role name (digit more before) b c e p (bmp, size, w, is, are, number) = absurd (omega (arith, ap length p, ap length e, ap length w))
one_role name (in_content digits) b c e p (bmp, size, part, n, w, head, short) = absurd (omega (arith, ap length p, ap length e, ap length w))
one_role name (in_container at role) b c e p q = absurd q
one_role (digit more before) name b c e (bmp, size, w, is, are, number) q = absurd (omega (arith, ap length q, ap length e, ap length w))
one_role (digit more before) (digit more' before') b c e (bmp, size, w, is, are, number) (bmp', size', w', is', are', number') =
    let whole : bmp ∷ size ≡ bmp' ∷ size' = sym w ∙ e ∙ w' in
    let names : bmp ≡ bmp' = cc (whole) in
    let sizes : size ≡ size' = cc (whole) in
    let mores : more ≡ more' = omega (arith, is, is', ap (λ (n : ℕ). count_digits (shape_of n)) names, ap length sizes) in
    let befores : before ≡ before' = sym number ∙ ap (counted 0) sizes ∙ number' in
    cc (mores, befores)
one_role (digit more before) (in_content digits) b c e (bmp, size, w, is, are, number) (bmp', size', part, n, w', head, short) =
    let whole : bmp ∷ size ≡ bmp' ∷ (size' ++ part) = sym w ∙ e ∙ w' in
    let names : bmp ≡ bmp' = cc (whole) in
    let count = head_count (shape_of bmp') (length size + more) digits n size' (ap (λ (n : ℕ). count_digits (shape_of n)) (sym names) ∙ count_suc (length size) more _ is) head in
    absurd (omega (arith, count.0, ap length whole, length-append size' part))
one_role (digit more before) (in_container at role) b c e p q = absurd q
one_role (in_content digits) name b c e (bmp, size, part, n, w, head, short) q = absurd (omega (arith, ap length q, ap length e, ap length w))
one_role (in_content digits) (digit more before) b c e (bmp', size', part, n, w', head, short) (bmp, size, w, is, are, number) =
    let whole : bmp ∷ size ≡ bmp' ∷ (size' ++ part) = sym w ∙ sym e ∙ w' in
    let names : bmp ≡ bmp' = cc (whole) in
    let count = head_count (shape_of bmp') (length size + more) digits n size' (ap (λ (n : ℕ). count_digits (shape_of n)) (sym names) ∙ count_suc (length size) more _ is) head in
    absurd (omega (arith, count.0, ap length whole, length-append size' part))
one_role (in_content digits) (in_content digits') b c e (bmp, size, part, n, w, head, short) (bmp', size', part', n', w', head', short') =
    let whole : bmp ∷ (size ++ part) ≡ bmp' ∷ (size' ++ part') = sym w ∙ e ∙ w' in
    let names : bmp ≡ bmp' = cc (whole) in
    let same = head_prefix (shape_of bmp') digits digits' n n' size size' part part' (subst (λ (k : ℕ). IsHead (shape_of k) digits n size) names head) head' (cc (whole)) in
    let kinds : digits ≡ digits' = same.kinds in cc (kinds)
one_role (in_content digits) (in_container at role) b c e p q = absurd q
one_role (in_container at role) role' b c e p q = absurd p

-- a plain field's beginning is no container's
not_tree : (role : Role) (b : List ℕ) (bmp : ℕ) (inside : List ℕ) → Begins role b → b ≡ bmp ∷ inside → shape_of bmp ≡ Some Tree → ⊥
not_tree name b bmp inside p e is = absurd (omega (arith, ap length p, ap length e))
not_tree (digit more before) b bmp inside (bmp', size, w, is', are, number) e is =
    let whole : bmp' ∷ size ≡ bmp ∷ inside = sym w ∙ e in
    let names : bmp' ≡ bmp = cc (whole) in
    no_tree (shape_of bmp') (length size + more) (count_suc (length size) more _ is') (ap shape_of names ∙ is)
not_tree (in_content digits) b bmp inside (bmp', size, part, n, w, head, short) e is =
    let whole : bmp' ∷ (size ++ part) ≡ bmp ∷ inside = sym w ∙ e in
    let names : bmp' ≡ bmp = cc (whole) in
    tree_head (shape_of bmp') digits n size head (ap shape_of names ∙ is)
not_tree (in_container at role) b bmp inside p e is = p

-- two positions after the same bytes are one
pub data Stands (r : Reading) (room : ℕ) (b : List ℕ) (role : Role) (left : ℕ) : Type 0 where
  plainly : Here r room b role left → Stands r room b role left
  inside : (os : List judging.Opener) (at : ℕ) (inner : judging.Role) → role ≡ in_container at inner → Within r room os b at inner left → Stands r room b role left

pub stands : (r : Reading) (room : ℕ) (os : List judging.Opener) (b : List ℕ) (role : Role) (left : ℕ) → Position r room os b role left → Stands r room b role left
stands r room os b name left p = plainly p.1
stands r room os b (digit more before) left p = plainly p.1
stands r room os b (in_content digits) left p = plainly p.1
stands r room os b (in_container at role) left p = inside os at role refl p

clash : (r : Reading) (room : ℕ) (b : List ℕ) (role : Role) (left left' at : ℕ) (inner : judging.Role) (os : List judging.Opener) → Here r room b role left → Within r room os b at inner left' → ⊥
clash r room b role left left' at inner os h w =
    let same = part_once r h.fields w.fields h.done h.beginning w.done (w.bmp ∷ w.inside) h.spelled w.spelled (begins_open r role h.beginning h.begins)
    (container_open r w.bmp w.level os w.inside at inner left' w.is_tree w.stands) (sym h.whole ∙ w.whole) in
    not_tree role h.beginning w.bmp w.inside h.begins same.1 w.is_tree

pub stands_once : (r : Reading) (room : ℕ) (b : List ℕ) (role role' : Role) (left left' : ℕ) → Stands r room b role left → Stands r room b role' left' → (role ≡ role') × (left ≡ left')
stands_once r room b role role' left left' (plainly h) (plainly k) =
    let same = part_once r h.fields k.fields h.done h.beginning k.done k.beginning h.spelled k.spelled (begins_open r role h.beginning h.begins) (begins_open r role' k.beginning k.begins) (sym h.whole ∙ k.whole) in
    (one_role role role' h.beginning k.beginning same.1 h.begins k.begins, omega (arith, h.filled, k.filled))
stands_once r room b role role' left left' (plainly h) (inside os at inner e w) = absurd (clash r room b role left left' at inner os h w)
stands_once r room b role role' left left' (inside os at inner e w) (plainly h) = absurd (clash r room b role' left' left at inner os h w)
stands_once r room b role role' left left' (inside os at inner e w) (inside qs at' inner' e' v) =
    let same = part_once r w.fields v.fields w.done (w.bmp ∷ w.inside) v.done (v.bmp ∷ v.inside) w.spelled v.spelled
    (container_open r w.bmp w.level os w.inside at inner left w.is_tree w.stands) (container_open r v.bmp v.level qs v.inside at' inner' left' v.is_tree v.stands) (sym w.whole ∙ v.whole) in
    let whole : w.bmp ∷ w.inside ≡ v.bmp ∷ v.inside = same.1 in
    let insides : w.inside ≡ v.inside = cc (whole) in
    let levels : w.level ≡ v.level = omega (arith, w.filled, v.filled, ap length same.0) in
    let second = subst (λ (m : ℕ). PositionSized r m qs w.inside at' inner' left') (sym levels) (subst (λ (s : List ℕ). PositionSized r v.level qs s at' inner' left') (sym insides) v.stands) in
    let one = position_once r (openers_of os) (openers_of qs) 0 (suc w.level) (0x25 ∷ w.inside) at at' inner inner' left left'
    (position_object r w.level os w.inside at inner left w.stands) (position_object r w.level qs w.inside at' inner' left' second) in
    let ats : at ≡ at' = one.ats in
    let roles : inner ≡ inner' = one.roles in
    (e ∙ cc (ats, roles) ∙ sym e', one.lefts)

-- a refusal has one reason
pub why_once : (r : Reading) (room k : ℕ) (bytes : List ℕ) (w w' : Why) → WhyIn r room bytes k w → WhyIn r room bytes k w' → w ≡ w'
why_once r room k bytes w w' p q =
    let same = stands_once r room (take k bytes) p.role q.role p.left q.left (stands r room p.openers (take k bytes) p.role p.left p.stands) (stands r room q.openers (take k bytes) q.role q.left q.stands) in
    let bytes : Some p.byte ≡ Some q.byte = sym p.is_byte ∙ q.is_byte in
    let one : p.byte ≡ q.byte = cc in
    let faults : fault r p.role p.left p.byte ≡ fault r q.role q.left q.byte =
    ap (λ (n : Role). fault r n p.left p.byte) same.0 ∙ ap (λ (n : ℕ). fault r q.role n p.byte) same.1 ∙ ap (fault r q.role q.left) one in
    let whys : Some w ≡ Some w' = sym p.fails ∙ faults ∙ q.fails in
    cc

-- and one place
pub place_once : (r : Reading) (room j k : ℕ) (bytes : List ℕ) → PlaceIn r room bytes j → PlaceIn r room bytes k → j ≡ k
place_once r room j k bytes p q = by_order (cases_lt j k) (cases_lt k j)
  where
    before : (j k : ℕ) → PlaceIn r room bytes j → PlaceIn r room bytes k → j < k → ⊥
    before j k p q lt =
        let e : suc j + (k - suc j) ≡ k = omega arith in
        p.0.dead (alive_prefix r room (take (suc j) bytes) (take (k - suc j) (drop (suc j) bytes))
        (subst (AliveIn r room) (sym (ap (λ (m : ℕ). take m bytes) e) ∙ take-add (suc j) (k - suc j) bytes) q.0.alive))

    by_order : ((j < k) ⊎ (k ≤ j)) → ((k < j) ⊎ (j ≤ k)) → j ≡ k
    by_order (inl lt) _ = absurd (before j k p q lt)
    by_order (inr ge) (inl lt) = absurd (before k j q p lt)
    by_order (inr ge) (inr le) = omega arith
