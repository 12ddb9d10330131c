-- The form of the data by the kind of the message: both tables have the same control bytes.
use Rattle.std.proofs.Common.{◌≡◌, ℕ, ◌==◌, ◌&&◌, cond, Bool, true, false, Option, Some, None, List, [], ◌∷◌, refl, sym, ◌∙◌, ap, ◌⊎◌, inl, inr}
use Rattle.zvt_apdu.specs.Grammar.{Form, BytesFrom, FieldsFrom, Registration, form_of, look_up, table}
use Rattle.zvt_apdu.specs.Kinds.{Kind, kind_at, kind_in, kinds}
use Rattle.zvt_apdu.specs.declared.kinds.Kind.TheVariants as kind

abbrev pub form_by : Kind → Option Form
form_by kind.Ack = Some (BytesFrom 0)
form_by kind.Nack = Some (BytesFrom 0)
form_by kind.Registration = Some Registration
form_by kind.Authorisation = Some (FieldsFrom 0)
form_by kind.Reversal = Some (FieldsFrom 3)
form_by kind.EndOfDay = Some (FieldsFrom 3)
form_by kind.AbortOrder = Some (FieldsFrom 0)
form_by kind.Status = Some (FieldsFrom 0)
form_by kind.Intermediate = Some (BytesFrom 1)
form_by kind.PrintLine = Some (BytesFrom 1)
form_by kind.TextBlock = Some (FieldsFrom 0)
form_by kind.Completion = Some (FieldsFrom 0)
form_by kind.Abort = Some (BytesFrom 1)
form_by kind.Other = None

-- row by row the same control bytes, and the form of the kind
abbrev SameRows : List (ℕ × ℕ × Form) → List (ℕ × ℕ × Kind) → Type 0
SameRows [] [] = Unit {0}
SameRows [] (k ∷ ks) = ⊥
SameRows (f ∷ fs) [] = ⊥
SameRows (f ∷ fs) (k ∷ ks) = (f.0 ≡ k.0) × (f.1 ≡ k.1) × (Some f.2 ≡ form_by k.2) × SameRows fs ks

either : (b : Bool) (f o : Option Form) (k l : Kind) → f ≡ form_by k → o ≡ form_by l → cond b f o ≡ form_by (cond b k l)
either true f o k l e h = e
either false f o k l e h = h

same_rows : (high low : ℕ) (fs : List (ℕ × ℕ × Form)) (ks : List (ℕ × ℕ × Kind)) → SameRows fs ks → look_up high low fs ≡ form_by (kind_in high low ks)
same_rows high low [] [] same = refl
same_rows high low [] (k ∷ ks) same = absurd same
same_rows high low (f ∷ fs) [] same = absurd same
same_rows high low (f ∷ fs) (k ∷ ks) same =
    let tests : ((high == f.0) && (low == f.1)) ≡ ((high == k.0) && (low == k.1)) = ap (λ (x : ℕ). (high == x) && (low == f.1)) same.0 ∙ ap (λ (x : ℕ). (high == k.0) && (low == x)) same.1 in
    ap (λ (b : Bool). cond b (Some f.2) (look_up high low fs)) tests
    ∙ either ((high == k.0) && (low == k.1)) (Some f.2) (look_up high low fs) k.2 (kind_in high low ks) same.2 (same_rows high low fs ks same.3)

pub forms : (high low : ℕ) → form_by (kind_at high low) ≡ form_of high low
unfolding form_of kind_at
forms high low = sym (either (high == 0x84) (Some (BytesFrom 0)) (look_up high low table) kind.Nack (kind_in high low kinds) refl
    (same_rows high low table kinds (refl, refl, refl, (refl, refl, refl, (refl, refl, refl, (refl, refl, refl, (refl, refl, refl, (refl, refl, refl, (refl, refl, refl, (refl, refl, refl, (refl, refl, refl, (refl, refl, refl, (refl, refl, refl, (refl, refl, refl, tt))))))))))))))

-- the form that each kind of some has
pub form_of_one : {k l : Kind} (high low : ℕ) → k ≡ kind_at high low → k ≡ l → form_by l ≡ form_of high low
form_of_one high low e is = ap form_by (sym is ∙ e) ∙ forms high low
