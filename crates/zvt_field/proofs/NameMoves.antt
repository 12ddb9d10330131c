-- The steps of the reader of a BMP.
use Rattle.std.proofs.Common.{◌≡◌, ◌≢◌, ℕ, ◌-◌, ◌<◌, ◌≤◌, Bool, Option, Some, None, List, [], ◌∷◌, length, take, get_or, slice_get, refl, sym, ◌∙◌, ap, subst, arith, suc}
use Rattle.zvt_grammar.specs.declared.why.Why.{Why}
use Rattle.zvt_grammar.specs.Reading.{Reading}
use Rattle.zvt_grammar.specs.Beginnings.{NoneWhole}
use Rattle.zvt_field.specs.declared.shapes.Shape.{Shape}
use Rattle.zvt_field.specs.declared.shapes.Shape.TheVariants.{Tree}
use Rattle.zvt_field.specs.Shapes.{shape_of}
use Rattle.zvt_field.specs.Grammar.{IsHead, FieldOf}
use Rattle.zvt_field.specs.Judging.{AliveIn, PlaceIn, WhyIn, name, count_digits, name_fault}
use Rattle.zvt_field.specs.Answers.{InName, InContainer, HeadFound}
use Rattle.zvt_field.proofs.Fit.{alive_container}
use Rattle.zvt_field.proofs.HeadMoves.{failed, passed, nothing_yet}
use Rattle.zvt_field.proofs.NoneFound.{none_in, none_before, least_two}

-- the first byte
pub record Starts (bytes : List ℕ) (x : ℕ) : Type 0 where
  pub rest : List ℕ
  pub whole : bytes ≡ x ∷ rest
  pub byte : x < 256

pub starts : (bytes : List ℕ) (x : ℕ) → Some x ≡ slice_get bytes 0 → ((i : ℕ) → get_or bytes i 0 < 256) → Starts bytes x
starts [] x e are = absurd (cc (e))
starts (y ∷ rest) x e are = let same : y ≡ x = cc (e) in record { rest = rest; whole = cc (same); byte = omega (arith, are 0, same) }

pub none_yet : (r : Reading) (room : ℕ) (bytes : List ℕ) → 0 < room → room ≢ 1 → length bytes ≤ 0 → (length bytes < room) × AliveIn r room bytes × NoneWhole (FieldOf r) bytes
none_yet r room [] some ne e = (some, nothing_yet r room ne, none_in r [] 2 (least_two r []) (omega arith))
none_yet r room (x ∷ bytes) some ne e = absurd (omega arith)

pub name_refused : (r : Reading) (room : ℕ) (bytes : List ℕ) (x : ℕ) (why : Why) → 0 < room → room ≢ 1 → Starts bytes x → name_fault r (shape_of x) (room - 1) ≡ Some why →
    PlaceIn r room bytes 0 × WhyIn r room bytes 0 why × NoneWhole (FieldOf r) (take 0 bytes)
name_refused r room bytes x why some ne s e =
    let failed = subst (λ (b : List ℕ). PlaceIn r room b 0 × WhyIn r room b 0 why) (sym s.whole)
    (failed r room name (x ∷ s.rest) 0 why refl (nothing_yet r room ne) some (omega arith) s.byte (ap (name_fault r (shape_of x)) left ∙ e)) in
    (failed.0, failed.1, none_before r bytes 2 0 (least_two r bytes) (omega arith))
  where
    left : room - 0 - 1 ≡ room - 1
    left = omega arith

pub name_alive : (r : Reading) (room : ℕ) (bytes : List ℕ) (x : ℕ) → 0 < room → room ≢ 1 → Starts bytes x → name_fault r (shape_of x) (room - 1) ≡ None → AliveIn r room (x ∷ [])
name_alive r room bytes x some ne s e = passed r room name (x ∷ s.rest) 0 refl (nothing_yet r room ne) some (omega arith) s.byte (ap (name_fault r (shape_of x)) left ∙ e)
  where
    left : room - 0 - 1 ≡ room - 1
    left = omega arith

first_taken : (bytes : List ℕ) (x : ℕ) → Starts bytes x → take 1 bytes ≡ x ∷ []
first_taken bytes x s = ap (take 1) s.whole

pub in_name : (r : Reading) (room digits : ℕ) (bytes : List ℕ) (x : ℕ) (shape other : Shape) → 0 < room → room ≢ 1 → Starts bytes x → (name_fault r (shape_of x) (room - 1) ≡ None) × (shape_of x ≡ Some shape) → shape ≡ other →
    count_digits (Some other) ≡ digits → InName r room bytes digits
in_name r room digits bytes x shape other some ne s (e, is) same counts =
    record { bmp = x; whole = first_taken bytes x s; counts = ap count_digits (is ∙ ap (λ (t : Shape). Some t) same) ∙ counts; alive = name_alive r room bytes x some ne s e }

pub in_head : (r : Reading) (room n : ℕ) (digits : Bool) (bytes : List ℕ) (x : ℕ) (shape other : Shape) → 0 < room → room ≢ 1 → Starts bytes x → (name_fault r (shape_of x) (room - 1) ≡ None) × (shape_of x ≡ Some shape) → shape ≡ other →
    IsHead (Some other) digits n [] → HeadFound r room bytes (record { start = 1; size = n; digits = digits })
in_head r room n digits bytes x shape other some ne s (e, is) same head = record {
  bmp = x;
  size = [];
  present = omega (arith, ap length s.whole);
  whole = first_taken bytes x s;
  is_head = subst (λ (o : Option Shape). IsHead o digits n []) (sym (is ∙ ap (λ (t : Shape). Some t) same)) head;
  alive = subst (AliveIn r room) (sym (first_taken bytes x s)) (name_alive r room bytes x some ne s e);
}

pub in_container : (r : Reading) (room : ℕ) (bytes : List ℕ) (x : ℕ) (shape : Shape) → 0 < room → room ≢ 1 → Starts bytes x → (name_fault r (shape_of x) (room - 1) ≡ None) × (shape_of x ≡ Some shape) → shape ≡ Tree → InContainer r room bytes
in_container r room bytes x shape some ne s (e, is) tree =
    let is_tree : shape_of x ≡ Some Tree = is ∙ ap (λ (t : Shape). Some t) tree in
    let room_is : room ≡ suc (room - 1) = omega arith in
    record {
      bmp = x;
      inside = s.rest;
      whole = s.whole;
      is_tree = is_tree;
      level = room - 1;
      filled = omega arith;
      begun = alive_container r x (room - 1) [] is_tree (λ f one y z p e. omega arith) (subst (λ (n : ℕ). AliveIn r n (x ∷ [])) room_is (name_alive r room bytes x some ne s e));
    }
