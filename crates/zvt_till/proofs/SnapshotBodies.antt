-- The parts of a body, one after another.
use Rattle.std.proofs.Common.{◌≡◌, ℕ, List, ◌++◌, length, Option, append_assoc, sym, ap, ◌∙◌, Result, Ok, Err}
use Rattle.std.specs.Prelude.{flat_map, IfOk, OnOk}
use Rattle.std.proofs.lemmas.Grind.{flat_map-append}
use Rattle.zvt_till.specs.declared.outcomes.Outcome.{Outcome}
use Rattle.zvt_till.specs.Till.{TillState}
use Rattle.zvt_till.specs.declared.snapshot.layouts.Layout.{Layout}
use Rattle.zvt_till.specs.SnapshotEncoded.{body_bytes, counts_bytes, entry_bytes, left_book, open_rows, settings_bytes, unclear_bytes}
use Rattle.zvt_till.proofs.SnapshotLeft.{left-long}

-- what follows of a success
pub on_ok : {T E P Q : Type 0} → (r : Result T E) → (P → Q) → OnOk r P → OnOk r Q
on_ok (Ok x) f p = f p
on_ok (Err e) f p = p

-- what follows of the value of a success
pub on_value : {T E : Type 0} {P Q : T → Type 0} → (r : Result T E) → ((x : T) → P x → Q x) → IfOk r P → IfOk r Q
on_value (Ok x) f p = f x p
on_value (Err e) f p = p

pub on_both : {T E : Type 0} {P Q R : T → Type 0} → (r : Result T E) → ((x : T) → P x → Q x → R x) → IfOk r P → IfOk r Q → IfOk r R
on_both (Ok x) f p q = f x p q
on_both (Err e) f p q = p

five : (a p q r s t : List ℕ) → (((((a ++ p) ++ q) ++ r) ++ s) ++ t) ≡ a ++ ((p ++ q) ++ (r ++ (s ++ t)))
five a p q r s t =
    append_assoc (((a ++ p) ++ q) ++ r) s t ∙ append_assoc ((a ++ p) ++ q) r (s ++ t) ∙ ap (λ x. x ++ (r ++ (s ++ t))) (append_assoc a p q)
    ∙ append_assoc a (p ++ q) (r ++ (s ++ t))

pub body-joined : (layout : Layout) (s k : TillState) (left doubted : Option ℕ) (last : Option Outcome) (count : ℕ) (a b c d e f : List ℕ)
    → k.unclear ≡ s.unclear ++ open_rows left → k.last_outcome ≡ last → k.book ≡ left_book s.book doubted → k.settings ≡ s.settings → count ≡ length (s.unclear ++ open_rows left)
    → b ≡ a ++ counts_bytes layout (length s.book) count → c ≡ b ++ settings_bytes s.settings last → d ≡ c ++ flat_map (entry_bytes layout) (left_book s.book doubted)
    → e ≡ d ++ flat_map unclear_bytes s.unclear → f ≡ e ++ flat_map unclear_bytes (open_rows left) → f ≡ a ++ body_bytes layout k
body-joined layout s k left doubted last count a b c d e f eu el eb es en is_b is_c is_d is_e is_f =
    let p = counts_bytes layout (length s.book) count in let q = settings_bytes s.settings last in let r = flat_map (entry_bytes layout) (left_book s.book doubted) in
    let w = flat_map unclear_bytes s.unclear in let t = flat_map unclear_bytes (open_rows left) in
    let flat : f ≡ (((((a ++ p) ++ q) ++ r) ++ w) ++ t) =
    is_f ∙ ap (λ (x : List ℕ). x ++ t) (is_e ∙ ap (λ (x : List ℕ). x ++ w) (is_d ∙ ap (λ (x : List ℕ). x ++ r) (is_c ∙ ap (λ (x : List ℕ). x ++ q) is_b))) in
    let rows : w ++ t ≡ flat_map unclear_bytes (s.unclear ++ open_rows left) = sym (flat_map-append unclear_bytes s.unclear (open_rows left)) in
    rw (eu, el, eb, es, left-long s.book doubted) (
    flat ∙ five a p q r w t ∙ ap (λ (x : List ℕ). a ++ ((p ++ q) ++ (r ++ x))) rows
    ∙ ap (λ (n : ℕ). a ++ ((counts_bytes layout (length s.book) n ++ q) ++ (r ++ flat_map unclear_bytes (s.unclear ++ open_rows left)))) en)
