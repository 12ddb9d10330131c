-- Whether a text begins with the first line of a journal.
use Rattle.std.proofs.Common.{◌≡◌, ◌↔◌, IsTrue, ℕ, Bool, true, false, List, ◌++◌, length, take, drop, Option, Some, None, refl, sym, ap, subst, ◌∙◌}
use Rattle.std.specs.Prelude.{if◌then◌else◌, is_some, option_map}
use Rattle.std.specs.Str.{bytes_eq}
use Rattle.std.proofs.Math.Seq.{take-append_seam}
use Rattle.std.proofs.lemmas.List.{take-append-drop}
use Rattle.std.proofs.lemmas.Slice.Eq.{bytes_eq-Decides}
use Rattle.zvt_text.specs.Words.{trailing}

found_if : (prefix text : List ℕ) (same : Bool) → bytes_eq (take (length prefix) text) prefix ≡ same → IsTrue (is_some (trailing prefix text)) → (rest : List ℕ) × (text ≡ prefix ++ rest)
found_if prefix text true same found =
    (drop (length prefix) text, sym (take-append-drop (length prefix) text) ∙ ap (λ first. first ++ drop (length prefix) text) ((bytes_eq-Decides (take (length prefix) text) prefix).0 same))
found_if prefix text false same found = let none : IsTrue false = subst (λ b. IsTrue (is_some (if b then Some (drop (length prefix) text) else None))) same found in absurd cc

begins : (prefix text : List ℕ) → (rest : List ℕ) × (text ≡ prefix ++ rest) → IsTrue (is_some (trailing prefix text))
begins prefix text has =
    let first : take (length prefix) text ≡ prefix = ap (take (length prefix)) has.1 ∙ take-append_seam prefix has.0 in
    let same : bytes_eq (take (length prefix) text) prefix ≡ true = (bytes_eq-Decides (take (length prefix) text) prefix).1 first in
    subst (λ b. IsTrue (is_some (if b then Some (drop (length prefix) text) else None))) (sym same) refl

same_some : {A : Type 0} {B : Type 0} (f : A → B) (found : Option A) → is_some (option_map f found) ≡ is_some found
same_some f None = refl
same_some f (Some x) = refl

pub begins_so : {A : Type 0} (f : A → List ℕ) (found : Option A) (prefix text : List ℕ) (answer : Bool) → option_map f found ≡ trailing prefix text → answer ≡ is_some found
    → IsTrue answer ↔ ((rest : List ℕ) × (text ≡ prefix ++ rest))
begins_so f found prefix text answer is told =
    let same : answer ≡ is_some (trailing prefix text) = told ∙ sym (same_some f found) ∙ ap is_some is in
    (λ yes. found_if prefix text (bytes_eq (take (length prefix) text) prefix) refl (subst IsTrue same yes), λ has. subst IsTrue (sym same) (begins prefix text has))
