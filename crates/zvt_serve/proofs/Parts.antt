-- Texts that are written one part after another.
use Rattle.std.proofs.Common.{◌≡◌, ◌∙◌, ℕ, List, ◌++◌, Result, Ok, Err, ap, subst, append_assoc}
use Rattle.std.specs.Prelude.{OnOk}
use Rattle.zvt_text.specs.Writing.{Adds}

-- the last part completes the text
pub completes : {E : Type 0} (r : Result (Unit {0}) E) (old new part whole : List ℕ) → old ++ part ≡ whole → Adds r old new part → OnOk r (new ≡ whole)
completes (Ok _) old new part whole same wrote = wrote ∙ same
completes (Err e) old new part whole same wrote = tt

pub two_parts : {E : Type 0} (r : Result (Unit {0}) E) (old t new a b : List ℕ) → t ≡ old ++ a → Adds r t new b → OnOk r (new ≡ old ++ (a ++ b))
two_parts (Ok _) old t new a b first second = second ∙ ap (λ l. l ++ b) first ∙ append_assoc old a b
two_parts (Err e) old t new a b first second = tt

pub three_parts : {E : Type 0} (r : Result (Unit {0}) E) (old t u new a b c : List ℕ) → t ≡ old ++ a → u ≡ t ++ b → Adds r u new c → OnOk r (new ≡ old ++ (a ++ (b ++ c)))
three_parts r old t u new a b c first second third =
    subst (λ (said : List ℕ). OnOk r (new ≡ old ++ said)) (append_assoc a b c) (two_parts r old u new (a ++ b) c (second ∙ ap (λ l. l ++ b) first ∙ append_assoc old a b) third)

-- as completes, for a part of which nothing is known if it failed
pub completes_ok : {E : Type 0} (r : Result (Unit {0}) E) (old new part whole : List ℕ) → old ++ part ≡ whole → OnOk r (new ≡ old ++ part) → OnOk r (new ≡ whole)
completes_ok (Ok _) old new part whole same wrote = wrote ∙ same
completes_ok (Err e) old new part whole same wrote = tt
