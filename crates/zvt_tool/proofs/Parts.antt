-- A text that is written part by part.
use Rattle.std.proofs.Common.{◌≡◌, ◌∙◌, ℕ, List, ◌++◌, Result, Ok, Err, ap, append_assoc}
use Rattle.std.specs.Prelude.{OnOk}
use Rattle.std.specs.declared.alloc.AllocError.{AllocError}
use Rattle.zvt_text.specs.Writing.{Adds}

-- the last part, after one
pub ends : (r : Result (Unit {0}) AllocError) (old t new a b : List ℕ) → t ≡ old ++ a → Adds r t new b → OnOk r (new ≡ old ++ (a ++ b))
ends (Ok done) old t new a b first second = second ∙ ap (λ l. l ++ b) first ∙ append_assoc old a b
ends (Err refused) old t new a b first second = tt

-- a part before the others
pub begins : (r : Result (Unit {0}) AllocError) (old t new a b : List ℕ) → t ≡ old ++ a → OnOk r (new ≡ t ++ b) → OnOk r (new ≡ old ++ (a ++ b))
begins (Ok done) old t new a b first others = others ∙ ap (λ l. l ++ b) first ∙ append_assoc old a b
begins (Err refused) old t new a b first others = tt
