-- What was added to a text.
use Rattle.std.proofs.Common.{◌≡◌, ℕ, List, ◌++◌, Result, Ok, Err}
use Rattle.std.specs.Prelude.{OnOk}
use Rattle.zvt_text.specs.Writing.{Adds}

-- a fact about a text that grew by so much
pub where_added : {E P : Type 0} (r : Result (Unit {0}) E) (old new text : List ℕ) → (new ≡ old ++ text → P) → Adds r old new text → OnOk r P
where_added (Ok _) old new text so added = so added
where_added (Err e) old new text so added = tt
