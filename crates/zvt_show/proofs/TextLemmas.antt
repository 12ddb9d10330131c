-- Texts that are written in parts.
use Rattle.std.proofs.Common.{◌≡◌, ℕ, zero, suc, List, ◌++◌, Result, Ok, Err, refl, ◌∙◌, ap, append_assoc}
use Rattle.std.specs.Prelude.{OnOk}
use Rattle.std.specs.declared.alloc.AllocError.{AllocError}
use Rattle.std.proofs.lemmas.Result.{on_ok_weaker}
use Rattle.zvt_text.specs.Writing.{Adds}
use Rattle.zvt_trace.specs.declared.direction.Direction.{Direction}
use Rattle.zvt_trace.specs.declared.listener.Scope.{Scope}
use Rattle.zvt_show.specs.Notes.{unread_note, unread_words}

-- where all was added it is there
pub adds_ok : (r : Result (Unit {0}) AllocError) (old new text : List ℕ) → Adds r old new text → OnOk r (new ≡ old ++ text)
adds_ok (Ok u) old new text adds = adds
adds_ok (Err e) old new text adds = tt

-- one part after another
pub two_parts : (r : Result (Unit {0}) AllocError) (old middle new a b : List ℕ) → middle ≡ old ++ a → OnOk r (new ≡ middle ++ b) → OnOk r (new ≡ old ++ (a ++ b))
two_parts r old middle new a b first second = on_ok_weaker r (λ e. e ∙ ap (λ l. l ++ b) first ∙ append_assoc old a b) second

pub three_parts : (r : Result (Unit {0}) AllocError) (old t u new a b c : List ℕ) → t ≡ old ++ a → u ≡ t ++ b → OnOk r (new ≡ u ++ c) → OnOk r (new ≡ old ++ ((a ++ b) ++ c))
three_parts r old t u new a b c first second third = two_parts r old u new (a ++ b) c (second ∙ ap (λ l. l ++ b) first ∙ append_assoc old a b) third

pub four_parts : (r : Result (Unit {0}) AllocError) (old t u v new a b c d : List ℕ) → t ≡ old ++ a → u ≡ t ++ b → v ≡ u ++ c → OnOk r (new ≡ v ++ d) → OnOk r (new ≡ old ++ (((a ++ b) ++ c) ++ d))
four_parts r old t u v new a b c d first second third fourth =
    three_parts r old u v new (a ++ b) c d (second ∙ ap (λ l. l ++ b) first ∙ append_assoc old a b) third fourth

-- some lines were not read
pub some_unread : (scope : Scope) (side : Direction) (count last : ℕ) → (count ≡ 0 → ⊥) → unread_note scope side count last ≡ unread_words scope side count last
some_unread scope side zero last some = absurd (some refl)
some_unread scope side (suc n) last some = refl
