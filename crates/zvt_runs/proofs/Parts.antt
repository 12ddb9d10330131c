-- Texts that are added part by part, and lines of JSON.
use Rattle.std.proofs.Common.{◌≡◌, ◌∙◌, ℕ, List, [], ◌∷◌, ◌++◌, Result, Ok, Err, ap, subst, append_assoc}
use Rattle.std.specs.Prelude.{OnOk}
use Rattle.std.specs.declared.alloc.AllocError.{AllocError}
use Rattle.serde_json.specs.Data.{Data}
use Rattle.serde_json.specs.Written.{compact_text}
use Rattle.zvt_json.specs.Strings.{line_text}
use Rattle.zvt_text.specs.Writing.{Adds}

pub one_more : (old t u a b : List ℕ) → t ≡ old ++ a → u ≡ t ++ b → u ≡ old ++ (a ++ b)
one_more old t u a b first second = second ∙ ap (λ l. l ++ b) first ∙ append_assoc old a b

pub two_parts : (r : Result (Unit {0}) AllocError) (old t new a b : List ℕ) → t ≡ old ++ a → Adds r t new b → OnOk r (new ≡ old ++ (a ++ b))
two_parts (Ok done) old t new a b first second = second ∙ ap (λ l. l ++ b) first ∙ append_assoc old a b
two_parts (Err refused) old t new a b first second = tt

pub then_part : (r : Result (Unit {0}) AllocError) (old t new a b : List ℕ) → t ≡ old ++ a → OnOk r (new ≡ t ++ b) → OnOk r (new ≡ old ++ (a ++ b))
then_part (Ok done) old t new a b first second = second ∙ ap (λ l. l ++ b) first ∙ append_assoc old a b
then_part (Err refused) old t new a b first second = tt

pub then_three : (r : Result (Unit {0}) AllocError) (old t u new a b c : List ℕ) → t ≡ old ++ a → u ≡ t ++ b → OnOk r (new ≡ u ++ c) → OnOk r (new ≡ old ++ (a ++ (b ++ c)))
then_three r old t u new a b c first second third =
    subst (λ (said : List ℕ). OnOk r (new ≡ old ++ said)) (append_assoc a b c) (then_part r old u new (a ++ b) c (second ∙ ap (λ l. l ++ b) first ∙ append_assoc old a b) third)

pub three_parts : (r : Result (Unit {0}) AllocError) (old t u new a b c : List ℕ) → t ≡ old ++ a → u ≡ t ++ b → Adds r u new c → OnOk r (new ≡ old ++ (a ++ (b ++ c)))
three_parts r old t u new a b c first second third =
    subst (λ (said : List ℕ). OnOk r (new ≡ old ++ said)) (append_assoc a b c) (two_parts r old u new (a ++ b) c (second ∙ ap (λ l. l ++ b) first ∙ append_assoc old a b) third)

-- a line of JSON
pub is_line : (line word spelled : List ℕ) (value told : Data) → line ≡ word ++ 10 ∷ [] → word ≡ spelled → spelled ≡ compact_text value → value ≡ told → line ≡ line_text told
is_line line word spelled value told adds is spells same = adds ∙ ap (λ l. l ++ 10 ∷ []) (is ∙ spells ∙ ap compact_text same)
