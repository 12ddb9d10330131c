-- A run of the judge over a piece: the byte after those that were judged.
use Rattle.std.proofs.Common.{◌≡◌, ℕ, ◌+◌, ◌<◌, ◌≤◌, min, suc, List, [], ◌∷◌, ◌++◌, length, take, get_or, set, sym, ◌∙◌, ap, subst, append_assoc, arith, length-append}
use Rattle.std.proofs.lemmas.List.{length-take-le, take_more_set, take-append-le, take-take}
use Rattle.std.proofs.Math.Seq.{take-append-add, take-suc}
use Rattle.zvt_grammar.specs.Reading.{Reading}
use Rattle.zvt_stream.specs.Apdus.{UnfinishedIn}
use Rattle.zvt_stream.proofs.Beginnings.{few_in}
use Rattle.zvt_stream.specs.Judge.{JudgeState, StandsFor}

pub byte_after : (held bytes : List ℕ) (k : ℕ) → k < length bytes → (held ++ take k bytes) ++ get_or bytes k 0 ∷ [] ≡ held ++ take (k + 1) bytes
byte_after held bytes k lt =
    let one : suc k ≡ k + 1 = omega arith in
    append_assoc held (take k bytes) (get_or bytes k 0 ∷ []) ∙ ap (λ (t : List ℕ). held ++ t) (sym (take-suc bytes k 0 lt) ∙ ap (λ (n : ℕ). take n bytes) one)

pub stands_after : (judge : JudgeState) (held bytes : List ℕ) (k : ℕ) → k < length bytes → StandsFor judge ((held ++ take k bytes) ++ get_or bytes k 0 ∷ []) → StandsFor judge (held ++ take (k + 1) bytes)
stands_after judge held bytes k lt s = subst (StandsFor judge) (byte_after held bytes k lt) s

-- a byte more that was written
pub written_more : (bytes room : List ℕ) (k : ℕ) → k < length bytes → k < length room → take k room ≡ take k bytes → take (k + 1) (set room k (get_or bytes k 0)) ≡ take (k + 1) bytes
written_more bytes room k lt below same =
    let one : suc k ≡ k + 1 = omega arith in
    take_more_set room k (get_or bytes k 0) below ∙ ap (λ (t : List ℕ). t ++ get_or bytes k 0 ∷ []) same ∙ sym (take-suc bytes k 0 lt) ∙ ap (λ (n : ℕ). take n bytes) one

-- a byte that goes on with what begins a message has room
pub has_room : (r : Reading) (held bytes : List ℕ) (k room : ℕ) → k < length bytes → UnfinishedIn r (held ++ take k bytes) → min (length held + length bytes) 65540 ≤ length held + room → k < room
has_room r held bytes k room lt u made =
    let few = few_in r (held ++ take k bytes) u in
    omega (arith, few, length-append held (take k bytes), length-take-le k bytes (omega (arith, lt)), made, lt)

-- what a buffer holds after bytes were written behind what it held
pub held_after : (size n room : ℕ) (bytes items written more rest piece : List ℕ) → bytes ≡ items → size ≤ length bytes → size + n ≤ room → n ≤ length written → take n written ≡ take n piece
    → take (size + n) (take room ((take size bytes ++ (written ++ more)) ++ rest)) ≡ take size items ++ take n piece
held_after size n room bytes items written more rest piece same within fits few is =
    let front = take size bytes in
    let long : length front ≡ size = length-take-le size bytes within in
    take-take (size + n) room ((front ++ (written ++ more)) ++ rest) fits
    ∙ ap (λ (t : List ℕ). take (size + n) t) (append_assoc front (written ++ more) rest)
    ∙ ap (λ (m : ℕ). take (m + n) (front ++ ((written ++ more) ++ rest))) (sym long)
    ∙ take-append-add front ((written ++ more) ++ rest) n
    ∙ ap (λ (t : List ℕ). front ++ t) (take-append-le n (written ++ more) rest (omega (arith, few, length-append written more)) ∙ take-append-le n written more few ∙ is)
    ∙ ap (λ (t : List ℕ). take size t ++ take n piece) same
