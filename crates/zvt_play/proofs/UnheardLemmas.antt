-- Bytes that are taken away from the front of what is unheard.
use Rattle.std.proofs.Common.{◌≡◌, ℕ, ◌+◌, ◌-◌, ◌≤◌, List, take, drop, sym, ◌∙◌, ap, arith}
use Rattle.std.proofs.lemmas.List.{drop-drop, drop-take}

pub dropped : (chunk : List ℕ) (from to count : ℕ) → from + count ≤ to → take (to - (from + count)) (drop (from + count) chunk) ≡ drop count (take (to - from) (drop from chunk))
dropped chunk from to count within =
    let rest : ℕ = to - (from + count) in
    let all : count + rest ≡ to - from = omega arith in
    sym (ap (λ (k : ℕ). drop count (take k (drop from chunk))) (sym all) ∙ drop-take count rest (drop from chunk) ∙ ap (take rest) (drop-drop count from chunk))
