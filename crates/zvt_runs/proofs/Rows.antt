-- Lines of rows, each with its place.
use Rattle.std.proofs.Common.{◌≡◌, ℕ, ◌+◌, ◌<◌, List, [], ◌∷◌, ◌++◌, ◌∙◌, add-one, ap, ap₂, append_assoc, append-nil, arith, length, sym, take}
use Rattle.std.specs.List.{enumerate_from, flat_map}
use Rattle.std.proofs.lemmas.Grind.{flat_map-append}

enumerate_last : {A : Type 0} (n : ℕ) (rows : List A) (row : A) → enumerate_from n (rows ++ row ∷ []) ≡ enumerate_from n rows ++ (n + length rows, row) ∷ []
enumerate_last n [] row = ap (λ (k : ℕ). (k, row) ∷ []) (omega arith)
enumerate_last {A} n (first ∷ rows) row =
    ap (λ (l : List (ℕ × A)). (n, first) ∷ l) (enumerate_last (n + 1) rows row ∙ ap (λ (k : ℕ). enumerate_from (n + 1) rows ++ (k, row) ∷ []) (omega arith))

-- one row more is written
pub rows_more : {A : Type 0} (line : ℕ × A → List ℕ) (n : ℕ) (rows : List A) (row : A)
    → flat_map line (enumerate_from n (rows ++ row ∷ [])) ≡ flat_map line (enumerate_from n rows) ++ line (n + length rows, row)
rows_more line n rows row =
    ap (flat_map line) (enumerate_last n rows row) ∙ flat_map-append line (enumerate_from n rows) ((n + length rows, row) ∷ [])
    ∙ ap (λ (l : List ℕ). flat_map line (enumerate_from n rows) ++ l) (append-nil (line (n + length rows, row)))

-- the text after one row more
pub row_added : {A : Type 0} (line : ℕ × A → List ℕ) (n : ℕ) (first more : List A) (row : A) (start now next : List ℕ) (number : ℕ) → number ≡ n + length first → more ≡ first ++ row ∷ []
    → now ≡ start ++ flat_map line (enumerate_from n first) → next ≡ now ++ line (number, row) → next ≡ start ++ flat_map line (enumerate_from n more)
row_added line n first more row start now next number counts grown before adds =
    adds ∙ ap₂ (λ (a b : List ℕ). a ++ b) before (ap (λ (k : ℕ). line (k, row)) counts)
    ∙ append_assoc start (flat_map line (enumerate_from n first)) (line (n + length first, row))
    ∙ ap (λ (l : List ℕ). start ++ l) (sym (rows_more line n first row) ∙ ap (λ r. flat_map line (enumerate_from n r)) (sym grown))
