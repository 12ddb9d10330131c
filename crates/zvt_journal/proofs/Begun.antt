-- Parts of the first record.
use Rattle.std.proofs.Common.{◌≡◌, ℕ, ◌≤◌, ◌<◌, false, List, [], ◌∷◌, length, drop, refl, ◌∙◌, ap, arith, length-drop}
use Rattle.std.proofs.lemmas.List.{drop_all}
use Rattle.zvt_journal.specs.Files.{is_part}

some_left : (rest : List ℕ) → 0 < length rest → is_part rest [] ≡ false
some_left [] some = absurd (omega (arith, some))
some_left (byte ∷ rest) some = refl

-- what is longer than the wanted bytes is no part of them
pub past_end : (part wanted : List ℕ) (at : ℕ) → at < length part → length wanted ≤ at → is_part (drop at part) (drop at wanted) ≡ false
past_end part wanted at lt le =
    ap (λ (l : List ℕ). is_part (drop at part) l) (drop_all at wanted le) ∙ some_left (drop at part) (omega (arith, lt, length-drop at part))
