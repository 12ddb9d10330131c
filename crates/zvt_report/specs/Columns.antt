-- Texts in columns.
use Rattle.std.specs.Prelude.{◌≡◌, ℕ, ◌-◌, List, ◌++◌, codes, length, replicate, refl}

-- at the right end of a column; a longer text is wider than its column
abbrev pub right_aligned : (width : ℕ) → List ℕ → List ℕ
right_aligned width text = replicate (width - length text) 32 ++ text

-- at the left end
abbrev pub left_aligned : (width : ℕ) → List ℕ → List ℕ
left_aligned width text = text ++ replicate (width - length text) 32

at_the_right : right_aligned 5 (codes "ab") ≡ codes "   ab"
at_the_right = refl

at_the_left : left_aligned 5 (codes "ab") ≡ codes "ab   "
at_the_left = refl

too_long : right_aligned 2 (codes "abc") ≡ codes "abc"
too_long = refl
