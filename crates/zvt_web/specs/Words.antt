-- Parts of texts.
use Rattle.std.specs.Prelude.{◌≡◌, ℕ, ◌-◌, Bool, cond, List, [], codes, length, map, take, drop, true, false, Option, Some, None}
use Rattle.std.specs.Char.{to_ascii_lowercase}
use Rattle.std.specs.Str.{bytes_eq}

-- what follows this prefix, if the text begins with it
abbrev pub trailing : (prefix text : List ℕ) → Option (List ℕ)
trailing prefix text = cond (bytes_eq (take (length prefix) text) prefix) (Some (drop (length prefix) text)) None

-- what stands before this suffix, if the text ends with it
abbrev pub leading : (suffix text : List ℕ) → Option (List ℕ)
leading suffix text =
    cond (bytes_eq (drop (length text - length suffix) text) suffix) (Some (take (length text - length suffix) text)) None

-- the texts are equal if upper and lower case count as the same
abbrev pub same_letters : (one other : List ℕ) → Bool
same_letters one other = bytes_eq (map to_ascii_lowercase one) (map to_ascii_lowercase other)

-- ---- worked rows

abbrev pub WordRows : Type 0
WordRows =
    (trailing (codes "Bearer ") (codes "Bearer abc") ≡ Some (codes "abc")) ×
    (trailing (codes "Bearer ") (codes "Bearer") ≡ None) ×
    (trailing (codes "Bearer ") (codes "bearer abc") ≡ None) ×
    (leading (codes "/reversal") (codes "sale-1/reversal") ≡ Some (codes "sale-1")) ×
    (leading (codes "/reversal") (codes "/reversal") ≡ Some []) ×
    (leading (codes "/reversal") (codes "sale-1") ≡ None) ×
    (leading (codes "/reversal") (codes "reversal") ≡ None) ×
    (same_letters (codes "LocalHost:80") (codes "localhost:80") ≡ true) ×
    (same_letters (codes "localhost:80") (codes "localhost:81") ≡ false) ×
    (same_letters (codes "localhost") (codes "localhost:80") ≡ false)
