-- Tests of a byte, one after another, with the reason of each.
use Rattle.std.specs.Prelude.{ℕ, ◌+◌, ◌==◌, ◌||◌, nat_le, Bool, true, false, Option, Some}
use Rattle.zvt_grammar.specs.declared.why.Why.{Why}

-- The reason where the test fails, else what the other tests say.
abbrev pub check : Bool → Why → Option Why → Option Why
check true why others = others
check false why others = Some why

-- An item of m more bytes ends its level, or leaves room for another one: an item has two bytes at least.
abbrev pub fits : ℕ → ℕ → Bool
fits m left = (left == m) || nat_le (m + 2) left
