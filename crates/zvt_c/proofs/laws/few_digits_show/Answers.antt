use Rattle.std.proofs.Common.{◌≡◌, ◌≤◌, ℕ, zero, suc, ◌-◌, ◌+◌, cond, List, ◌++◌, count_by, drop, length, map, replicate, take, arith, refl, ap, ◌∙◌, length-drop}
use Rattle.std.proofs.lemmas.List.Sums.{count_by-le-length, sum_by-append}
use Rattle.std.proofs.lemmas.List.{length-map, length-take}
use Rattle.std.specs.Char.{is_ascii_digit}
use Rattle.zvt_c.specs.Cards.{between, masked, symbol}
use Rattle.zvt_c.proofs.laws.few_digits_show.Goals as goal

-- asterisks are no digits
no_digits : (n : ℕ) → count_by is_ascii_digit (replicate n 42) ≡ 0
no_digits zero = refl
no_digits (suc n) = no_digits n

first_few : (digits : List ℕ) → length (take 6 digits) ≤ 6
first_few digits = omega (arith, length-take 6 digits)

pub returns : goal.returns
returns c digits =
    let first : List ℕ = map symbol (take 6 digits) in
    let last : List ℕ = map symbol (drop (6 + between digits) digits) in
    let stars : List ℕ = replicate (between digits) 42 in
    let whole : count_by is_ascii_digit (masked digits) ≡ (count_by is_ascii_digit first + count_by is_ascii_digit stars) + count_by is_ascii_digit last =
    sum_by-append (λ x. cond (is_ascii_digit x) 1 0) (first ++ stars) last ∙ ap (λ (n : ℕ). n + count_by is_ascii_digit last) (sum_by-append (λ x. cond (is_ascii_digit x) 1 0) first stars) in
    let six : count_by is_ascii_digit first ≤ 6 = omega (arith, count_by-le-length is_ascii_digit first, length-map (take 6 digits) symbol, first_few digits) in
    let four : count_by is_ascii_digit last ≤ 4 =
    omega (arith, count_by-le-length is_ascii_digit last, length-map (drop (6 + between digits) digits) symbol, length-drop (6 + between digits) digits) in
    let none : count_by is_ascii_digit stars ≡ 0 = no_digits (between digits) in
    omega (arith, whole, six, four, none)
