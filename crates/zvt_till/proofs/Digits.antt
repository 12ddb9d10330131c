-- Bytes that are digits pass the test for it.
use Rattle.std.proofs.Common.{◌≡◌, ℕ, Bool, true, false, ◌&&◌, nat_eq, IsTrue, ◌↔◌, List, [], ◌∷◌, refl, sym, ap, ap₂, subst, ◌∙◌}
use Rattle.std.specs.List.{list_all}
use Rattle.std.proofs.lemmas.List.Elements.{All-nil, All-cons, All-head, All-tail}
use Rattle.zvt_bcd.specs.Digits.{IsDigitPair, AreDigits, is_digit_pair, number_of}
use Rattle.zvt_bcd.proofs.PairTests.{is_pair_test, is_pair}
use Rattle.zvt_till.specs.Statuses.{spells}

pub digits-test : (bytes : List ℕ) → AreDigits bytes → list_all is_digit_pair bytes ≡ true
digits-test [] d = refl
digits-test (byte ∷ bytes) d =
    ap₂ (λ a b. a && b) (is_pair_test byte (All-head IsDigitPair byte bytes d)) (digits-test bytes (All-tail IsDigitPair byte bytes d))

both : (a b : Bool) → (a && b) ≡ true → (a ≡ true) × (b ≡ true)
both true b e = (refl, e)
both false b e = absurd cc

test-digits : (bytes : List ℕ) → list_all is_digit_pair bytes ≡ true → AreDigits bytes
test-digits [] e = All-nil IsDigitPair
test-digits (byte ∷ bytes) e =
    let tests = both (is_digit_pair byte) (list_all is_digit_pair bytes) e in
    All-cons IsDigitPair byte bytes (is_pair byte tests.0) (test-digits bytes tests.1)

-- an answer that says whether bytes are digits is the test
pub digits-tested : (bytes : List ℕ) (b : Bool) → (IsTrue b ↔ AreDigits bytes) → b ≡ list_all is_digit_pair bytes
digits-tested bytes true d = sym (digits-test bytes (d.0 refl))
digits-tested bytes false d = by_test (list_all is_digit_pair bytes) refl
  where
    by_test : (c : Bool) → list_all is_digit_pair bytes ≡ c → false ≡ c
    by_test true e = d.1 (test-digits bytes e)
    by_test false e = refl

-- the test as the code makes it, over copies of the bytes and of the number
pub spells-tested : (bytes first second : List ℕ) (trace wide n : ℕ) (b : Bool)
    → first ≡ bytes → (IsTrue b ↔ AreDigits first) → b ≡ true → second ≡ bytes → n ≡ number_of second → wide ≡ trace
    → nat_eq n wide ≡ spells bytes trace
spells-tested bytes first second trace wide n b e1 d yes_digits e2 en ew =
    let digits : AreDigits first = d.0 yes_digits in
    let all : list_all is_digit_pair bytes ≡ true = subst (λ x. list_all is_digit_pair x ≡ true) e1 (digits-test first digits) in
    ap₂ (λ x y. nat_eq x y) (en ∙ ap number_of e2) ew ∙ ap (λ a. a && nat_eq (number_of bytes) trace) (sym all)
