-- The amount that six bytes of digits spell.
use Rattle.std.proofs.Common.{◌≡◌, ◌/◌, ◌%◌, ℕ, Bool, true, cond, List, [], ◌∷◌, None, ap, refl, sym}
use Rattle.std.proofs.lemmas.Bool.{le-leb}
use Rattle.std.proofs.lemmas.List.Elements.{All-head, All-tail}
use Rattle.std.specs.List.{list_all}
use Rattle.zvt_bcd.specs.Digits.{AreDigits, IsDigitPair, is_digit_pair, number_of}
use Rattle.zvt_field.specs.Named.{positive}
use Rattle.zvt_term.specs.Extras.{amount_in}

one_passes : (x : ℕ) → IsDigitPair x → is_digit_pair x ≡ true
one_passes x p = rw (le-leb (x / 16) 9 p.0, le-leb (x % 16) 9 p.1) refl

all_pass : (s : List ℕ) → AreDigits s → list_all is_digit_pair s ≡ true
all_pass [] p = refl
all_pass (x ∷ s) p = rw (one_passes x (All-head IsDigitPair x s p)) (all_pass s (All-tail IsDigitPair x s p))

pub digits_amount : (s : List ℕ) → AreDigits s → positive (number_of s) ≡ amount_in s
digits_amount s p = ap (λ (b : Bool). cond b (positive (number_of s)) None) (sym (all_pass s p))
