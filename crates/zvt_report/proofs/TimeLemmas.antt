-- JSON escapes no character of a moment.
use Rattle.std.proofs.Common.{◌≡◌, ℕ, ◌+◌, ◌/◌, ◌%◌, ◌<◌, ◌==◌, Bool, true, false, inl, inr, List, [], ◌∷◌, ◌++◌, codes, if◌then◌else◌, refl, sym, ◌∙◌, ap, ap₂, arith, append_assoc}
use Rattle.std.proofs.lemmas.Bool.{cases_Bool}
use Rattle.std.proofs.lemmas.Bool.Decides.{nat_tests}
use Rattle.json.specs.Print.{escape, escape_byte}
use Rattle.zvt_json.proofs.EscapeLemmas.{escape_all_plain, escape_plain}
use Rattle.zvt_text.specs.Bytes.{is_plain}
use Rattle.zvt_trace.specs.Marks.{clock_text, date_text, fraction_text, moment_text, three_digits, two_digits}
use Rattle.zvt_trace.specs.declared.moment.Moment.{Moment}

escape_append : (xs ys : List ℕ) → escape (xs ++ ys) ≡ escape xs ++ escape ys
escape_append [] ys = refl
escape_append (x ∷ xs) ys = ap (λ (l : List ℕ). escape_byte x ++ l) (escape_append xs ys) ∙ sym (append_assoc (escape_byte x) (escape xs) (escape ys))

both_plain : (xs ys : List ℕ) → escape xs ≡ xs → escape ys ≡ ys → escape (xs ++ ys) ≡ xs ++ ys
both_plain xs ys first second = escape_append xs ys ∙ ap₂ (λ (a b : List ℕ). a ++ b) first second

digit_plain : (d : ℕ) → d < 10 → is_plain (48 + d) ≡ true
digit_plain d small = grind (arith, nat_tests)

two_plain : (n : ℕ) → escape (two_digits n) ≡ two_digits n
two_plain n =
    let a = escape_plain (48 + n / 10 % 10) (digit_plain (n / 10 % 10) (omega arith)) in
    let b = escape_plain (48 + n % 10) (digit_plain (n % 10) (omega arith)) in
    rw (a, b) refl

three_plain : (n : ℕ) → escape (three_digits n) ≡ three_digits n
three_plain n =
    let a = escape_plain (48 + n / 100 % 10) (digit_plain (n / 100 % 10) (omega arith)) in
    let b = escape_plain (48 + n / 10 % 10) (digit_plain (n / 10 % 10) (omega arith)) in
    let c = escape_plain (48 + n % 10) (digit_plain (n % 10) (omega arith)) in
    rw (a, b, c) refl

-- a mark between two texts
between : (xs : List ℕ) (mark : ℕ) (ys : List ℕ) → is_plain mark ≡ true → escape xs ≡ xs → escape ys ≡ ys → escape (xs ++ mark ∷ ys) ≡ xs ++ mark ∷ ys
between xs mark ys plain first second =
    both_plain xs (mark ∷ ys) first (ap₂ (λ (a b : List ℕ). a ++ b) (escape_plain mark plain) second)

date_plain : (m : Moment) → escape (date_text m) ≡ date_text m
date_plain m =
    both_plain (two_digits (m.year / 100)) _ (two_plain (m.year / 100))
    (between (two_digits (m.year % 100)) 45 _ refl (two_plain (m.year % 100)) (between (two_digits m.month) 45 _ refl (two_plain m.month) (two_plain m.day)))

clock_plain : (m : Moment) → escape (clock_text m) ≡ clock_text m
clock_plain m = between (two_digits m.hour) 58 _ refl (two_plain m.hour) (between (two_digits m.minute) 58 _ refl (two_plain m.minute) (two_plain m.second))

fraction_plain : (n : ℕ) → escape (fraction_text n) ≡ fraction_text n
fraction_plain n =
    let few = three_plain (n / 1_000_000) in
    let more = both_plain (three_digits (n / 1_000_000)) (three_digits (n / 1_000) ++ three_digits n) few (both_plain (three_digits (n / 1_000)) (three_digits n) (three_plain (n / 1_000)) (three_plain n)) in
    elim (cases_Bool (n % 1_000_000 == 0)) [
      | inl whole ↦ rw whole few
      | inr finer ↦ rw finer more
    ]

pub moment_plain : (m : Moment) → escape (moment_text m) ≡ moment_text m
moment_plain m =
    between (date_text m) 84 _ refl (date_plain m)
    (between (clock_text m) 46 _ refl (clock_plain m) (both_plain (fraction_text m.nanosecond) (codes "Z") (fraction_plain m.nanosecond) (escape_all_plain (codes "Z") refl)))
