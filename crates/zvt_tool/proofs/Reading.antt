-- From what clap's matches answer to the rows of the reading.
use Rattle.std.proofs.Common.{◌≡◌, ◌∙◌, ◌+◌, ◌≤◌, ◌<◌, ◌^◌, sym, ap, refl, subst, arith, ℕ, List, [], Option, Some, None, Result, Ok, Err, map, option_map, unwrap_or, Bor}
use Rattle.std.specs.Str.Parse.{ParsesUnsigned, digits_value, without_leading_plus}
use Rattle.clap.specs.Matches.{ReadsOne, one_text, raw_values, matched_of}
use Rattle.clap.specs.Walk.{Row, Text, all_of, rows_of}
use Rattle.clap.specs.declared.parser.matches.Found.{Found}
use Rattle.clap.proofs.WalkLemmas.{one_text-rows, raw_values-rows}
use Rattle.zvt_tool.specs.Given.{GivesNumber, IsNumberOf}

-- a number that `get_one` reads is the option's, and where it reads none the option has none
pub number_read : {E : Type 0} (gives : Text → Result ℕ E → Type 0) (bits most : ℕ) (f : Found) (id : Text) (r : Option ℕ)
    → ((t : Text) (n : Result ℕ E) → gives t n → ParsesUnsigned bits 10 t n) → most + 1 ≡ 2 ^ bits
    → (one_text f id ≡ None → r ≡ None)
    → ((t : Text) → one_text f id ≡ Some t → ReadsOne gives t r)
    → IsNumberOf id (rows_of f) most r
number_read gives bits most f id (Some n) parses fits none value = go (one_text f id) refl
  where
    go : (o : Option Text) → one_text f id ≡ o → GivesNumber id (rows_of f) most n
    go None e = let bad = none e in cc
    go (Some t) e =
        let parsed = parses t (Ok n) (value t e) in
        let small : n < 2 ^ bits = subst (λ (m : ℕ). m < 2 ^ bits) (sym parsed.1) parsed.0.1 in
        (t, sym (one_text-rows f id) ∙ e, parsed.0.0, sym parsed.1, omega (arith, small, fits))
number_read gives bits most f id None parses fits none value = λ n given.
    let read = value given.0 (one_text-rows f id ∙ given.1) in
    let is : digits_value 10 (without_leading_plus given.0) ≡ n = given.3 in
    absurd (parses given.0 (Err read.0) read.1 (given.2, subst (λ (m : ℕ). m < 2 ^ bits) (sym is) (omega (arith, given.4, fits))))

-- the option has one number
one_number : (id : Text) (rows : List Row) (most large n m : ℕ) → GivesNumber id rows large n → GivesNumber id rows most m → n ≡ m
one_number id rows most large n m a b =
    let same : a.0 ≡ b.0 = ap (λ (o : Option Text). unwrap_or o []) (sym a.1 ∙ b.1) in
    sym a.3 ∙ (ap (λ (t : Text). digits_value 10 (without_leading_plus t)) same ∙ b.3)

-- the same number under a smaller limit, in each case
pub none_under : (id : Text) (rows : List Row) (most large : ℕ) (r : Option ℕ) → IsNumberOf id rows large r → r ≡ None → most ≤ large
    → IsNumberOf id rows most None
none_under id rows most large None known e le = λ n given. known n (given.0, given.1, given.2, given.3, omega (arith, given.4, le))
none_under id rows most large (Some m) known e le = let bad = e in cc

pub some_under : (id : Text) (rows : List Row) (most large n : ℕ) (r : Option ℕ) → IsNumberOf id rows large r → r ≡ Some n → n ≤ most
    → IsNumberOf id rows most (Some n)
some_under id rows most large n r known e le =
    let given = subst (IsNumberOf id rows large) e known in
    (given.0, given.1, given.2, given.3, le)

pub some_over : (id : Text) (rows : List Row) (most large n : ℕ) (r : Option ℕ) → IsNumberOf id rows large r → r ≡ Some n → most < n
    → IsNumberOf id rows most None
some_over id rows most large n r known e lt = λ m given.
    let is = one_number id rows most large n m (subst (IsNumberOf id rows large) e known) given in
    omega (arith, is, lt, given.4)

-- the words of an argument are what the matches hold of them
pub words_known : (f : Found) (id : Text) (o : Option (Bor (List (Bor (List ℕ))))) → option_map (λ s. map (λ v. v.now) s.now) o ≡ option_map raw_values (matched_of f id)
    → unwrap_or (option_map (λ s. map (λ v. v.now) s.now) o) [] ≡ unwrap_or (all_of id (rows_of f)) []
words_known f id o e = ap (λ (v : Option (List Text)). unwrap_or v []) (e ∙ raw_values-rows f id)
