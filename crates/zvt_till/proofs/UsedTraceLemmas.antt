-- The bits of a set of trace numbers.
use Rattle.std.proofs.Common.{◌≡◌, ◌≢◌, ℕ, zero, suc, ◌-◌, ◌*◌, ◌/◌, ◌%◌, ◌^◌, ◌<◌, ◌≤◌, true, false, ◌||◌, nat_eq, List, [], ◌∷◌, ◌++◌, length, get_or, set, slice_get, Some, take, replicate, bit_and, bit_or, ap₂, refl, ap, sym, ◌∙◌, ◌⊎◌, inl, inr, arith, w64}
use Rattle.std.specs.Int.{bit_at}
use Rattle.std.proofs.lemmas.Bool.Decides.{eqb_tells}
use Rattle.std.proofs.lemmas.List.{take_all, get_or-set_same, get_or-set_other}
use Rattle.std.proofs.lemmas.Nat.Bits.{bit_at-zero, shr_and_one, bit_at_set_same, bit_at_set_other}
use Rattle.zvt_till.specs.declared.entries.Entry.{Entry}
use Rattle.zvt_till.specs.Outcomes.{trace_used}
use Rattle.zvt_till.specs.UsedTraces.{has}

-- the bit of a number whose word is 0
unset : (words : List ℕ) (number : ℕ) → get_or words (number / 64) 0 ≡ 0 → has words number ≡ false
unfolding has
unset words number e = ap (λ word. nat_eq (bit_at word (number % 64)) 1) e ∙ ap (λ bit. nat_eq bit 1) (bit_at-zero (number % 64))

pub has-none : (number : ℕ) → has [] number ≡ false
has-none number = unset [] number refl

-- the test of one bit
pub has-bit : (used : List ℕ) (trace number word : ℕ) → number ≡ trace → word ≡ get_or used (number / 64) 0
    → nat_eq (bit_and (word / 2 ^ (number % 64)) 1) 1 ≡ has used trace
unfolding has
has-bit used trace number word same is =
    ap (λ bit. nat_eq bit 1) (shr_and_one word (number % 64))
    ∙ ap₂ (λ w n. nat_eq (bit_at w (n % 64)) 1) is same
    ∙ ap (λ n. nat_eq (bit_at (get_or used (n / 64) 0) (trace % 64)) 1) same

-- after the last word
pub has-after : (used : List ℕ) (trace number : ℕ) → number ≡ trace → 0 ≡ get_or used (number / 64) 0 → false ≡ has used trace
has-after used trace number same is = sym (unset used trace (ap (λ n. get_or used (n / 64) 0) (sym same) ∙ sym is))

-- zeros after the last word
zeros : (words : List ℕ) (more k : ℕ) → get_or (words ++ replicate more 0) k 0 ≡ get_or words k 0
zeros [] zero k = refl
zeros [] (suc more) zero = refl
zeros [] (suc more) (suc k) = zeros [] more k
zeros (word ∷ words) more zero = refl
zeros (word ∷ words) more (suc k) = zeros words more k

pub has-grown : (words used : List ℕ) (n len : ℕ) → words ≡ used → len ≡ length words → len ≤ n
    → (number : ℕ) → has (take n words ++ replicate (n - len) 0) number ≡ has used number
unfolding has
has-grown words used n len same is le number =
    ap (λ ws. has (ws ++ replicate (n - len) 0) number) (take_all n words (omega arith))
    ∙ ap (λ word. nat_eq (bit_at word (number % 64)) 1) (zeros words (n - len) (number / 64))
    ∙ ap (λ ws. has ws number) same

-- the word of a trace number with its bit set
abbrev pub with_bit : ℕ → ℕ → ℕ
with_bit word trace = bit_or word (1 * 2 ^ (trace % 64) % 18446744073709551616)

-- two numbers are one, or two
abbrev Told : ℕ → ℕ → Type 0
Told a b = ((nat_eq a b ≡ true) × (a ≡ b)) ⊎ ((nat_eq a b ≡ false) × (a ≢ b))

set-same : (word trace number : ℕ) → trace ≡ number → bit_at (with_bit word trace) (number % 64) ≡ 1
set-same word trace number same = ap (λ n. bit_at (with_bit word trace) (n % 64)) (sym same) ∙ bit_at_set_same w64 word (trace % 64) (omega arith)

set-apart : (word trace number : ℕ) → trace ≢ number → number / 64 ≡ trace / 64 → bit_at (with_bit word trace) (number % 64) ≡ bit_at word (number % 64)
set-apart word trace number apart e =
    let other : number % 64 ≢ trace % 64 = λ q. apart (omega arith) in bit_at_set_other w64 word (trace % 64) (omega arith) (number % 64) other

abbrev kept : List ℕ → ℕ → ℕ → List ℕ
kept words trace word = set words (trace / 64) (with_bit word trace)

in_word : (words : List ℕ) (trace word number : ℕ) → trace / 64 < length words → number / 64 ≡ trace / 64
    → get_or (kept words trace word) (number / 64) 0 ≡ with_bit word trace
in_word words trace word number within e =
    ap (λ k. get_or (kept words trace word) k 0) e ∙ get_or-set_same words (trace / 64) (with_bit word trace) 0 within

by_number : (words : List ℕ) (trace word number : ℕ) → trace / 64 < length words → word ≡ get_or words (trace / 64) 0
    → Told trace number → Told (number / 64) (trace / 64)
    → has (kept words trace word) number ≡ (nat_eq trace number || has words number)
unfolding has
by_number words trace word number within is (inl same) place =
    let e : number / 64 ≡ trace / 64 = ap (λ n. n / 64) (sym same.1) in
    ap (λ w. nat_eq (bit_at w (number % 64)) 1) (in_word words trace word number within e)
    ∙ ap (λ bit. nat_eq bit 1) (set-same word trace number same.1)
    ∙ sym (ap (λ b. b || has words number) same.0)
by_number words trace word number within is (inr apart) (inl place) =
    ap (λ w. nat_eq (bit_at w (number % 64)) 1) (in_word words trace word number within place.1)
    ∙ ap (λ bit. nat_eq bit 1) (set-apart word trace number apart.1 place.1)
    ∙ ap (λ w. nat_eq (bit_at w (number % 64)) 1) (is ∙ ap (λ k. get_or words k 0) (sym place.1))
    ∙ sym (ap (λ b. b || has words number) apart.0)
by_number words trace word number within is (inr apart) (inr place) =
    ap (λ w. nat_eq (bit_at w (number % 64)) 1) (get_or-set_other words (trace / 64) (number / 64) (with_bit word trace) 0 place.1)
    ∙ sym (ap (λ b. b || has words number) apart.0)

pub has-inserted : (words used : List ℕ) (trace number word : ℕ) → words ≡ used → number ≡ trace → number / 64 < length words → word ≡ get_or words (number / 64) 0
    → (other : ℕ) → has (set words (number / 64) (with_bit word number)) other ≡ (nat_eq trace other || has used other)
has-inserted words used trace number word same is within held other =
    by_number words number word other within held (eqb_tells number other) (eqb_tells (other / 64) (number / 64))
    ∙ ap₂ (λ t ws. nat_eq t other || has ws other) is same

-- an entry that changes but for its trace number leaves the numbers
pub used-changed : (number : ℕ) (book : List Entry) (i : ℕ) (row changed : Entry) → i < length book → row ≡ get_or book i row → changed.trace ≡ row.trace
    → trace_used number (set book i changed) ≡ trace_used number book
used-changed number [] i row changed within is same = absurd (omega arith)
used-changed number (entry ∷ book) zero row changed within is same = ap (λ (t : ℕ). nat_eq t number || trace_used number book) (same ∙ ap (λ (e : Entry). e.trace) is)
used-changed number (entry ∷ book) (suc i) row changed within is same = ap (λ b. nat_eq entry.trace number || b) (used-changed number book i row changed (omega arith) is same)

-- the entry that is read is the one at its place
pub read_is : (book : List Entry) (i : ℕ) (row : Entry) → i < length book → row ≡ get_or book i row → slice_get book i ≡ Some row
read_is [] i row within is = absurd (omega arith)
read_is (entry ∷ book) zero row within is = ap Some (sym is)
read_is (entry ∷ book) (suc i) row within is = read_is book i row (omega arith) is
