-- Hexadecimal text, pair by pair.
use Rattle.std.proofs.Common.{◌≡◌, ◌≢◌, ◌∙◌, sym, ap, subst, refl, arith, ℕ, zero, suc, ◌+◌, ◌-◌, ◌*◌, ◌%◌, ◌<◌, Bool, true, false, ◌⊎◌, inl, inr, List, [], ◌∷◌, ◌++◌, length, take, drop, slice_index, slice_set, ◌&&◌, ◌==◌, ◌≤◌, Option, None, Some, Result, Ok, Err, unwrap_or, append_assoc, append-nil, length-append, length-drop}
use Rattle.std.specs.Char.{IsAsciiHexdigit, IsNotAsciiHexdigit}
use Rattle.std.specs.Prelude.{IsErr, IsSome, MatchBool, MatchOption}
use Rattle.std.proofs.lemmas.Bool.{and_parts, cases_eq, cases_lt, eqb-true}
use Rattle.std.proofs.lemmas.Bool.Decides.{nat_tests}
use Rattle.std.proofs.lemmas.List.{length-take, take_all, take_more, take_more_set}
use Rattle.hex.specs.Hex.{decode_of, decode_pairs, digit_or_error, hex_digit_value, ◌>>=◌}
use Rattle.hex.specs.declared.error.FromHexError.{FromHexError}
use Rattle.hex.proofs.HexLemmas.{decode_of-even, decode_of-odd}
use Rattle.zvt_trace.specs.Meanings.{SpellsBytes, bytes_of, piece, piece_of, without_spaces}
use Rattle.zvt_trace.specs.Spelled.{AreHex, IsDigit, pair_before, spells, after_bytes, worth}
use Rattle.zvt_trace.specs.declared.direction.Direction.{Direction}
use Rattle.zvt_trace.specs.declared.fault.TraceLineError.TheVariants.{Hex}

-- the bytes of a result
abbrev pub bytes_in : Result (List ℕ) FromHexError → Option (List ℕ)
bytes_in (Ok bytes) = Some bytes
bytes_in (Err e) = None

-- ---- `spells` is the definition of the crate `hex`

pair_result : (c d i : ℕ) (h l : Option ℕ) (r : Result (List ℕ) FromHexError)
    → bytes_in ((digit_or_error c i h >>= (λ a. digit_or_error d (i + 1) l >>= (λ b. Ok (a * 16 + b)))) >>= (λ byte. r >>= (λ bytes. Ok (byte ∷ bytes))))
    ≡ pair_before h l (bytes_in r)
pair_result c d i None l r = refl
pair_result c d i (Some h) None r = refl
pair_result c d i (Some h) (Some l) (Ok bytes) = refl
pair_result c d i (Some h) (Some l) (Err e) = refl

spells-pairs : (i : ℕ) (s : List ℕ) → bytes_in (decode_pairs i s) ≡ spells s
unfolding decode_pairs spells
spells-pairs i [] = refl
spells-pairs i (digit ∷ []) = refl
spells-pairs i (high ∷ low ∷ rest) =
    pair_result high low i (hex_digit_value high) (hex_digit_value low) (decode_pairs (i + 2) rest)
    ∙ ap (pair_before (hex_digit_value high) (hex_digit_value low)) (spells-pairs (i + 2) rest)

no_pair : (h l : Option ℕ) → pair_before h l None ≡ None
no_pair None l = refl
no_pair (Some h) None = refl
no_pair (Some h) (Some l) = refl

spells-odd : (s : List ℕ) → length s % 2 ≡ 1 → spells s ≡ None
unfolding spells
spells-odd [] odd = absurd (omega arith)
spells-odd (digit ∷ []) odd = refl
spells-odd (high ∷ low ∷ rest) odd =
    ap (pair_before (hex_digit_value high) (hex_digit_value low)) (spells-odd rest (omega arith)) ∙ no_pair (hex_digit_value high) (hex_digit_value low)

pub spells-decode : (s : List ℕ) → bytes_in (decode_of s) ≡ spells s
spells-decode s =
    elim (cases_eq (length s % 2) 1) [
      | inl odd ↦ ap bytes_in (decode_of-odd s odd) ∙ sym (spells-odd s odd)
      | inr even ↦ ap bytes_in (decode_of-even s (omega arith)) ∙ spells-pairs 0 s
    ]

some_in : (r : Result (List ℕ) FromHexError) (bytes : List ℕ) → bytes_in r ≡ Some bytes → r ≡ Ok bytes
some_in (Ok b) bytes e = cc e
some_in (Err x) bytes e = cc e

none_in : (r : Result (List ℕ) FromHexError) → bytes_in r ≡ None → IsErr r
none_in (Ok b) e = cc e
none_in (Err x) e = refl

-- ---- digits

digit_is : (o : Option ℕ) (v : ℕ) → MatchOption o (15 < v) (λ is. v ≡ is) → v ≤ 15 → o ≡ Some v
digit_is None v h small = absurd (omega arith)
digit_is (Some w) v h small = ap Some (sym h)

no_digit : (d v : ℕ) → IsDigit d v → 15 < v → hex_digit_value d ≡ None
no_digit d v h big = by (hex_digit_value d) refl h
  where
    by : (o : Option ℕ) → hex_digit_value d ≡ o → MatchOption o (15 < v) (λ is. v ≡ is) → o ≡ None
    by None e h = refl
    by (Some w) e h =
        let small : w < 16 = grind arith in
        absurd (omega (arith, h))

-- whether the table has the value of each digit below n
abbrev pub emits_below : List ℕ → ℕ → Bool
emits_below table zero = true
emits_below table (suc n) = slice_index table n == worth n && emits_below table n

emits_at : (table : List ℕ) (n k : ℕ) → emits_below table n ≡ true → k < n → slice_index table k ≡ worth k
emits_at table zero k all lt = absurd (omega arith)
emits_at table (suc n) k all lt =
    let parts = and_parts (slice_index table n == worth n) (emits_below table n) all in
    elim (cases_lt k n) [
      | inl below ↦ emits_at table n k parts.1 below
      | inr top ↦
          let e : k ≡ n = omega arith in
          rw e (eqb-true _ _ parts.0)
    ]

pub worth_in : (table : List ℕ) (digit : ℕ) → digit < 256 → emits_below table 256 ≡ true → slice_index table digit ≡ worth digit
worth_in table digit lt all = emits_at table 256 digit all lt

pub digit_small : (d w : ℕ) → hex_digit_value d ≡ Some w → w ≤ 15
digit_small d w e = grind arith

worth_small : (d : ℕ) (o : Option ℕ) → hex_digit_value d ≡ o → unwrap_or o 256 ≤ 256
worth_small d None e = omega arith
worth_small d (Some w) e = omega (arith, digit_small d w e)

trace_event : (o : Option ℕ) (v : ℕ) → v ≡ unwrap_or o 256 → MatchOption o (15 < v) (λ is. v ≡ is)
trace_event None v e = omega (arith, e)
trace_event (Some w) v e = e

pub digit_in : (table : List ℕ) (digit : ℕ) → digit < 256 → emits_below table 256 ≡ true → IsDigit digit (slice_index table digit)
digit_in table digit lt all = trace_event _ _ (worth_in table digit lt all)

pub few_worth : (digit : ℕ) → worth digit ≤ 256
few_worth digit = worth_small digit (hex_digit_value digit) refl

-- two digits that add up to a byte
pub record AreDigits (a b sum : ℕ) : Type 0 where
  pub high : ℕ
  pub low : ℕ
  pub is_high : IsDigit a high
  pub is_low : IsDigit b low
  pub high_small : high ≤ 15
  pub low_small : low ≤ 15
  pub is_sum : sum ≡ high * 16 + low

pub are_digits : (a b : ℕ) → worth a * 16 + worth b < 256 → AreDigits a b (worth a * 16 + worth b)
are_digits a b few = by (hex_digit_value a) (hex_digit_value b) refl refl few
  where
    by : (o p : Option ℕ) → hex_digit_value a ≡ o → hex_digit_value b ≡ p → unwrap_or o 256 * 16 + unwrap_or p 256 < 256 → AreDigits a b (worth a * 16 + worth b)
    by None p e f few = absurd (omega (arith, few))
    by (Some h) None e f few = absurd (omega (arith, few))
    by (Some h) (Some l) e f few = record {
      high = h;
      low = l;
      is_high = rw e refl;
      is_low = rw f refl;
      high_small = digit_small a h e;
      low_small = digit_small b l f;
      is_sum = rw (e, f) refl;
    }

pub pair_spells : (a b : ℕ) (rest : List ℕ) → spells (a ∷ b ∷ rest) ≡ pair_before (hex_digit_value a) (hex_digit_value b) (spells rest)
unfolding spells
pair_spells a b rest = refl

-- ---- the steps of the loop

-- what follows the first byte
pub tail_is : (text : List ℕ) → take (length text - 1) (drop 1 text) ≡ drop 1 text
tail_is text = take_all _ _ (rw (length-drop 1 text) (omega arith))

first_kept : (text : List ℕ) → 1 ≤ length text → slice_index text 0 ≢ 32 → without_spaces text ≡ slice_index text 0 ∷ without_spaces (drop 1 text)
first_kept [] some other = absurd (omega arith)
first_kept (x ∷ xs) some other =
    let differs : (x == 32) ≡ false = grind (arith, nat_tests) in
    rw differs refl

after_pair : (done : List ℕ) (h l : ℕ) (o : Option (List ℕ)) → after_bytes (done ++ (h * 16 + l) ∷ []) o ≡ after_bytes done (pair_before (Some h) (Some l) o)
after_pair done h l None = refl
after_pair done h l (Some bytes) = ap (λ b. Some b) (append_assoc done ((h * 16 + l) ∷ []) bytes)

two_kept : (rest low next : List ℕ) → 1 ≤ length rest → slice_index rest 0 ≢ 32 → without_spaces low ≡ without_spaces (drop 1 rest)
    → 1 ≤ length low → slice_index low 0 ≢ 32 → without_spaces next ≡ without_spaces (drop 1 low)
    → without_spaces rest ≡ slice_index rest 0 ∷ slice_index low 0 ∷ without_spaces next
two_kept rest low next some other same some_low other_low same_next =
    first_kept rest some other ∙ ap (λ w. slice_index rest 0 ∷ w) (sym same ∙ first_kept low some_low other_low ∙ ap (λ w. slice_index low 0 ∷ w) (sym same_next))

-- a pair was read
pub read_pair : (text rest low next buffer : List ℕ) (count h l : ℕ) → count < length buffer
    → 1 ≤ length rest → slice_index rest 0 ≢ 32 → without_spaces low ≡ without_spaces (drop 1 rest)
    → 1 ≤ length low → slice_index low 0 ≢ 32 → without_spaces next ≡ without_spaces (drop 1 low)
    → IsDigit (slice_index rest 0) h → IsDigit (slice_index low 0) l → h ≤ 15 → l ≤ 15
    → after_bytes (take count buffer) (spells (without_spaces rest)) ≡ spells (without_spaces text)
    → after_bytes (take (count + 1) (slice_set buffer count (h * 16 + l))) (spells (without_spaces next)) ≡ spells (without_spaces text)
read_pair text rest low next buffer count h l fits some other same some_low other_low same_next dh dl sh sl so =
    let two = two_kept rest low next some other same some_low other_low same_next in
    let high = digit_is _ h dh sh in
    let last = digit_is _ l dl sl in
    let pair : spells (without_spaces rest) ≡ pair_before (Some h) (Some l) (spells (without_spaces next)) =
    ap spells two ∙ pair_spells _ _ _ ∙ rw (high, last) refl in
    rw (take_more_set buffer count (h * 16 + l) fits) (after_pair (take count buffer) h l _ ∙ ap (after_bytes (take count buffer)) (sym pair) ∙ so)

digit_no_space : (d v : ℕ) → IsDigit d v → v ≤ 15 → d ≢ 32
digit_no_space d v h small e = absurd (by d e h)
  where
    by : (n : ℕ) → n ≡ 32 → IsDigit n v → ⊥
    by n is trace_event = let at_space : IsDigit 32 v = subst (λ (k : ℕ). IsDigit k v) is trace_event in omega (arith, at_space, small)

kept_one : (x : ℕ) (xs : List ℕ) → x ≢ 32 → without_spaces (x ∷ xs) ≡ x ∷ without_spaces xs
kept_one x xs other = first_kept (x ∷ xs) (omega arith) other

two_more : (text : List ℕ) (n : ℕ) → n + 1 < length text → take (n + 1 + 1) text ≡ take n text ++ slice_index text n ∷ slice_index text (n + 1) ∷ []
two_more text n some =
    take_more text (n + 1) 0 some ∙ ap (λ (t : List ℕ). t ++ slice_index text (n + 1) ∷ []) (take_more text n 0 (omega (arith, some)))
    ∙ append_assoc (take n text) (slice_index text n ∷ []) (slice_index text (n + 1) ∷ [])

-- the prefix with one pair more
pair_more : (text : List ℕ) (count : ℕ) → 2 * count + 1 < length text → take (2 * (count + 1)) text ≡ take (2 * count) text ++ slice_index text (2 * count) ∷ slice_index text (2 * count + 1) ∷ []
pair_more text count some =
    let end : 2 * (count + 1) ≡ 2 * count + 1 + 1 = omega arith in
    ap (λ (k : ℕ). take k text) end ∙ two_more text (2 * count) some

-- a pair was read that no space is in
pub read_plain : (text buffer undecoded : List ℕ) (count h l : ℕ) → count < length buffer → 2 * count + 1 < length text
    → IsDigit (slice_index text (2 * count)) h → IsDigit (slice_index text (2 * count + 1)) l → h ≤ 15 → l ≤ 15
    → ((more : List ℕ) → after_bytes (take count buffer) (spells (without_spaces more)) ≡ spells (without_spaces (take (2 * count) text ++ more)))
    → after_bytes (take (count + 1) (slice_set buffer count (h * 16 + l))) (spells (without_spaces undecoded)) ≡ spells (without_spaces (take (2 * (count + 1)) text ++ undecoded))
read_plain text buffer undecoded count h l fits some dh dl sh sl so =
    let a = slice_index text (2 * count) in
    let b = slice_index text (2 * count + 1) in
    let kept : without_spaces (a ∷ b ∷ undecoded) ≡ a ∷ b ∷ without_spaces undecoded =
    kept_one a (b ∷ undecoded) (digit_no_space a h dh sh) ∙ ap (λ (t : List ℕ). a ∷ t) (kept_one b undecoded (digit_no_space b l dl sl)) in
    let pair : spells (without_spaces (a ∷ b ∷ undecoded)) ≡ pair_before (Some h) (Some l) (spells (without_spaces undecoded)) =
    ap spells kept ∙ pair_spells _ _ _ ∙ rw (digit_is _ h dh sh, digit_is _ l dl sl) refl in
    let cut : take (2 * count) text ++ a ∷ b ∷ undecoded ≡ take (2 * (count + 1)) text ++ undecoded =
    sym (ap (λ (t : List ℕ). t ++ undecoded) (pair_more text count some) ∙ append_assoc (take (2 * count) text) (a ∷ b ∷ []) undecoded) in
    rw (take_more_set buffer count (h * 16 + l) fits) (after_pair (take count buffer) h l _ ∙ ap (after_bytes (take count buffer)) (sym pair) ∙ so (a ∷ b ∷ undecoded) ∙ ap (λ (t : List ℕ). spells (without_spaces t)) cut)

is_hex : (d v : ℕ) → IsDigit d v → v ≤ 15 → IsSome (hex_digit_value d)
is_hex d v h small = rw (digit_is _ v h small) refl

pub hex_digit : (digit : ℕ) (is : Bool) → is ≡ true → MatchBool is (IsAsciiHexdigit digit) (IsNotAsciiHexdigit digit) → IsSome (hex_digit_value digit)
hex_digit digit false e ranges = absurd (cc e)
hex_digit digit true e (inl (inl range)) = grind (arith, range.0, range.1)
hex_digit digit true e (inl (inr range)) = grind (arith, range.0, range.1)
hex_digit digit true e (inr range) = grind (arith, range.0, range.1)

pub hex_push : (prefix : List ℕ) (digit : ℕ) → AreHex prefix → IsSome (hex_digit_value digit) → AreHex (prefix ++ digit ∷ [])
hex_push [] digit all is = (is, tt)
hex_push (x ∷ xs) digit all is = (all.0, hex_push xs digit all.1 is)

hex_append : (prefix : List ℕ) (a b : ℕ) → AreHex prefix → IsSome (hex_digit_value a) → IsSome (hex_digit_value b) → AreHex (prefix ++ a ∷ b ∷ [])
hex_append prefix a b all is_a is_b = subst AreHex (append_assoc prefix (a ∷ []) (b ∷ [])) (hex_push (prefix ++ a ∷ []) b (hex_push prefix a all is_a) is_b)

pub hex_more : (text : List ℕ) (count h l : ℕ) → 2 * count + 1 < length text
    → IsDigit (slice_index text (2 * count)) h → IsDigit (slice_index text (2 * count + 1)) l → h ≤ 15 → l ≤ 15
    → AreHex (take (2 * count) text) → AreHex (take (2 * (count + 1)) text)
hex_more text count h l some dh dl sh sl all =
    rw (pair_more text count some) (hex_append (take (2 * count) text) (slice_index text (2 * count)) (slice_index text (2 * count + 1)) all (is_hex (slice_index text (2 * count)) h dh sh) (is_hex (slice_index text (2 * count + 1)) l dl sl))

-- what refuses the text after some bytes refuses all
pub refused : (done text rest : List ℕ) → spells (without_spaces rest) ≡ None
    → after_bytes done (spells (without_spaces rest)) ≡ spells (without_spaces text) → spells (without_spaces text) ≡ None
refused done text rest none so = sym so ∙ rw none refl

no_low : (h : Option ℕ) (rest : Option (List ℕ)) → pair_before h None rest ≡ None
no_low None rest = refl
no_low (Some h) rest = refl

-- a pair is none of digits
pub refuses_pair : (done text rest low : List ℕ) (h l : ℕ) → 1 ≤ length rest → slice_index rest 0 ≢ 32 → without_spaces low ≡ without_spaces (drop 1 rest)
    → 1 ≤ length low → slice_index low 0 ≢ 32 → IsDigit (slice_index rest 0) h → IsDigit (slice_index low 0) l → (15 < h) ⊎ (h ≤ 15 × 15 < l)
    → after_bytes done (spells (without_spaces rest)) ≡ spells (without_spaces text) → spells (without_spaces text) ≡ None
refuses_pair done text rest low h l some other same some_low other_low dh dl big so =
    let two = two_kept rest low (drop 1 low) some other same some_low other_low refl in
    let pair = ap spells two ∙ pair_spells _ _ _ in
    refused done text rest (
    elim big [
      | inl high ↦ pair ∙ rw (no_digit (slice_index rest 0) h dh high) refl
      | inr last ↦ pair ∙ rw (no_digit (slice_index low 0) l dl last.1) (no_low _ _)
    ]
    ) so

one_spells : (a : ℕ) (rest : List ℕ) → length rest < 1 → spells (a ∷ rest) ≡ None
unfolding spells
one_spells a [] none = refl
one_spells a (x ∷ xs) none = absurd (omega arith)

no_bytes : (text : List ℕ) → length text < 1 → length (without_spaces text) < 1
no_bytes [] none = omega arith
no_bytes (x ∷ xs) none = absurd (omega arith)

-- a digit is alone
pub refuses_one : (done text rest low : List ℕ) → 1 ≤ length rest → slice_index rest 0 ≢ 32 → without_spaces low ≡ without_spaces (drop 1 rest) → length low < 1
    → after_bytes done (spells (without_spaces rest)) ≡ spells (without_spaces text) → spells (without_spaces text) ≡ None
refuses_one done text rest low some other same none so =
    let one = ap spells (first_kept rest some other) ∙ one_spells _ _ (rw same at (no_bytes low none)) in
    refused done text rest one so

-- the text was read
pub reads_all : (done text rest : List ℕ) → length rest < 1
    → after_bytes done (spells (without_spaces rest)) ≡ spells (without_spaces text) → decode_of (without_spaces text) ≡ Ok done
unfolding spells
reads_all done text [] none so = some_in _ _ (spells-decode (without_spaces text) ∙ sym so ∙ ap (λ b. Some b) (append-nil done))
reads_all done text (x ∷ rest) none so = absurd (omega arith)

-- bytes were read, and the text after them spells others
reads_more : (done text rest : List ℕ) → after_bytes done (spells (without_spaces rest)) ≡ spells (without_spaces text) → SpellsBytes rest → spells (without_spaces text) ≡ Some (done ++ bytes_of rest)
reads_more done text rest so spelled = by (spells (without_spaces rest)) refl spelled
  where
    by : (o : Option (List ℕ)) → spells (without_spaces rest) ≡ o → IsSome o → spells (without_spaces text) ≡ Some (done ++ unwrap_or o [])
    by None e some = absurd (cc some)
    by (Some bytes) e some = sym so ∙ ap (after_bytes done) e

-- so they are a piece
pub piece_read : (from : Direction) (done text rest : List ℕ) → after_bytes done (spells (without_spaces rest)) ≡ spells (without_spaces text) → SpellsBytes rest → piece_of from (decode_of (without_spaces text)) ≡ Ok (piece from (done ++ bytes_of rest))
piece_read from done text rest so spelled = rw (some_in _ _ (spells-decode (without_spaces text) ∙ reads_more done text rest so spelled)) refl

pub no_piece : (from : Direction) (text : List ℕ) → spells (without_spaces text) ≡ None → piece_of from (decode_of (without_spaces text)) ≡ Err Hex
no_piece from text none = by (decode_of (without_spaces text)) (none_in _ (spells-decode (without_spaces text) ∙ none))
  where
    by : (r : Result (List ℕ) FromHexError) → IsErr r → piece_of from r ≡ Err Hex
    by (Ok b) e = cc e
    by (Err x) e = refl

-- what comes after the bytes of a text that spells some
pub goes_on : (done text rest : List ℕ) → after_bytes done (spells (without_spaces rest)) ≡ spells (without_spaces text) → SpellsBytes text → (bytes_of text ≡ done ++ bytes_of rest) × SpellsBytes rest
goes_on done text rest so spelled = by (spells (without_spaces rest)) (spells (without_spaces text)) so spelled
  where
    by : (o p : Option (List ℕ)) → after_bytes done o ≡ p → IsSome p → (unwrap_or p [] ≡ done ++ unwrap_or o []) × IsSome o
    by None None e some = absurd (cc some)
    by None (Some bytes) e some = absurd (cc e)
    by (Some bytes) p e some = (ap (λ (b : Option (List ℕ)). unwrap_or b []) (sym e), refl)

-- ---- how many bytes there are

kept_few : (text : List ℕ) → length (without_spaces text) ≤ length text
kept_few [] = omega arith
kept_few (x ∷ xs) = by (x == 32) refl (kept_few xs)
  where
    by : (space : Bool) → (x == 32) ≡ space → length (without_spaces xs) ≤ length xs → length (without_spaces (x ∷ xs)) ≤ length (x ∷ xs)
    by true e few = rw e (omega (arith, few))
    by false e few = rw e (omega (arith, few))

spelled_few : (digits : List ℕ) → length (unwrap_or (spells digits) []) ≤ length digits
unfolding spells
spelled_few [] = omega arith
spelled_few (digit ∷ []) = omega arith
spelled_few (high ∷ low ∷ rest) = by (hex_digit_value high) (hex_digit_value low) (spells rest) (spelled_few rest)
  where
    by : (h l : Option ℕ) (o : Option (List ℕ)) → length (unwrap_or o []) ≤ length rest → length (unwrap_or (pair_before h l o) []) ≤ length (high ∷ low ∷ rest)
    by None l o few = omega arith
    by (Some h) None o few = omega arith
    by (Some h) (Some l) None few = omega arith
    by (Some h) (Some l) (Some bytes) few = omega (arith, few)

pub bytes_few : (text : List ℕ) → length (bytes_of text) ≤ length text
bytes_few text = let kept = kept_few text in let few = spelled_few (without_spaces text) in omega (arith, kept, few)

pub piece_few : (text rest buffer : List ℕ) (count : ℕ) → 2 * count + length rest ≤ length text → length (take count buffer ++ bytes_of rest) ≤ length text
piece_few text rest buffer count few =
    let prefix = length-take count buffer in
    let undecoded = bytes_few rest in
    omega (arith, few, prefix, undecoded, length-append (take count buffer) (bytes_of rest))

-- ---- digits without spaces

hex_kept : (text : List ℕ) → AreHex text → without_spaces text ≡ text
hex_kept [] all = refl
hex_kept (x ∷ xs) all =
    let other : x ≢ 32 = λ e. absurd (cc (subst (λ (d : ℕ). IsSome (hex_digit_value d)) e all.0)) in
    kept_one x xs other ∙ ap (λ (t : List ℕ). x ∷ t) (hex_kept xs all.1)

hex_spell : (digits : List ℕ) → AreHex digits → length digits % 2 ≡ 0 → IsSome (spells digits)
unfolding spells
hex_spell [] all even = refl
hex_spell (digit ∷ []) all even = absurd (omega (arith, even))
hex_spell (high ∷ low ∷ rest) all even = by (hex_digit_value high) (hex_digit_value low) (spells rest) all.0 all.1.0 (hex_spell rest all.1.1 (omega (arith, even)))
  where
    by : (h l : Option ℕ) (o : Option (List ℕ)) → IsSome h → IsSome l → IsSome o → IsSome (pair_before h l o)
    by None l o is_h is_l is = absurd (cc is_h)
    by (Some h) None o is_h is_l is = absurd (cc is_l)
    by (Some h) (Some l) None is_h is_l is = absurd (cc is)
    by (Some h) (Some l) (Some bytes) is_h is_l is = refl

pub pairs_spell : (text : List ℕ) → AreHex text → length text % 2 ≡ 0 → SpellsBytes text
pairs_spell text all even = rw (hex_kept text all) (hex_spell text all even)

pub odd_spells : (text : List ℕ) → AreHex text → length text % 2 ≢ 0 → spells (without_spaces text) ≡ None
odd_spells text all odd = rw (hex_kept text all) (spells-odd text (omega (arith, odd)))

-- ---- no text

pub no_text : SpellsBytes []
unfolding spells
no_text = refl

pub no_text_left : (text : List ℕ) → length text ≡ 0 → SpellsBytes text
no_text_left [] none = no_text
no_text_left (x ∷ text) none = absurd (omega (arith, none))

pub no_bytes_of : bytes_of [] ≡ []
unfolding spells
no_bytes_of = refl

-- nothing was read yet
pub reads_none : (o : Option (List ℕ)) → after_bytes [] o ≡ o
reads_none None = refl
reads_none (Some bytes) = refl
