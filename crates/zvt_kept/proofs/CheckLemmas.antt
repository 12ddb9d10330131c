-- Checks of records.
use Rattle.std.proofs.Common.{◌≡◌, ℕ, zero, suc, ◌+◌, ◌/◌, ◌%◌, ◌^◌, ◌<◌, Bool, true, false, List, [], ◌∷◌, ◌++◌, All, length, take, Option, Some, None, Result, Ok, Err, drop, refl, ap, sym, ◌∙◌, subst, arith, append_assoc, length-append, fold}
use Rattle.std.specs.Prelude.{cond, ◌&&◌, IsErrAnd, is_some, nat_eq}
use Rattle.std.specs.Str.Lines.{lines}
use Rattle.std.specs.Int.{byte_at, bytes_high_first, to_be_bytes, w32}
use Rattle.std.proofs.lemmas.List.{append-nil}
use Rattle.std.proofs.lemmas.List.Elements.{All-append, All-cons, All-head, All-nil, All-tail, All-take}
use Rattle.std.proofs.lemmas.Slice.Eq.{bytes_eq-Decides}
use Rattle.std.specs.Prelude.{slice_index}
use Rattle.std.specs.Str.{bytes_eq}
use Rattle.hex.specs.Hex.{IsBytes, encode_upper, upper_digits}
use Rattle.hex.proofs.HexLemmas.{length-encode_with}
use Rattle.std.proofs.lemmas.List.{length-take, take_all}
use Rattle.zvt_text.specs.Writing.{Adds, Puts}
use Rattle.sha2.specs.Hashers.{Holds256}
use Rattle.sha2.specs.declared.Sha256.{Sha256}
use Rattle.sha2.specs.Sha256.{digest_bytes, final_hash, initial_hash_256, sha256}
use Rattle.zvt_journal.specs.Text.{text_of}
use Rattle.zvt_text.specs.Words.{trailing}
use Rattle.zvt_kept.specs.Checks.{HasChecked, IsFirstWrongCheck, and_line, are_right, check_line, check_of, check_sign, checked, confirms, is_check, is_sent, is_right, last_record, right_after, then_line}
use Rattle.zvt_io.specs.Devices.{IsPrefix}
use Rattle.zvt_kept.specs.Reading.{Extends}
use Rattle.zvt_kept.proofs.Bytes.{encode_plain}
use Rattle.std.proofs.Math.Seq.{drop-append_seam}

-- ---- the bytes of a digest

abbrev IsSmall : ℕ → Type 0
IsSmall byte = byte < 256

small_rest : (n : ℕ) → n % 256 < 256
small_rest n = omega arith

small_byte : (i n : ℕ) → IsSmall (byte_at i n)
small_byte zero n = small_rest n
small_byte (suc i) n = small_rest (n / 256 ^ suc i)

small_word : (k n : ℕ) → All IsSmall (bytes_high_first k n)
small_word zero n = All-nil IsSmall
small_word (suc k) n = All-cons IsSmall (byte_at k n) (bytes_high_first k n) (small_byte k n) (small_word k n)

small_digest : (h : List ℕ) (n : ℕ) → All IsSmall (digest_bytes h n)
unfolding digest_bytes
small_digest h zero = All-nil IsSmall
small_digest h (suc n) = All-append IsSmall (digest_bytes h n) (to_be_bytes w32 (slice_index h n)) (small_digest h n) (small_word 4 (slice_index h n))

small_sha256 : (text : List ℕ) → All IsSmall (sha256 text)
unfolding sha256
small_sha256 text = small_digest (final_hash initial_hash_256 text) 8

pub bytes_if : (xs : List ℕ) → All IsSmall xs → IsBytes xs
bytes_if [] all i = omega arith
bytes_if (x ∷ xs) all zero = All-head IsSmall x xs all
bytes_if (x ∷ xs) all (suc i) = bytes_if xs (All-tail IsSmall x xs all) i

pub check_bytes : (text : List ℕ) → IsBytes (take 4 (sha256 text))
check_bytes text = bytes_if (take 4 (sha256 text)) (All-take IsSmall 4 (sha256 text) (small_sha256 text))

pub check_plain : (text : List ℕ) → All (λ byte. 31 < byte) (check_of text)
unfolding check_of
check_plain text = encode_plain (take 4 (sha256 text)) (check_bytes text)

-- ---- texts of lines

pub texts_append : (a b : List (List ℕ)) → text_of (a ++ b) ≡ text_of a ++ text_of b
texts_append [] b = refl
texts_append (line ∷ a) b = ap (λ (l : List ℕ). line ++ 10 ∷ l) (texts_append a b) ∙ sym (append_assoc line (10 ∷ text_of a) (text_of b))

-- ---- right checks

pub same_bytes : (xs : List ℕ) → bytes_eq xs xs ≡ true
same_bytes xs = (bytes_eq-Decides xs xs).1 refl

pub and_true : (a b : Bool) → a ≡ true → b ≡ true → (a && b) ≡ true
and_true a b x y = rw (x, y) refl

pub and_split : (a b : Bool) → (a && b) ≡ true → (a ≡ true) × (b ≡ true)
and_split true true is = (refl, refl)
and_split true false is = absurd (cc is)
and_split false b is = absurd (cc is)

pub right_append : (recorded a b : List (List ℕ)) → right_after recorded (a ++ b) ≡ (right_after recorded a && right_after (fold then_line recorded a) b)
right_append recorded [] b = refl
right_append recorded (line ∷ a) b = rw (right_append (then_line recorded line) a b) (and_assoc (is_right recorded line) (right_after (then_line recorded line) a) (right_after (fold then_line (then_line recorded line) a) b))
  where
    and_assoc : (x y z : Bool) → (x && (y && z)) ≡ ((x && y) && z)
    and_assoc true y z = refl
    and_assoc false y z = refl

-- ---- checks that are read

last_more : (before : List (List ℕ)) (line : List ℕ) → last_record (before ++ line ∷ []) ≡ then_line (last_record before) line
last_more before line = fold-snoc [] before
  where
    fold-snoc : (recorded ls : List (List ℕ)) → fold then_line recorded (ls ++ line ∷ []) ≡ then_line (fold then_line recorded ls) line
    fold-snoc recorded [] = refl
    fold-snoc recorded (l ∷ ls) = fold-snoc (then_line recorded l) ls

right_more : (before : List (List ℕ)) (line : List ℕ) → are_right before ≡ true → is_right (last_record before) line ≡ true → are_right (before ++ line ∷ []) ≡ true
right_more before line good right = right_append [] before (line ∷ []) ∙ and_true (are_right before) (is_right (last_record before) line && true) good (and_true (is_right (last_record before) line) true right refl)

-- nothing is read yet
pub none_checked : (text : List ℕ) (hasher : Sha256) → Holds256 hasher [] → HasChecked text text 0 hasher
none_checked text hasher new = record { before = []; is = refl; good = refl; number_is = refl; holds = new; fits = omega arith }

-- a line whose check is right, or that is no check
pub one_checked : (text rest line after : List ℕ) (number : ℕ) (hasher next : Sha256) (h : HasChecked text rest number hasher) → lines rest ≡ line ∷ lines after → length after < length rest
    → is_right (last_record h.before) line ≡ true → Holds256 next (text_of (then_line (last_record h.before) line)) → HasChecked text after (number + 1) next
one_checked text rest line after number hasher next h is less right holds = record {
  before = h.before ++ line ∷ [];
  is = h.is ∙ ap (λ (ls : List (List ℕ)). h.before ++ ls) is ∙ sym (append_assoc h.before (line ∷ []) (lines after));
  good = right_more h.before line h.good right;
  number_is = omega (arith, h.number_is, length-append h.before (line ∷ []));
  holds = subst (λ (r : List (List ℕ)). Holds256 next (text_of r)) (sym (last_more h.before line)) holds;
  fits = omega (arith, h.fits, less);
}

-- the check of another record
pub wrong_checked : (text rest line after : List ℕ) (number : ℕ) (hasher : Sha256) (h : HasChecked text rest number hasher) → lines rest ≡ line ∷ lines after
    → is_right (last_record h.before) line ≡ false → IsFirstWrongCheck text (number + 1)
wrong_checked text rest line after number hasher h is wrong = record {
  before = h.before;
  line = line;
  after = lines after;
  is = h.is ∙ ap (λ (ls : List (List ℕ)). h.before ++ ls) is;
  good = h.good;
  wrong = wrong;
  number_is = omega (arith, h.number_is);
}

pub all_checked : (text rest : List ℕ) (number : ℕ) (hasher : Sha256) → HasChecked text rest number hasher → length rest ≡ 0 → are_right (lines text) ≡ true
all_checked text [] number hasher h none = ap are_right (h.is ∙ append-nil h.before) ∙ h.good
all_checked text (byte ∷ rest) number hasher h none = absurd (omega arith)

-- the digits behind the sign of a check
pub confirmed : (digits line : List ℕ) (recorded : List (List ℕ)) → trailing check_sign line ≡ Some digits → is_right recorded line ≡ bytes_eq digits (check_of (text_of recorded))
confirmed digits line recorded is = ap (λ (o : Option (List ℕ)). confirms o recorded) is

pub unchecked : (line : List ℕ) (recorded : List (List ℕ)) → trailing check_sign line ≡ None → is_right recorded line ≡ true
unchecked line recorded is = ap (λ (o : Option (List ℕ)). confirms o recorded) is

pub begun_anew : (digits line : List ℕ) (recorded : List (List ℕ)) → trailing check_sign line ≡ Some digits → then_line recorded line ≡ []
begun_anew digits line recorded is = ap (λ (o : Option (List ℕ)). and_line o recorded line) is

pub with_line : (line : List ℕ) (recorded : List (List ℕ)) → trailing check_sign line ≡ None → then_line recorded line ≡ cond (is_sent line) (recorded ++ line ∷ []) (line ∷ [])
with_line line recorded is = ap (λ (o : Option (List ℕ)). and_line o recorded line) is

-- ---- checks that are written

prefix_before : (part lines more : List ℕ) → IsPrefix part lines → IsPrefix part (lines ++ more)
prefix_before part lines more p = (p.0 ++ more, ap (λ (l : List ℕ). l ++ more) p.1 ∙ append_assoc part p.0 more)

-- the lines of a record could not be written whole
unchecked_lines : (old new lines : List ℕ) → (part : List ℕ) × IsPrefix part lines × (new ≡ old ++ part) → (part : List ℕ) × IsPrefix part (checked lines) × (new ≡ old ++ part)
unchecked_lines old new lines p = (p.0, prefix_before p.0 lines (check_line lines) p.1, p.2)

pub lines_unchecked : {E : Type 0} (P : E → Type 0) (result : Result Unit E) (old new lines : List ℕ) → IsErrAnd result P → (part : List ℕ) × IsPrefix part lines × (new ≡ old ++ part) → Extends result old new (checked lines)
lines_unchecked P (Ok done) old new lines err p = absurd err
lines_unchecked P (Err why) old new lines err p = unchecked_lines old new lines p

-- the check of lines that were written behind a text
pub lines_checked : {E : Type 0} (result : Result Unit E) (old now new lines : List ℕ) (start : ℕ) → now ≡ old ++ lines → start ≡ length old
    → Extends result now new (check_line (drop start now)) → Extends result old new (checked lines)
lines_checked {E} result old now new lines start is from written = by_result result new (subst (λ (l : List ℕ). Extends result now new (check_line l)) own written)
  where
    own : drop start now ≡ lines
    own = ap (λ (n : ℕ). drop n now) from ∙ ap (drop (length old)) is ∙ drop-append_seam old lines

    by_result : (r : Result Unit E) (after : List ℕ) → Extends r now after (check_line lines) → Extends r old after (checked lines)
    by_result (Ok done) after ok = ok ∙ ap (λ (l : List ℕ). l ++ check_line lines) is ∙ append_assoc old lines (check_line lines)
    by_result (Err why) after err = (
      lines ++ err.0,
      (err.1.0, ap (λ (l : List ℕ). lines ++ l) err.1.1 ∙ sym (append_assoc lines err.0 err.1.0)),
      err.2 ∙ ap (λ (l : List ℕ). l ++ err.0) is ∙ append_assoc old lines err.0,
    )

-- text that was added whole, or not at all
pub check_added : {E : Type 0} (result : Result Unit E) (old new text digest : List ℕ) → digest ≡ sha256 text → Adds result old new (check_sign ++ encode_upper (take 4 digest) ++ 10 ∷ []) → Extends result old new (check_line text)
unfolding check_of
check_added {E} result old new text digest is added = by_result result (subst (λ (d : List ℕ). Adds result old new (check_sign ++ encode_upper (take 4 d) ++ 10 ∷ [])) is added)
  where
    by_result : (r : Result Unit E) → Adds r old new (check_line text) → Extends r old new (check_line text)
    by_result (Ok done) ok = ok
    by_result (Err why) same = ([], (check_line text, refl), same ∙ sym (append-nil old))

-- a buffer of eight bytes that the check was put into
pub check_digits : {E : Type 0} (result : Result ℕ E) (digest old new text : List ℕ) → digest ≡ sha256 text → length digest ≡ 32 → length new ≡ 8 → Puts result 0 old new (encode_upper (take 4 digest)) → new ≡ check_of text
unfolding check_of
check_digits {E} result digest old new text is long short put = by_result result put ∙ ap (λ (d : List ℕ). encode_upper (take 4 d)) is
  where
    hex : length (encode_upper (take 4 digest)) ≡ 8
    hex = let four = length-take 4 digest in let size = length-encode_with upper_digits (take 4 digest) in omega (arith, four, size, long)

    by_result : (r : Result ℕ E) → Puts r 0 old new (encode_upper (take 4 digest)) → new ≡ encode_upper (take 4 digest)
    by_result (Ok end) ok =
        let size : length (take end new) ≡ 8 = ap length ok.1 ∙ hex in
        let most = length-take end new in
        sym (take_all end new (omega (arith, size, most, short))) ∙ ok.1
    by_result (Err full) less = absurd (omega (arith, less, hex, short))

-- a line that goes on with what was hashed, or that begins anew
pub line_hashed : (goes : Bool) (lines : List (List ℕ)) (line : List ℕ) (hasher more new : Sha256) → is_sent line ≡ goes → Holds256 hasher (cond goes (text_of lines) [])
    → ((m : List ℕ) → Holds256 hasher m → Holds256 more (m ++ line)) → ((m : List ℕ) → Holds256 more m → Holds256 new (m ++ 10 ∷ []))
    → Holds256 new (text_of (cond (is_sent line) (lines ++ line ∷ []) (line ∷ [])))
line_hashed true lines line hasher more new is holds add end =
    subst (λ (b : Bool). Holds256 new (text_of (cond b (lines ++ line ∷ []) (line ∷ [])))) (sym is)
    (subst (Holds256 new) (append_assoc (text_of lines) line (10 ∷ []) ∙ sym (texts_append lines (line ∷ []))) (end (text_of lines ++ line) (add (text_of lines) holds)))
line_hashed false lines line hasher more new is holds add end =
    subst (λ (b : Bool). Holds256 new (text_of (cond b (lines ++ line ∷ []) (line ∷ [])))) (sym is) (end line (add [] holds))

-- a line whose check is wrong makes those of all lines wrong
pub not_right : (text : List ℕ) (number : ℕ) → IsFirstWrongCheck text number → are_right (lines text) ≡ false
not_right text number w =
    ap are_right w.is ∙ right_append [] w.before (w.line ∷ w.after) ∙ rw (w.good, w.wrong) refl

-- ---- lines that are no check

none_of : (o : Option (List ℕ)) → is_some o ≡ false → o ≡ None
none_of None is = refl
none_of (Some x) is = absurd (cc is)

pub no_check : (line : List ℕ) → is_check line ≡ false → trailing check_sign line ≡ None
no_check line is = none_of (trailing check_sign line) is

if_same : (b : Bool) (x y : List ℕ) → is_some (cond b (Some x) None) ≡ false → is_some (cond b (Some y) None) ≡ false
if_same true x y is = absurd (cc is)
if_same false x y is = refl

if_never : (b : Bool) (x : List ℕ) → b ≡ false → is_some (cond b (Some x) None) ≡ false
if_never b x never = rw never refl

and_false : (b : Bool) → (b && false) ≡ false
and_false true = refl
and_false false = refl

one_byte : (a : ℕ) → is_check (a ∷ []) ≡ false
one_byte a = if_never (bytes_eq (a ∷ []) check_sign) [] (and_false (nat_eq a 35))

two_bytes : (a b : ℕ) → is_check (a ∷ b ∷ []) ≡ false
two_bytes a b = if_never (bytes_eq (a ∷ b ∷ []) check_sign) [] (ap (λ (t : Bool). nat_eq a 35 && t) (and_false (nat_eq b 61)) ∙ and_false (nat_eq a 35))

pub taken_unchecked : (n : ℕ) (line : List ℕ) → is_check line ≡ false → is_check (take n line) ≡ false
taken_unchecked zero line is = refl
taken_unchecked (suc n) [] is = refl
taken_unchecked (suc zero) (a ∷ line) is = one_byte a
taken_unchecked (suc (suc n)) (a ∷ []) is = one_byte a
taken_unchecked (suc (suc zero)) (a ∷ b ∷ line) is = two_bytes a b
taken_unchecked (suc (suc (suc n))) (a ∷ b ∷ []) is = two_bytes a b
taken_unchecked (suc (suc (suc n))) (a ∷ b ∷ c ∷ line) is = if_same (bytes_eq (a ∷ b ∷ c ∷ []) check_sign) line (take n line) is

pub first_unchecked : (line rest : List ℕ) → is_check (line ++ rest) ≡ false → is_check line ≡ false
first_unchecked [] rest is = refl
first_unchecked (a ∷ []) rest is = one_byte a
first_unchecked (a ∷ b ∷ []) rest is = two_bytes a b
first_unchecked (a ∷ b ∷ c ∷ line) rest is = if_same (bytes_eq (a ∷ b ∷ c ∷ []) check_sign) (line ++ rest) line is

-- a line that begins a record does so behind each other
pub begins_anew : (a b : List (List ℕ)) (line : List ℕ) (more : List (List ℕ)) → is_sent line ≡ false → is_check line ≡ false → right_after a (line ∷ more) ≡ right_after b (line ∷ more)
begins_anew a b line more unsent unchecked = by_line a ∙ sym (by_line b)
  where
    by_line : (before : List (List ℕ)) → right_after before (line ∷ more) ≡ right_after (line ∷ []) more
    by_line before =
        ap (λ (o : Option (List ℕ)). confirms o before && right_after (and_line o before line) more) (no_check line unchecked)
        ∙ ap (λ (sent : Bool). right_after (cond sent (before ++ line ∷ []) (line ∷ [])) more) unsent
