-- What JSON leaves as it is, and what it does to a text that has escapes already.
use Rattle.std.proofs.Common.{◌≡◌, ℕ, zero, suc, ◌+◌, ◌*◌, ◌/◌, ◌%◌, ◌<◌, ◌==◌, ◌&&◌, Bool, true, false, inl, inr, Option, List, [], ◌∷◌, ◌++◌, length, ◌≤◌, slice_index, get_or, codes, refl, sym, ◌∙◌, ap, arith, append_assoc, length-append, find, unwrap_or, take, drop, ◌-◌, append-nil}
use Rattle.std.specs.Option.{option_map}
use Rattle.std.proofs.lemmas.Bool.{and_parts, cases_lt, cases_Bool}
use Rattle.std.proofs.lemmas.Bool.Decides.{nat_tests}
use Rattle.std.proofs.lemmas.List.{take-append-drop, take_rest}
use Rattle.hex.specs.Hex.{encode_upper, encode_with, upper_digits}
use Rattle.json.specs.Print.{escape, escape_byte}
use Rattle.zvt_grammar.specs.Names.{why_name}
use Rattle.zvt_grammar.specs.declared.why.Why.{Why}
use Rattle.zvt_grammar.specs.declared.why.Why.TheVariants as why
use Rattle.zvt_field.specs.Shapes.{BmpRow, look_up, table}
use Rattle.zvt_apdu.specs.declared.kinds.Kind.{Kind}
use Rattle.zvt_apdu.specs.declared.kinds.Kind.TheVariants as kind
use Rattle.zvt_text.specs.MessageTexts.{four_digits, kind_name}
use Rattle.zvt_text.specs.Meanings.{command_name, commands, meaning_of, results, status_words, statuses}
use Rattle.zvt_json.specs.Fields.{field_name}
use Rattle.zvt_text.specs.Bytes.{escaped, escaped_text, hex_of, is_plain}

-- ---- plain bytes

pub escape_plain : (x : ℕ) → is_plain x ≡ true → escape_byte x ≡ x ∷ []
unfolding escape_byte
escape_plain x plain = grind (arith, nat_tests)

abbrev pub all_plain : List ℕ → Bool
all_plain [] = true
all_plain (x ∷ xs) = is_plain x && all_plain xs

pub escape_all_plain : (xs : List ℕ) → all_plain xs ≡ true → escape xs ≡ xs
escape_all_plain [] all = refl
escape_all_plain (x ∷ xs) all =
    let parts = and_parts (is_plain x) (all_plain xs) all in
    ap (λ (l : List ℕ). l ++ escape xs) (escape_plain x parts.0) ∙ ap (λ (l : List ℕ). x ∷ l) (escape_all_plain xs parts.1)

-- ---- hexadecimal digits

abbrev plain_below : ℕ → Bool
plain_below zero = true
plain_below (suc n) = is_plain (slice_index upper_digits n) && plain_below n

digit_plain : (n k : ℕ) → plain_below n ≡ true → k < n → is_plain (slice_index upper_digits k) ≡ true
digit_plain zero k all lt = absurd (omega arith)
digit_plain (suc n) k all lt =
    let parts = and_parts (is_plain (slice_index upper_digits n)) (plain_below n) all in
    elim (cases_lt k n) [
      | inl below ↦ digit_plain n k parts.1 below
      | inr top ↦ let e : k ≡ n = omega arith in rw e parts.0
    ]

pub escape_hex : (bytes : List ℕ) → ((i : ℕ) → get_or bytes i 0 < 256) → escape (encode_upper bytes) ≡ encode_upper bytes
unfolding encode_with
escape_hex [] small = refl
escape_hex (byte ∷ bytes) small =
    let first : byte < 256 = small 0 in
    let high = escape_plain (slice_index upper_digits (byte / 16)) (digit_plain 16 (byte / 16) refl (omega (arith, first))) in
    let low = escape_plain (slice_index upper_digits (byte % 16)) (digit_plain 16 (byte % 16) refl (omega arith)) in
    let rest = escape_hex bytes (λ i. small (suc i)) in
    rw (high, low, rest) refl

pub escape_byte_hex : (byte : ℕ) → byte < 256 → escape (hex_of byte) ≡ hex_of byte
escape_byte_hex byte small = escape_hex (byte ∷ []) (λ i. elim i as (λ i. get_or (byte ∷ []) i 0 < 256) [ zero ↦ small | suc j ↦ omega arith ])

-- ---- words of tables

-- every word of the table is plain
abbrev pub plain_table : List (ℕ × List ℕ) → Bool
plain_table [] = true
plain_table (row ∷ rows) = all_plain row.1 && plain_table rows

abbrev found : List (ℕ × List ℕ) → ℕ → Option (List ℕ)
found rows code = option_map (λ row. row.1) (find (λ row. row.0 == code) rows)

pub word_plain : (rows : List (ℕ × List ℕ)) (code : ℕ) → plain_table rows ≡ true → escape (unwrap_or (found rows code) []) ≡ unwrap_or (found rows code) []
word_plain [] code all = refl
word_plain (row ∷ rows) code all =
    let parts = and_parts (all_plain row.1) (plain_table rows) all in
    elim (cases_Bool (row.0 == code)) [
      | inl here ↦ rw here (escape_all_plain row.1 parts.0)
      | inr other ↦ rw other (word_plain rows code parts.1)
    ]

-- every name of the table of BMPs is plain
abbrev plain_names : List BmpRow → Bool
plain_names [] = true
plain_names (one ∷ rows) = all_plain one.name && plain_names rows

abbrev name_in : Option BmpRow → List ℕ
name_in found = unwrap_or (option_map (λ one. one.name) found) []

row_plain : (rows : List BmpRow) (bmp : ℕ) → plain_names rows ≡ true → escape (name_in (look_up bmp rows)) ≡ name_in (look_up bmp rows)
row_plain [] bmp all = refl
row_plain (one ∷ rows) bmp all =
    let parts = and_parts (all_plain one.name) (plain_names rows) all in
    elim (cases_Bool (bmp == one.bmp)) [
      | inl here ↦ rw here (escape_all_plain one.name parts.0)
      | inr other ↦ rw other (row_plain rows bmp parts.1)
    ]

pub name_plain : (bmp : ℕ) → escape (field_name bmp) ≡ field_name bmp
name_plain bmp = row_plain table bmp refl

-- JSON leaves these words as they are, if there are some
abbrev pub IsPlain : Option (List ℕ) → Type 0
IsPlain words = escape (unwrap_or words []) ≡ unwrap_or words []

pub meaning_plain : (code : ℕ) → IsPlain (meaning_of code)
unfolding meaning_of
meaning_plain code = word_plain results code refl

pub status_plain : (status : ℕ) → IsPlain (status_words status)
unfolding status_words
status_plain status = word_plain statuses status refl

pub command_plain : (high low : ℕ) → IsPlain (command_name high low)
unfolding command_name
command_plain high low = word_plain commands (256 * high + low) refl

pub kind_plain : (k : Kind) → escape (kind_name k) ≡ kind_name k
kind_plain kind.Ack = escape_all_plain (kind_name kind.Ack) refl
kind_plain kind.Nack = escape_all_plain (kind_name kind.Nack) refl
kind_plain kind.Registration = escape_all_plain (kind_name kind.Registration) refl
kind_plain kind.Authorisation = escape_all_plain (kind_name kind.Authorisation) refl
kind_plain kind.Reversal = escape_all_plain (kind_name kind.Reversal) refl
kind_plain kind.EndOfDay = escape_all_plain (kind_name kind.EndOfDay) refl
kind_plain kind.AbortOrder = escape_all_plain (kind_name kind.AbortOrder) refl
kind_plain kind.Status = escape_all_plain (kind_name kind.Status) refl
kind_plain kind.Intermediate = escape_all_plain (kind_name kind.Intermediate) refl
kind_plain kind.PrintLine = escape_all_plain (kind_name kind.PrintLine) refl
kind_plain kind.TextBlock = escape_all_plain (kind_name kind.TextBlock) refl
kind_plain kind.Completion = escape_all_plain (kind_name kind.Completion) refl
kind_plain kind.Abort = escape_all_plain (kind_name kind.Abort) refl
kind_plain kind.Other = escape_all_plain (kind_name kind.Other) refl

pub why_plain : (w : Why) → escape (why_name w) ≡ why_name w
why_plain why.NotShortest = escape_all_plain (why_name why.NotShortest) refl
why_plain why.DoesNotFit = escape_all_plain (why_name why.DoesNotFit) refl
why_plain why.LengthForm = escape_all_plain (why_name why.LengthForm) refl
why_plain why.TooDeep = escape_all_plain (why_name why.TooDeep) refl
why_plain why.TagTooLong = escape_all_plain (why_name why.TagTooLong) refl
why_plain why.UnknownField = escape_all_plain (why_name why.UnknownField) refl
why_plain why.NotDigit = escape_all_plain (why_name why.NotDigit) refl
why_plain why.LengthDigit = escape_all_plain (why_name why.LengthDigit) refl

digit_char_plain : (d : ℕ) → d < 10 → is_plain (48 + d) ≡ true
digit_char_plain d small = grind (arith, nat_tests)

pub four_plain : (n : ℕ) → escape (four_digits n) ≡ four_digits n
four_plain n =
    let a = escape_plain (48 + n / 1000 % 10) (digit_char_plain (n / 1000 % 10) (omega arith)) in
    let b = escape_plain (48 + n / 100 % 10) (digit_char_plain (n / 100 % 10) (omega arith)) in
    let c = escape_plain (48 + n / 10 % 10) (digit_char_plain (n / 10 % 10) (omega arith)) in
    let d = escape_plain (48 + n % 10) (digit_char_plain (n % 10) (omega arith)) in
    rw (a, b, c, d) refl

-- ---- a text that has escapes

pub escape_one_plain : (x : ℕ) → is_plain x ≡ true → escape (escaped x) ≡ x ∷ []
escape_one_plain x plain = let same = escape_plain x plain in rw plain (rw same refl)

pub escape_one_other : (x : ℕ) → is_plain x ≡ false → x < 256 → escape (escaped x) ≡ codes "\\\\x" ++ hex_of x
unfolding escape_byte
escape_one_other x other small = let same = escape_byte_hex x small in rw other (ap (λ (l : List ℕ). codes "\\\\x" ++ l) same)

pub escape_append : (a b : List ℕ) → escape (a ++ b) ≡ escape a ++ escape b
escape_append [] b = refl
escape_append (x ∷ xs) b = ap (λ (l : List ℕ). escape_byte x ++ l) (escape_append xs b) ∙ sym (append_assoc (escape_byte x) (escape xs) (escape b))

-- escapes make no text shorter
escaped_longer : (xs : List ℕ) → length xs ≤ length (escaped_text xs)
escaped_longer [] = omega arith
escaped_longer (x ∷ xs) = let rest = escaped_longer xs in grind (arith, nat_tests, rest, length-append (escaped x) (escaped_text xs))

tail_same : (x : ℕ) (xs : List ℕ) → is_plain x ≡ true → escaped_text (x ∷ xs) ≡ x ∷ xs → escaped_text xs ≡ xs
tail_same x xs plain same = let e : x ∷ escaped_text xs ≡ x ∷ xs = rw plain at same in cc

too_long : (x : ℕ) (xs : List ℕ) → is_plain x ≡ false → escaped_text (x ∷ xs) ≡ x ∷ xs → ⊥
unfolding encode_with
too_long x xs other same =
    let e : suc (suc (suc (suc (length (escaped_text xs))))) ≡ suc (length xs) = ap length (rw other at same) in
    let longer = escaped_longer xs in
    omega (arith, e, longer)

-- a text without escapes has no byte that JSON escapes
pub unescaped : (xs : List ℕ) → escaped_text xs ≡ xs → escape xs ≡ xs
unescaped [] same = refl
unescaped (x ∷ xs) same = elim (cases_Bool (is_plain x)) [
  | inl plain ↦
      let tail : escaped_text xs ≡ xs = tail_same x xs plain same in
      ap (λ (l : List ℕ). l ++ escape xs) (escape_plain x plain) ∙ ap (λ (l : List ℕ). x ∷ l) (unescaped xs tail)
  | inr other ↦ absurd (too_long x xs other same)
]

escaped_append : (a b : List ℕ) → escaped_text (a ++ b) ≡ escaped_text a ++ escaped_text b
escaped_append [] b = refl
escaped_append (x ∷ xs) b = ap (λ (l : List ℕ). escaped x ++ l) (escaped_append xs b) ∙ sym (append_assoc (escaped x) (escaped_text xs) (escaped_text b))

-- a run of bytes without escapes, and what comes after it
pub run_first : (run after : List ℕ) → escaped_text run ≡ run → escape (escaped_text (run ++ after)) ≡ run ++ escape (escaped_text after)
run_first run after same =
    ap escape (escaped_append run after) ∙ escape_append (escaped_text run) (escaped_text after)
    ∙ ap (λ (l : List ℕ). escape l ++ escape (escaped_text after)) same ∙ ap (λ (l : List ℕ). l ++ escape (escaped_text after)) (unescaped run same)

pub one_first : (x : ℕ) (xs : List ℕ) → escape (escaped_text (x ∷ xs)) ≡ escape (escaped x) ++ escape (escaped_text xs)
one_first x xs = escape_append (escaped x) (escaped_text xs)

-- ---- a text that is written run by run

pub run_written : (whole t0 t1 rest front after : List ℕ) (n : ℕ) → t0 ++ escape (escaped_text rest) ≡ whole → front ≡ take n rest → after ≡ drop n rest → escaped_text (take n rest) ≡ take n rest → t1 ≡ t0 ++ front →
    t1 ++ escape (escaped_text after) ≡ whole
run_written whole t0 t1 rest front after n written is_front is_after plain so =
    rw (so, is_front, is_after) (append_assoc t0 (take n rest) (escape (escaped_text (drop n rest)))
    ∙ ap (λ (l : List ℕ). t0 ++ l) (sym (run_first (take n rest) (drop n rest) plain) ∙ ap (λ (l : List ℕ). escape (escaped_text l)) (take-append-drop n rest)) ∙ written)

first_of : (after : List ℕ) → 0 < length after → after ≡ get_or after 0 0 ∷ take (length after - 1) (drop 1 after)
first_of [] some = absurd (omega arith)
first_of (x ∷ xs) some = ap (λ (l : List ℕ). x ∷ l) (sym (take_rest (x ∷ xs) 1))

pub byte_written : (whole t1 t2 after : List ℕ) → 0 < length after → t1 ++ escape (escaped_text after) ≡ whole → t2 ≡ t1 ++ escape (escaped (get_or after 0 0)) →
    t2 ++ escape (escaped_text (take (length after - 1) (drop 1 after))) ≡ whole
byte_written whole t1 t2 after some written so =
    rw so (append_assoc t1 (escape (escaped (get_or after 0 0))) (escape (escaped_text (take (length after - 1) (drop 1 after))))
    ∙ ap (λ (l : List ℕ). t1 ++ l) (sym (one_first (get_or after 0 0) (take (length after - 1) (drop 1 after))) ∙ ap (λ (l : List ℕ). escape (escaped_text l)) (sym (first_of after some))) ∙ written)

pub all_written : (whole t1 after : List ℕ) → length after < 1 → t1 ++ escape (escaped_text after) ≡ whole → t1 ≡ whole
all_written whole t1 [] none written = sym (append-nil t1) ∙ written
all_written whole t1 (x ∷ xs) none written = absurd (omega arith)
