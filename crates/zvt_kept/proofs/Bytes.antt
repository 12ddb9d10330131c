-- Bytes in hexadecimal text.
use Rattle.std.proofs.Common.{◌≡◌, ℕ, ◌%◌, ◌<◌, Bool, true, false, Some, is_some, Result, Ok, Err, List, [], ◌∷◌, All, length, refl, ap, sym, ◌∙◌, arith}
use Rattle.std.proofs.lemmas.Bool.Decides.{nat_tests}
use Rattle.std.proofs.lemmas.List.Elements.{All-nil, All-weaker}
use Rattle.std.proofs.lemmas.List.Sums.{AllPass-from_list_all, list_all-from_AllPass}
use Rattle.std.specs.Char.{is_ascii_hexdigit}
use Rattle.std.specs.List.{list_all}
use Rattle.hex.specs.Hex.{IsBytes, decode_of, encode_upper, is_hex_digit}
use Rattle.hex.specs.declared.error.FromHexError.{FromHexError}
use Rattle.hex.proofs.HexLemmas.{decode_of-digits, decode_of-encode_upper, decode_of-odd, decode_of-ok}
use Rattle.zvt_kept.specs.Records.{IsPiece, some_bytes}

digit_same : (c : ℕ) → is_hex_digit c ≡ is_ascii_hexdigit c
digit_same c = grind (arith, nat_tests)

digit_plain : (c : ℕ) → is_hex_digit c ≡ true → 31 < c
digit_plain c h = grind (arith, nat_tests)

all_same : (ds : List ℕ) → list_all is_hex_digit ds ≡ list_all is_ascii_hexdigit ds
all_same [] = refl
all_same (c ∷ cs) = rw (digit_same c, all_same cs) refl

-- bytes are read back from their text
pub piece_back : (bytes : List ℕ) → IsPiece bytes → some_bytes (decode_of (encode_upper bytes)) ≡ Some bytes
piece_back [] piece = absurd (omega (arith, piece.some))
piece_back (byte ∷ bytes) piece = ap some_bytes (decode_of-encode_upper (byte ∷ bytes) piece.bytes)

-- and the text has no control character
pub encode_plain : (bytes : List ℕ) → IsBytes bytes → All (λ byte. 31 < byte) (encode_upper bytes)
encode_plain bytes is =
    let ok = decode_of-ok (encode_upper bytes) bytes (decode_of-encode_upper bytes is) in
    All-weaker (λ c. is_hex_digit c ≡ true) (λ c. 31 < c) digit_plain (encode_upper bytes) ok.1

-- ---- the test of a text

some_of : (bytes : List ℕ) → 0 < length bytes → some_bytes (Ok bytes) ≡ Some bytes
some_of [] some = absurd (omega arith)
some_of (byte ∷ bytes) some = refl

no_digits : (ds : List ℕ) (r : Result (List ℕ) FromHexError) → decode_of ds ≡ r → list_all is_hex_digit ds ≡ false → is_some (some_bytes r) ≡ false
no_digits ds (Ok bytes) is none =
    let ok = decode_of-ok ds bytes is in
    let all = list_all-from_AllPass is_hex_digit ds ok.1 in
    absurd (cc (sym all ∙ none))
no_digits ds (Err wrong) is none = refl

by_test : (ds : List ℕ) (b : Bool) → 0 < length ds → length ds % 2 ≡ 0 → list_all is_hex_digit ds ≡ b → b ≡ is_some (some_bytes (decode_of ds))
by_test ds true some even all =
    let read = decode_of-digits ds even (AllPass-from_list_all is_hex_digit ds all) in
    let ok = decode_of-ok ds read.0 read.1 in
    let bytes : 0 < length read.0 = omega (arith, ok.2) in
    rw (read.1, some_of read.0 bytes) refl
by_test ds false some even none = sym (no_digits ds (decode_of ds) refl none)

-- an even number of digits, and at least one
pub digits_tested : (ds : List ℕ) → 0 < length ds → length ds % 2 ≡ 0 → list_all is_ascii_hexdigit ds ≡ is_some (some_bytes (decode_of ds))
digits_tested ds some even = by_test ds (list_all is_ascii_hexdigit ds) some even (all_same ds)

pub odd_tested : (ds : List ℕ) → length ds % 2 ≡ 1 → false ≡ is_some (some_bytes (decode_of ds))
odd_tested ds odd = rw (decode_of-odd ds odd) refl

no_bytes : (bytes : List ℕ) → length bytes ≡ 0 → false ≡ is_some (some_bytes (Ok bytes))
no_bytes [] none = refl
no_bytes (byte ∷ bytes) none = absurd (omega arith)

pub none_tested : (ds : List ℕ) → length ds ≡ 0 → false ≡ is_some (some_bytes (decode_of ds))
none_tested [] none =
    let read = decode_of-digits [] refl (All-nil (λ c. is_hex_digit c ≡ true)) in
    let ok = decode_of-ok [] read.0 read.1 in
    rw read.1 (no_bytes read.0 (omega (arith, ok.2)))
none_tested (c ∷ cs) none = absurd (omega arith)

-- what is decoded after the test
pub decoded : (ds bytes : List ℕ) → is_some (some_bytes (decode_of ds)) ≡ true → decode_of ds ≡ Ok bytes → some_bytes (decode_of ds) ≡ Some bytes
decoded ds [] some is = let none : is_some (some_bytes (decode_of ds)) ≡ false = rw is refl in absurd (cc (sym some ∙ none))
decoded ds (byte ∷ bytes) some is = rw is refl
