-- What holds of the text of receipts.
use Rattle.std.proofs.Common.{◌≡◌, ℕ, zero, suc, ◌-◌, Bool, true, false, nat_le, nat_lt, not, ◌==◌, ◌&&◌, List, [], ◌∷◌, ◌++◌, Option, Some, None, flat_map, slice_index, codes, refl, sym, ◌∙◌, ap, subst, arith, if◌then◌else◌}
use Rattle.std.proofs.lemmas.Bool.{and_parts, leb-true, lt-ltb}
use Rattle.std.proofs.lemmas.Str.Ascii.{IsAscii-cons, IsAscii-nil}
use Rattle.std.proofs.lemmas.Str.{IsUtf8-append, IsUtf8-encode, IsUtf8-from_ascii, IsUtf8-from_is_utf8, IsUtf8-nil, chars-encodes, chars-IsAscii}
use Rattle.std.specs.Char.{encode_utf8, is_control}
use Rattle.std.specs.Str.{IsAscii, IsUtf8, chars, is_utf8}
use Rattle.hex.specs.Hex.{encode_upper, encode_with, upper_digits}
use Rattle.hex.proofs.HexLemmas.{IsAscii-encode_with}
use lib.Utf8.{scalar, scalars}
use Rattle.zvt_text.specs.Bytes.{escaped, escaped_text, is_plain}
use Rattle.zvt_text.specs.Codepages.{ascii, characters_437, characters_850, characters_latin1, decoded_by, decoded_byte, decoded_character, decoded_text, is_printing, text_by}
use Rattle.zvt_text.specs.Receipts.{AsciiStays, ReceiptRows, TextsAreUtf8}
use Rattle.zvt_text.specs.declared.codepages.Codepage.TheVariants.{Cp437, Cp850, Latin1, Utf8}
use Rattle.zvt_text.specs.declared.codepages.Codepage.{Codepage}
use Rattle.zvt_text.specs.declared.codepages.Quotes.{Quotes}
use Rattle.zvt_text.specs.declared.codepages.Quotes.TheVariants.{Escaped, Plain}
use Rattle.zvt_text.proofs.CodepageLemmas.{is_decoded}
use Rattle.zvt_text.proofs.HexText.{ascii_from, digits_ascii}

-- ---- ASCII

rest_ascii : (b : ℕ) (bs : List ℕ) → IsAscii (b ∷ bs) → IsAscii bs
rest_ascii b bs h = λ (i : ℕ). h (suc i)

ascii_by : (characters bytes : List ℕ) → IsAscii bytes → decoded_by characters Escaped bytes ≡ escaped_text bytes
ascii_by characters [] h = refl
ascii_by characters (b ∷ bs) h =
    let low : nat_lt b 0x80 ≡ true = lt-ltb b 0x80 (h 0) in rw (low, ascii_by characters bs (rest_ascii b bs h)) refl

ascii_characters : (bytes : List ℕ) → IsAscii bytes → flat_map (decoded_character Escaped) bytes ≡ escaped_text bytes
ascii_characters [] h = refl
ascii_characters (b ∷ bs) h =
    let low : nat_lt b 0x80 ≡ true = lt-ltb b 0x80 (h 0) in rw (low, ascii_characters bs (rest_ascii b bs h)) refl

pub ascii_stays : AsciiStays
ascii_stays None bytes h = refl
ascii_stays (Some Cp437) bytes h = ascii_by characters_437 bytes h
ascii_stays (Some Cp850) bytes h = ascii_by characters_850 bytes h
ascii_stays (Some Latin1) bytes h = ascii_by characters_latin1 bytes h
ascii_stays (Some Utf8) bytes h = is_decoded Escaped bytes (IsUtf8-from_ascii bytes h) ∙ ap (flat_map (decoded_character Escaped)) (chars-IsAscii bytes h) ∙ ascii_characters bytes h

-- ---- UTF-8

chosen_utf8 : (b : Bool) (x y : List ℕ) → IsUtf8 x → IsUtf8 y → IsUtf8 (if b then x else y)
chosen_utf8 true x y p q = p
chosen_utf8 false x y p q = q

plain_utf8 : (t : Bool) (b : ℕ) → is_plain b ≡ t → IsUtf8 (if t then b ∷ [] else codes "\\x" ++ encode_upper (b ∷ []))
plain_utf8 true b e =
    let few = and_parts (nat_le b 0x7E) (not (b == 0x22) && not (b == 0x5C)) (and_parts (nat_le 0x20 b) _ e).1 in
    IsUtf8-from_ascii (b ∷ []) (IsAscii-cons b [] (omega (arith, leb-true b 0x7E few.0)) IsAscii-nil)
plain_utf8 false b e = IsUtf8-append (codes "\\x") (encode_upper (b ∷ [])) (IsUtf8-from_ascii _ (ascii_from (codes "\\x") refl)) (IsUtf8-from_ascii _ (IsAscii-encode_with upper_digits (b ∷ []) digits_ascii))

escaped_utf8 : (b : ℕ) → IsUtf8 (escaped b)
escaped_utf8 b = plain_utf8 (is_plain b) b refl

escaped_text_utf8 : (bytes : List ℕ) → IsUtf8 (escaped_text bytes)
escaped_text_utf8 [] = IsUtf8-nil
escaped_text_utf8 (b ∷ bs) = IsUtf8-append (escaped b) (escaped_text bs) (escaped_utf8 b) (escaped_text_utf8 bs)

scalar_at : (cs : List ℕ) (i : ℕ) → scalars cs ≡ true → scalar (slice_index cs i) ≡ true
scalar_at [] i e = refl
scalar_at (c ∷ cs) zero e = (and_parts (scalar c) (scalars cs) e).0
scalar_at (c ∷ cs) (suc i) e = scalar_at cs i (and_parts (scalar c) (scalars cs) e).1

printing_utf8 : (t : Bool) (c : ℕ) → is_printing c ≡ t → IsUtf8 (if t then c ∷ [] else escaped c)
printing_utf8 true c e =
    IsUtf8-from_ascii (c ∷ []) (IsAscii-cons c [] (omega (arith, leb-true c 0x7E (and_parts (nat_le 0x20 c) _ e).1)) IsAscii-nil)
printing_utf8 false c e = escaped_utf8 c

ascii_utf8 : (quotes : Quotes) (c : ℕ) → IsUtf8 (ascii quotes c)
ascii_utf8 Escaped c = escaped_utf8 c
ascii_utf8 Plain c = printing_utf8 (is_printing c) c refl

by_utf8 : (characters : List ℕ) (quotes : Quotes) (bytes : List ℕ) → scalars characters ≡ true → IsUtf8 (decoded_by characters quotes bytes)
by_utf8 characters quotes [] e = IsUtf8-nil
by_utf8 characters quotes (b ∷ bs) e =
    IsUtf8-append (decoded_byte characters quotes b) (decoded_by characters quotes bs)
    (chosen_utf8 (nat_lt b 0x80) _ _ (ascii_utf8 quotes b) (chosen_utf8 (is_control (slice_index characters (b - 0x80))) _ _ (escaped_utf8 b) (IsUtf8-encode _ (scalar_at characters (b - 0x80) e))))
    (by_utf8 characters quotes bs e)

characters_utf8 : (quotes : Quotes) (cs : List ℕ) → scalars cs ≡ true → IsUtf8 (flat_map (decoded_character quotes) cs)
characters_utf8 quotes [] e = IsUtf8-nil
characters_utf8 quotes (c ∷ cs) e =
    let parts = and_parts (scalar c) (scalars cs) e in
    IsUtf8-append (decoded_character quotes c) (flat_map (decoded_character quotes) cs)
    (chosen_utf8 (nat_lt c 0x80) _ _ (ascii_utf8 quotes c) (chosen_utf8 (is_control c) _ _ (escaped_text_utf8 (encode_utf8 c)) (IsUtf8-encode c parts.0)))
    (characters_utf8 quotes cs parts.1)

utf8_by : (t : Bool) (quotes : Quotes) (bytes : List ℕ) → is_utf8 bytes ≡ t
    → IsUtf8 (if t then flat_map (decoded_character quotes) (chars bytes) else escaped_text bytes)
utf8_by true quotes bytes e =
    let u = IsUtf8-from_is_utf8 bytes e in
    subst (λ (cs : List ℕ). IsUtf8 (flat_map (decoded_character quotes) cs)) (sym (ap chars (sym u.1.1) ∙ chars-encodes u.0 u.1.0)) (characters_utf8 quotes u.0 u.1.0)
utf8_by false quotes bytes e = escaped_text_utf8 bytes

text_utf8 : (quotes : Quotes) (codepage : Codepage) (bytes : List ℕ) → IsUtf8 (text_by quotes codepage bytes)
text_utf8 quotes Cp437 bytes = by_utf8 characters_437 quotes bytes refl
text_utf8 quotes Cp850 bytes = by_utf8 characters_850 quotes bytes refl
text_utf8 quotes Latin1 bytes = by_utf8 characters_latin1 quotes bytes refl
text_utf8 quotes Utf8 bytes = utf8_by (is_utf8 bytes) quotes bytes refl

receipt_utf8 : (codepage : Option Codepage) (bytes : List ℕ) → IsUtf8 (decoded_text codepage bytes)
receipt_utf8 None bytes = escaped_text_utf8 bytes
receipt_utf8 (Some codepage) bytes = text_utf8 Escaped codepage bytes

pub texts_are_utf8 : TextsAreUtf8
texts_are_utf8 = (receipt_utf8, text_utf8 Plain)

rows : ReceiptRows
unfolding encode_with encode_utf8 is_utf8 chars
rows = (refl, refl, refl, refl, refl, refl, refl, refl, refl, refl, refl)
