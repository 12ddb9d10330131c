-- A piece in the plain form.
use Rattle.std.proofs.Common.{◌≡◌, ◌≢◌, ◌∙◌, sym, ap, subst, refl, arith, ℕ, suc, ◌+◌, ◌-◌, ◌*◌, ◌<◌, ◌≤◌, false, List, [], ◌∷◌, ◌++◌, length, take, drop, slice_index, ◌==◌, Some, Ok, append-nil, length-append, length-drop}
use Rattle.std.specs.Prelude.{IsSome}
use Rattle.std.specs.List.{position, position_or_len}
use Rattle.std.specs.Str.Lines.{lines, strip_carriage_return}
use Rattle.std.proofs.lemmas.Bool.Decides.{nat_tests}
use Rattle.std.proofs.lemmas.List.{length-take-le, take-append-drop, take_all}
use Rattle.std.proofs.Math.Seq.{take-append_seam, drop-append-add}
use Rattle.hex.specs.Hex.{decode_of, hex_digit_value}
use Rattle.zvt_trace.specs.Meanings.{Begins, IsSign, meaning_of, piece, without_spaces}
use Rattle.zvt_trace.specs.Spelled.{AreHex, after_bytes, spells}
use Rattle.zvt_trace.specs.declared.direction.Direction.{Direction}
use Rattle.zvt_trace.specs.declared.direction.Direction.TheVariants.{FromTill, FromTerminal}
use Rattle.zvt_trace.proofs.LineLemmas.{lines-first, newline}
use Rattle.zvt_trace.proofs.SpelledLemmas.{reads_all}

-- what comes after that many
abbrev pub after_first : ℕ → List ℕ → List ℕ
after_first n text = take (length text - n) (drop n text)

pub no_digit_at : (n : ℕ) (digit : ℕ) → IsSome (hex_digit_value digit) → (IsSome (hex_digit_value n) → ⊥) → digit ≢ n
no_digit_at n digit is never e = never (subst (λ (k : ℕ). IsSome (hex_digit_value k)) e is)

first_feed : (digits after : List ℕ) → AreHex digits → position_or_len newline (digits ++ 10 ∷ after) ≡ length digits
first_feed [] after all = refl
first_feed (digit ∷ digits) after all =
    let other : digit ≢ 10 = no_digit_at 10 digit all.0 (λ is. cc is) in
    let differs : (digit == 10) ≡ false = grind (arith, nat_tests) in
    let more : 1 + length digits ≡ length (digit ∷ digits) = omega arith in
    rw differs (ap (λ (n : ℕ). 1 + n) (first_feed digits after all.1) ∙ more)

last_other : (first : ℕ) (digits : List ℕ) → first ≢ 13 → AreHex digits → slice_index (first ∷ digits) (length digits) ≢ 13
last_other first [] other all = other
last_other first (digit ∷ digits) other all = last_other digit digits (no_digit_at 13 digit all.0 (λ is. cc is)) all.1

strip_other : (line : List ℕ) → slice_index line (length line - 1) ≢ 13 → strip_carriage_return line ≡ line
strip_other line other =
    let differs : (slice_index line (length line - 1) == 13) ≡ false = grind (arith, nat_tests) in
    rw differs refl

-- the first line of a sign, a space, digits and a line feed
pub first_is : (sign : ℕ) (digits after : List ℕ) → sign ≢ 10 → AreHex digits → lines (sign ∷ 32 ∷ digits ++ 10 ∷ after) ≡ (sign ∷ 32 ∷ digits) ∷ lines after
first_is sign digits after other all =
    let text = sign ∷ 32 ∷ digits ++ 10 ∷ after in
    let line = sign ∷ 32 ∷ digits in
    let differs : (sign == 10) ≡ false = grind (arith, nat_tests) in
    let two : 1 + (1 + length digits) ≡ length line = omega arith in
    let place : position_or_len newline text ≡ length line = rw differs (ap (λ (n : ℕ). 1 + (1 + n)) (first_feed digits after all) ∙ two) in
    let size : length text ≡ length line + suc (length after) = length-append line (10 ∷ after) in
    let within : length line < length text = omega (arith, size) in
    let found : position newline text ≡ Some (length line) = rw place (grind (arith, nat_tests)) in
    let prefix : take (length line) text ≡ line = take-append_seam line (10 ∷ after) in
    let rest : drop (length line + 1) text ≡ after = drop-append-add line (10 ∷ after) 1 in
    let last : slice_index (32 ∷ digits) (length digits) ≢ 13 = last_other 32 digits (λ e. cc e) all in
    let at : length line - 1 ≡ suc (length digits) = omega arith in
    let kept : strip_carriage_return line ≡ line = strip_other line (subst (λ (k : ℕ). slice_index line k ≢ 13) (sym at) last) in
    lines-first text (length line) found ∙ ap (λ (t : List ℕ). strip_carriage_return t ∷ lines (drop (length line + 1) text)) prefix
    ∙ ap (λ (t : List ℕ). t ∷ lines (drop (length line + 1) text)) kept ∙ ap (λ (t : List ℕ). line ∷ lines t) rest

-- what the signs of a piece mean
pub sign_means : (sign : ℕ) (from : Direction) (digits bytes : List ℕ) → IsSign sign from → decode_of (without_spaces digits) ≡ Ok bytes
    → (sign ≢ 10) × (meaning_of (sign ∷ 32 ∷ digits) ≡ Ok (piece from bytes))
sign_means sign FromTill digits bytes is decoded = rw is ((λ e. cc e), rw decoded refl)
sign_means sign FromTerminal digits bytes is decoded = rw is ((λ e. cc e), rw decoded refl)

-- a piece in the plain form was read
pub plain_begins : (sign : ℕ) (from : Direction) (text buffer after : List ℕ) (count : ℕ) → IsSign sign from
    → drop (2 * count) text ≡ 10 ∷ after → AreHex (take (2 * count) text)
    → ((undecoded : List ℕ) → after_bytes (take count buffer) (spells (without_spaces undecoded)) ≡ spells (without_spaces (take (2 * count) text ++ undecoded)))
    → 2 * count ≤ length text
    → Begins (sign ∷ 32 ∷ text) (λ line. (meaning_of line ≡ Ok (piece from (take count buffer))) × (count ≤ length line)) after
plain_begins sign from text buffer after count is cut all so fits =
    let digits = take (2 * count) text in
    let bytes = take count buffer in
    let whole : digits ++ 10 ∷ after ≡ text = ap (λ (t : List ℕ). digits ++ t) (sym cut) ∙ take-append-drop (2 * count) text in
    let read : after_bytes bytes (spells (without_spaces [])) ≡ spells (without_spaces digits) =
    so [] ∙ ap (λ (t : List ℕ). spells (without_spaces t)) (append-nil digits) in
    let means = sign_means sign from digits bytes is (reads_all bytes digits [] (omega arith) read) in
    let size : length digits ≡ 2 * count = length-take-le (2 * count) text fits in
    let left : length text ≡ length digits + suc (length after) = ap (λ (t : List ℕ). length t) (sym whole) ∙ length-append digits (10 ∷ after) in (
      sign ∷ 32 ∷ digits,
      ap (λ (t : List ℕ). lines (sign ∷ 32 ∷ t)) (sym whole) ∙ first_is sign digits after means.0 all,
      (means.1, omega (arith, size)),
      omega (arith, left),
      omega (arith, left),
    )

after_is : (n : ℕ) (text : List ℕ) → after_first n text ≡ drop n text
after_is n text = take_all _ _ (rw (length-drop n text) (omega arith))

feed_first : (text : List ℕ) → 1 ≤ length text → slice_index text 0 ≡ 10 → text ≡ 10 ∷ drop 1 text
feed_first [] some is = absurd (omega arith)
feed_first (x ∷ text) some is = ap (λ (k : ℕ). k ∷ text) is

pub plain_read : (rest buffer : List ℕ) (count : ℕ) (from : Direction) → 2 ≤ length rest → slice_index rest 1 ≡ 32
    → IsSign (slice_index rest 0) from
    → 2 * count ≤ length (after_first 2 rest) → AreHex (take (2 * count) (after_first 2 rest))
    → ((undecoded : List ℕ) → after_bytes (take count buffer) (spells (without_spaces undecoded)) ≡ spells (without_spaces (take (2 * count) (after_first 2 rest) ++ undecoded)))
    → 1 ≤ length (after_first (2 * count) (after_first 2 rest)) → slice_index (after_first (2 * count) (after_first 2 rest)) 0 ≡ 10
    → Begins rest (λ line. (meaning_of line ≡ Ok (piece from (take count buffer))) × (count ≤ length line)) (after_first 1 (after_first (2 * count) (after_first 2 rest)))
plain_read [] buffer count from some space is fits all so more feed = absurd (omega arith)
plain_read (sign ∷ []) buffer count from some space is fits all so more feed = absurd (omega arith)
plain_read (sign ∷ blank ∷ after) buffer count from some space is fits all so more feed =
    let text = after_first 2 (sign ∷ blank ∷ after) in
    let whole : text ≡ after = after_is 2 (sign ∷ blank ∷ after) in
    let rest = after_first (2 * count) text in
    let cut : drop (2 * count) text ≡ 10 ∷ after_first 1 rest =
    sym (after_is (2 * count) text) ∙ feed_first rest more feed ∙ ap (λ (t : List ℕ). 10 ∷ t) (sym (after_is 1 rest)) in
    let begins = plain_begins sign from text buffer (after_first 1 rest) count is cut all so fits in
    let same : sign ∷ 32 ∷ text ≡ sign ∷ blank ∷ after = ap (λ (t : List ℕ). sign ∷ 32 ∷ t) whole ∙ ap (λ (k : ℕ). sign ∷ k ∷ after) (sym space) in
    subst (λ (t : List ℕ). Begins t (λ line. (meaning_of line ≡ Ok (piece from (take count buffer))) × (count ≤ length line)) (after_first 1 rest)) same begins
