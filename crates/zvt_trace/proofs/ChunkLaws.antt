-- Chunks that are taken raw emit what the lines of their trace emit.
use Rattle.std.proofs.Common.{◌≡◌, ◌≢◌, ◌∙◌, sym, ap, subst, refl, arith, ℕ, suc, ◌+◌, ◌/◌, ◌%◌, ◌<◌, false, List, [], ◌∷◌, ◌++◌, ◌==◌, Some, Ok}
use Rattle.std.specs.List.{position}
use Rattle.std.specs.Str.Lines.{lines}
use Rattle.std.proofs.lemmas.Bool.Decides.{nat_tests}
use Rattle.hex.specs.Hex.{IsBytes, decode_of, encode_upper, encode_with}
use Rattle.hex.proofs.HexLemmas.{IsDigits-upper_digits, decode_of-encode_upper}
use Rattle.zvt_trace.specs.ChunkLaw.{Chunk, ChunksAreLines, HasBytes, ended, meaning_in, sent, sign_of, spelled_line, spelled_trace}
use Rattle.zvt_trace.specs.Emitting.{LinesEmit}
use Rattle.zvt_trace.specs.Meanings.{IsSign, meaning_of, without_spaces}
use Rattle.zvt_trace.specs.Spelled.{AreHex}
use Rattle.zvt_trace.specs.declared.direction.Direction.{Direction}
use Rattle.zvt_trace.specs.declared.direction.Direction.TheVariants.{FromTill, FromTerminal}
use Rattle.zvt_trace.proofs.LineLemmas.{lines-first, newline}
use Rattle.zvt_trace.proofs.PlainLemmas.{first_is, no_digit_at, sign_means}

-- the digits of bytes are digits
are_digits : (bytes : List ℕ) → IsBytes bytes → AreHex (encode_upper bytes)
unfolding encode_with
are_digits [] is = tt
are_digits (byte ∷ bytes) is =
    let fits : byte < 256 = is 0 in
    let high : byte / 16 < 16 = omega arith in
    let low : byte % 16 < 16 = omega arith in
    (rw (IsDigits-upper_digits (byte / 16) high) refl, (rw (IsDigits-upper_digits (byte % 16) low) refl, are_digits bytes (λ i. is (suc i))))

-- and no spaces
all_kept : (digits : List ℕ) → AreHex digits → without_spaces digits ≡ digits
all_kept [] all = refl
all_kept (digit ∷ digits) all =
    let other : digit ≢ 32 = no_digit_at 32 digit all.0 (λ is. cc is) in
    let differs : (digit == 32) ≡ false = grind (arith, nat_tests) in
    rw differs (ap (λ (l : List ℕ). digit ∷ l) (all_kept digits all.1))

sign_is : (from : Direction) → IsSign (sign_of from) from
sign_is FromTill = refl
sign_is FromTerminal = refl

decoded : (bytes : List ℕ) → IsBytes bytes → decode_of (without_spaces (encode_upper bytes)) ≡ Ok bytes
decoded bytes is = ap decode_of (all_kept (encode_upper bytes) (are_digits bytes is)) ∙ decode_of-encode_upper bytes is

-- the line that spells a chunk means it
pub line_means : (chunk : Chunk) → HasBytes chunk → meaning_of (spelled_line chunk) ≡ Ok (meaning_in chunk)
line_means (sent from bytes) is = (sign_means (sign_of from) from (encode_upper bytes) bytes (sign_is from) (decoded bytes is)).1
line_means ended is = refl

-- and is the first line of the trace
pub first_line : (chunk : Chunk) (after : List ℕ) → HasBytes chunk → lines (spelled_line chunk ++ 10 ∷ after) ≡ spelled_line chunk ∷ lines after
first_line (sent from bytes) after is =
    let means = sign_means (sign_of from) from (encode_upper bytes) bytes (sign_is from) (decoded bytes is) in
    first_is (sign_of from) (encode_upper bytes) after means.0 (are_digits bytes is)
first_line ended after is =
    let found : position newline (33 ∷ 10 ∷ after) ≡ Some 1 = grind (arith, nat_tests) in
    lines-first (33 ∷ 10 ∷ after) 1 found

pub chunks_are_lines : ChunksAreLines
chunks_are_lines r scope count sides [] events after have emit = emit
chunks_are_lines r scope count sides (chunk ∷ chunks) events after have emit =
    subst (λ (ls : List (List ℕ)). LinesEmit r scope count sides ls events after) (sym (first_line chunk (spelled_trace chunks) have.0)) record {
      meaning = meaning_in chunk;
      own = emit.own;
      rest = emit.rest;
      middle = emit.middle;
      means = line_means chunk have.0;
      emits = emit.emits;
      others = chunks_are_lines r scope (count + 1) emit.middle chunks emit.rest after have.1 emit.others;
      is_all = emit.is_all;
    }
