-- Lines of a text, one after another.
use Rattle.std.proofs.Common.{◌≡◌, ◌≢◌, ℕ, ◌-◌, ◌<◌, false, List, [], ◌∷◌, ◌++◌, All, length, get_or, refl, ap, ◌∙◌, arith, append_assoc, map}
use Rattle.std.specs.Prelude.{◌==◌}
use Rattle.std.proofs.lemmas.Bool.Decides.{nat_tests}
use Rattle.std.proofs.lemmas.List.Elements.{All-head, All-tail, All-weaker}
use Rattle.std.proofs.lemmas.List.Splits.{slice_split_at, length-slice_split}
use Rattle.std.specs.List.{slice_split}
use Rattle.std.specs.Str.Lines.{lines, lines_of_parts, strip_carriage_return}
use Rattle.zvt_journal.specs.Text.{IsLine, text_of}

-- a line of no control characters
pub record IsPlain (line : List ℕ) : Type 0 where
  pub some : 0 < length line
  pub plain : All (λ byte. 31 < byte) line

not_ten : (byte : ℕ) → byte ≢ 10 → (byte == 10) ≡ false
not_ten byte other = grind (arith, nat_tests)

above : (byte : ℕ) → 31 < byte → byte ≢ 10
above byte plain = λ is. omega arith

pub plain_line : (line : List ℕ) → IsPlain line → IsLine line
plain_line line is = record { some = is.some; no_end = All-weaker (λ b. 31 < b) (λ b. b ≢ 10) above line is.plain }

more_parts : (x : List ℕ) (parts : List (List ℕ)) → 0 < length parts → lines_of_parts (x ∷ parts) ≡ strip_carriage_return x ∷ lines_of_parts parts
more_parts x [] some = absurd (omega arith)
more_parts x (y ∷ more) some = refl

-- the first line, and those after it
pub lines_line : (line rest : List ℕ) → All (λ byte. byte ≢ 10) line → lines (line ++ 10 ∷ rest) ≡ strip_carriage_return line ∷ lines rest
lines_line line rest no_end =
    let no : All (λ byte. (byte == 10) ≡ false) line = All-weaker (λ b. b ≢ 10) (λ b. (b == 10) ≡ false) not_ten line no_end in
    let parts = slice_split_at (λ b. b == 10) line 10 rest no refl in
    let some : 0 < length (slice_split (λ b. b == 10) rest) = rw (length-slice_split (λ b. b == 10) rest) (omega arith) in
    ap lines_of_parts parts ∙ more_parts line (slice_split (λ b. b == 10) rest) some

-- a plain line has no carriage return
stripped : (line : List ℕ) → get_or line (length line - 1) 0 ≢ 13 → strip_carriage_return line ≡ line
stripped line other = grind (arith, nat_tests)

pub plain_stripped : (line : List ℕ) → IsPlain line → strip_carriage_return line ≡ line
plain_stripped line is =
    let last : 31 < get_or line (length line - 1) 0 = is.plain (length line - 1) 0 (omega (arith, is.some)) in
    stripped line (λ at. omega (arith, last, at))

-- the lines of a text come before those of what follows it
pub lines_append : (ls : List (List ℕ)) (rest : List ℕ) → All IsLine ls → lines (text_of ls ++ rest) ≡ map strip_carriage_return ls ++ lines rest
lines_append [] rest all = refl
lines_append (line ∷ ls) rest all =
    let this = All-head IsLine line ls all in
    let more = lines_append ls rest (All-tail IsLine line ls all) in
    ap lines (append_assoc line (10 ∷ text_of ls) rest)
    ∙ lines_line line (text_of ls ++ rest) this.no_end
    ∙ ap (λ (xs : List (List ℕ)). strip_carriage_return line ∷ xs) more

-- the lines of a text of plain lines
pub lines_plain : (ls : List (List ℕ)) → All IsPlain ls → lines (text_of ls) ≡ ls
lines_plain [] all = refl
lines_plain (line ∷ ls) all =
    let this = All-head IsPlain line ls all in
    let more = lines_plain ls (All-tail IsPlain line ls all) in
    lines_line line (text_of ls) (plain_line line this).no_end
    ∙ rw (plain_stripped line this, more) refl
