-- What a file represents, said of lines.
use Rattle.std.proofs.Common.{◌≡◌, ◌≢◌, ℕ, zero, suc, ◌+◌, ◌<◌, List, [], ◌∷◌, ◌++◌, length, take, drop, false, All, refl, sym, ◌∙◌, ap, arith, append_assoc, length-append}
use Rattle.std.proofs.lemmas.List.{take_all}
use Rattle.std.proofs.lemmas.List.Elements.{All-nil, All-cons, All-head, All-tail, All-push}
use Rattle.zvt_journal.specs.Text.{whole, begins_marked, IsLine, text_of, LinesAreRecovered, RecoveredIsLines, IsRecord}
use Rattle.zvt_journal.proofs.Lines.{empty, ends, within, way, take_past, ends_is, within_is, recovered_closed, itself_whole}

-- a line, in whose midst we are, is counted at its end
whole_line : (n : ℕ) (line more : List ℕ) → All (λ byte. byte ≢ 10) line → 0 < n + length line → whole n (line ++ 10 ∷ more) ≡ n + length line + 1 + whole 0 more
whole_line n [] more no_end some =
    let inside : n ≢ 0 = λ none. omega (arith, none, some) in
    omega (arith, ends_is n 10 more refl inside)
whole_line n (byte ∷ line) more no_end some =
    let first = within_is n byte (line ++ 10 ∷ more) (All-head (λ b. b ≢ 10) byte line no_end) in
    let others = whole_line (n + 1) line more (All-tail (λ b. b ≢ 10) byte line no_end) (omega arith) in
    omega (arith, first, others)

whole_text : (lines : List (List ℕ)) → All IsLine lines → whole 0 (text_of lines) ≡ length (text_of lines)
whole_text [] good = refl
whole_text (line ∷ lines) good =
    let this = All-head IsLine line lines good in
    let rest = whole_text lines (All-tail IsLine line lines good) in
    omega (arith, whole_line 0 line (text_of lines) this.no_end (omega (arith, this.some)), rest, length-append line (10 ∷ text_of lines))

pub lines_are_recovered : LinesAreRecovered
lines_are_recovered lines rest good = recovered_closed (text_of lines) rest (whole_text lines good)

-- the lines, where these bytes of the first came already
abbrev Lines : List ℕ → List ℕ → Type 0
Lines line file = (lines : List (List ℕ)) × All IsLine lines × (text_of lines ≡ take (whole (length line) file) (line ++ file))

nothing : (line file : List ℕ) → whole (length line) file ≡ 0 → Lines line file
nothing line file none = ([], All-nil IsLine, ap (λ (n : ℕ). take n (line ++ file)) (sym none))

cons_take : (byte n m : ℕ) (rest : List ℕ) → m ≡ n + 1 → byte ∷ take n rest ≡ take m (byte ∷ rest)
cons_take byte n zero rest is = absurd (omega (arith, is))
cons_take byte n (suc m) rest is = let same : n ≡ m = omega (arith, is) in ap (λ (k : ℕ). byte ∷ take k rest) same

lines_from : (line file : List ℕ) → All (λ byte. byte ≢ 10) line → Lines line file
lines_from line [] no_end = nothing line [] refl
lines_from line (byte ∷ rest) no_end = elim (way (length line) byte) [
  | empty e ↦ nothing line (byte ∷ rest) (e rest).is
  | ends lf some e ↦
      let more = lines_from [] rest (All-nil (λ b. b ≢ 10)) in
      let n = whole 0 rest in
      let one : IsLine line = record { some = omega (arith, some); no_end = no_end } in
      let taken : take (whole (length line) (byte ∷ rest)) (line ++ byte ∷ rest) ≡ line ++ take (n + 1) (byte ∷ rest) = take_past line (byte ∷ rest) _ (n + 1) (omega (arith, (e rest).is)) in (
        line ∷ more.0,
        All-cons IsLine line more.0 one more.1,
        ap (λ (l : List ℕ). line ++ 10 ∷ l) more.2
            ∙ ap (λ (b : ℕ). line ++ b ∷ take n rest) (sym lf)
            ∙ ap (λ (l : List ℕ). line ++ l) (cons_take byte n (n + 1) rest refl)
            ∙ sym taken,
      )
  | within other w ↦
      let more = lines_from (line ++ byte ∷ []) rest (All-push (λ b. b ≢ 10) line byte no_end other) in
      let longer : whole (length (line ++ byte ∷ [])) rest ≡ whole (length line) (byte ∷ rest) = ap (λ (n : ℕ). whole n rest) (length-append line (byte ∷ [])) ∙ sym (w rest).is in (
        more.0,
        more.1,
        more.2
            ∙ ap (λ (n : ℕ). take n ((line ++ byte ∷ []) ++ rest)) longer
            ∙ ap (λ (l : List ℕ). take (whole (length line) (byte ∷ rest)) l) (append_assoc line (byte ∷ []) rest),
      )
]

pub recovered_is_lines : RecoveredIsLines
recovered_is_lines file = lines_from [] file (All-nil (λ b. b ≢ 10))

-- the test of a record
pub record_if : (text : List ℕ) → 0 < length text → begins_marked (drop 1 text) ≡ false → whole 0 text ≡ length text → IsRecord text
record_if text some unmarked is = record { lines = take_all (whole 0 text) text (omega (arith, is)); some = some; unmarked = unmarked }

pub record_whole : (text : List ℕ) → IsRecord text → whole 0 text ≡ length text
record_whole text good = itself_whole text good.lines
