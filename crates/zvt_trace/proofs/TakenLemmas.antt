-- The line that spells a chunk.
use Rattle.std.proofs.Common.{◌≡◌, ◌≤◌, ◌+◌, ◌*◌, ◌∙◌, ℕ, List, [], ◌∷◌, ◌++◌, Ok, Err, arith, ap, length, length-append, append-nil, refl, subst, sym}
use Rattle.std.specs.Prelude.{◌==◌, OnOk, Result, false}
use Rattle.std.proofs.lemmas.List.Elements.{All-nil}
use Rattle.std.specs.Str.Lines.{lines}
use Rattle.hex.specs.Hex.{IsBytes, encode_with, upper_digits}
use Rattle.zvt_grammar.specs.Reading.{Reading}
use Rattle.zvt_trace.specs.ChunkLaw.{sent, spelled_line}
use Rattle.zvt_trace.specs.Chunks.{AnswersFeed, IsWhole, ReadTo}
use Rattle.zvt_trace.specs.Lines.{piece_text}
use Rattle.zvt_trace.specs.Listening.{Fails, Hears, WalksOn}
use Rattle.zvt_trace.specs.Meanings.{SpellsBytes, bytes_of, meaning_of, piece}
use Rattle.zvt_trace.specs.declared.direction.Direction.{Direction}
use Rattle.zvt_trace.specs.declared.direction.Direction.TheVariants.{FromTill, FromTerminal}
use Rattle.zvt_trace.specs.declared.listener.Scope.{Scope}
use Rattle.zvt_trace.specs.TraceEvent.{At}
use Rattle.zvt_trace.specs.declared.chunks.Walker.{Walker}
use Rattle.zvt_trace.specs.declared.fault.TraceFault.{TraceFault}
use Rattle.zvt_trace.proofs.ChunkLaws.{first_line, line_means}
use Rattle.zvt_trace.proofs.ChunkLemmas.{last_append}
use Rattle.zvt_trace.proofs.SpelledLemmas.{no_bytes_of, no_text}
use Rattle.zvt_trace.proofs.WalkerLemmas.{lines_failed, lines_read, rest_held}

length_with : (digits bytes : List ℕ) → length (encode_with digits bytes) ≡ 2 * length bytes
length_with digits [] = unfold encode_with in refl
length_with digits (byte ∷ bytes) = more (length_with digits bytes)
  where
    more : length (encode_with digits bytes) ≡ 2 * length bytes → length (encode_with digits (byte ∷ bytes)) ≡ 2 * length (byte ∷ bytes)
    more rest = unfold encode_with in omega (arith, rest)

pub piece_is : (from : Direction) (bytes : List ℕ) → piece_text from bytes ≡ spelled_line (sent from bytes) ++ 10 ∷ []
piece_is FromTill bytes = refl
piece_is FromTerminal bytes = refl

line_size : (from : Direction) (bytes : List ℕ) → length (spelled_line (sent from bytes)) ≡ 2 * length bytes + 2
line_size from bytes = omega (arith, length_with upper_digits bytes)

pub piece_size : (from : Direction) (bytes : List ℕ) → length (piece_text from bytes) ≡ 2 * length bytes + 3
piece_size from bytes = omega (arith, ap (λ (t : List ℕ). length t) (piece_is from bytes), length-append (spelled_line (sent from bytes)) (10 ∷ []), line_size from bytes)

pub piece_first : (from : Direction) (bytes : List ℕ) → IsBytes bytes → lines (piece_text from bytes) ≡ spelled_line (sent from bytes) ∷ lines []
piece_first from bytes is = ap lines (piece_is from bytes) ∙ first_line (sent from bytes) [] is

pub piece_fits : (from : Direction) (bytes : List ℕ) → length (spelled_line (sent from bytes)) + length {A = ℕ} [] ≤ length (piece_text from bytes)
piece_fits from bytes = omega (arith, piece_size from bytes, line_size from bytes)

pub piece_whole : (from : Direction) (bytes : List ℕ) → IsWhole (piece_text from bytes)
piece_whole from bytes = subst IsWhole (sym (piece_is from bytes)) (last_append 10 (spelled_line (sent from bytes)) (10 ∷ []))

all_bytes : (bytes : List ℕ) → bytes ++ bytes_of [] ≡ bytes
all_bytes bytes = ap (λ (b : List ℕ). bytes ++ b) no_bytes_of ∙ append-nil bytes

-- the bytes are what the line says
pub piece_reads : (from : Direction) (bytes : List ℕ) → IsBytes bytes
    → (meaning_of (spelled_line (sent from bytes)) ≡ Ok (piece from (bytes ++ bytes_of []))) × (length (bytes ++ bytes_of []) ≤ length (spelled_line (sent from bytes))) × SpellsBytes []
piece_reads from bytes is = (
  line_means (sent from bytes) is ∙ ap (λ (b : List ℕ). Ok (piece from b)) (sym (all_bytes bytes)),
  omega (arith, ap (λ (b : List ℕ). length b) (all_bytes bytes), line_size from bytes),
  no_text,
)

-- a whole text was read where no line had begun
pub all_taken : {S : Type 0} (r : Reading) (hears : Hears S) (fails : Fails S) (scope : Scope) (bytes text : List ℕ) (earlier : List At) (old new : Walker) (x y : S) (answer : Result Unit TraceFault) → new.begun.items ≡ []
    → (to : ReadTo r scope bytes (text ++ []) earlier old.progress) → IsWhole text → OnOk answer (new.progress.size ≡ old.progress.size + length text)
    → WalksOn r hears fails scope (lines to.done ++ lines text) earlier new.progress x y answer → AnswersFeed r hears fails scope bytes earlier new x y answer
all_taken r hears fails scope bytes text earlier old new x y (Ok done) none to whole size walked =
    let read = lines_read r hears fails scope bytes text [] earlier old.progress new.progress x y to whole size walked in
    (read.0, rest_held r scope bytes [] (earlier ++ read.0) new read.1 (All-nil (λ byte. (byte == 10) ≡ false)) none, read.2)
all_taken r hears fails scope bytes text earlier old new x y (Err fault) none to whole size failed =
    lines_failed r hears fails scope bytes text [] earlier old.progress new.progress fault x y to whole failed

-- the line has as many bytes as were counted
pub on_size : (from : Direction) (bytes : List ℕ) (old new : ℕ) (answer : Result Unit TraceFault) → OnOk answer (new ≡ old + (2 * length bytes + 3)) → OnOk answer (new ≡ old + length (piece_text from bytes))
on_size from bytes old new (Ok done) is = omega (arith, is, piece_size from bytes)
on_size from bytes old new (Err fault) is = is
