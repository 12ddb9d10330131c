-- Chunks that pass one after another.
use Rattle.std.proofs.Common.{◌≡◌, ℕ, List, [], ◌∷◌, ◌++◌, Option, Some, None, append-nil, append_assoc, ap, arith, length, length-append, refl, subst, sym, ◌∙◌}
use Rattle.std.proofs.KnownBytes.{Appends-nil, Appends-trans, Consumes-nil, Consumes-trans}
use Rattle.std.specs.Io.KnownBytes.{Appends, Consumes, IsAtEnd}
use Rattle.zvt_trace.specs.Lines.{piece_text}
use Rattle.zvt_trace.specs.declared.direction.Direction.{Direction}
use Rattle.zvt_trace.specs.declared.direction.Direction.TheVariants.{FromTerminal, FromTill}
use Rattle.zvt_tap.specs.Chunks.{Chunk, IsAll, Moves, Sides, along, bytes_along, trace_text}

pub bytes_more : (from : Direction) (xs ys : List Chunk) → bytes_along from (xs ++ ys) ≡ bytes_along from xs ++ bytes_along from ys
bytes_more from [] ys = refl
bytes_more from (one ∷ xs) ys = ap (λ (s : List ℕ). along from one.from one.bytes ++ s) (bytes_more from xs ys) ∙ sym (append_assoc (along from one.from one.bytes) (bytes_along from xs) (bytes_along from ys))

pub text_more : (xs ys : List Chunk) → trace_text (xs ++ ys) ≡ trace_text xs ++ trace_text ys
text_more [] ys = refl
text_more (one ∷ xs) ys = ap (λ (s : List ℕ). piece_text one.from one.bytes ++ s) (text_more xs ys) ∙ sym (append_assoc (piece_text one.from one.bytes) (trace_text xs) (trace_text ys))

pub text_one : (xs : List Chunk) (one : Chunk) → trace_text (xs ++ one ∷ []) ≡ trace_text xs ++ piece_text one.from one.bytes
text_one xs one = text_more xs (one ∷ []) ∙ ap (λ (s : List ℕ). trace_text xs ++ s) (append-nil (piece_text one.from one.bytes))

pub moves_none : (both : Sides) → Moves [] [] both both
moves_none both = record { till = Consumes-nil both.till; terminal = Consumes-nil both.terminal; to_terminal = Appends-nil both.to_terminal; to_till = Appends-nil both.to_till }

pub moves_more : (read written more_read more_written : List Chunk) (a b c : Sides) → Moves read written a b → Moves more_read more_written b c → Moves (read ++ more_read) (written ++ more_written) a c
moves_more read written more_read more_written a b c one two = record {
  till = subst (λ (s : List ℕ). Consumes a.till c.till s) (sym (bytes_more FromTill read more_read)) (Consumes-trans a.till b.till c.till (bytes_along FromTill read) (bytes_along FromTill more_read) one.till two.till);
  terminal = subst (λ (s : List ℕ). Consumes a.terminal c.terminal s) (sym (bytes_more FromTerminal read more_read)) (Consumes-trans a.terminal b.terminal c.terminal (bytes_along FromTerminal read) (bytes_along FromTerminal more_read) one.terminal two.terminal);
  to_terminal = subst (λ (s : List ℕ). Appends a.to_terminal c.to_terminal s) (sym (bytes_more FromTill written more_written)) (Appends-trans a.to_terminal b.to_terminal c.to_terminal (bytes_along FromTill written) (bytes_along FromTill more_written) one.to_terminal two.to_terminal);
  to_till = subst (λ (s : List ℕ). Appends a.to_till c.to_till s) (sym (bytes_more FromTerminal written more_written)) (Appends-trans a.to_till b.to_till c.to_till (bytes_along FromTerminal written) (bytes_along FromTerminal more_written) one.to_till two.to_till);
}

pub moves_nothing : (read written : List Chunk) (a b c : Sides) → Moves read written a b → Moves [] [] b c → Moves read written a c
moves_nothing read written a b c one two =
    subst (λ (xs : List Chunk). Moves xs written a c) (append-nil read) (subst (λ (xs : List Chunk). Moves (read ++ []) xs a c) (append-nil written) (moves_more read written [] [] a b c one two))

pub moves_last : (read written more : List Chunk) (a b c : Sides) → Moves read written a b → Moves more [] b c → Moves (read ++ more) written a c
moves_last read written more a b c one two = subst (λ (xs : List Chunk). Moves (read ++ more) xs a c) (append-nil written) (moves_more read written more [] a b c one two)

-- ---- all bytes of a side

pub all_read : (a b : Option (List ℕ)) (bytes : List ℕ) → Consumes a b bytes → IsAtEnd b → IsAll a bytes
all_read None b bytes consumed ended = tt
all_read (Some xs) None bytes consumed ended = absurd consumed
all_read (Some xs) (Some ys) bytes consumed ended = consumed ∙ ap (λ (s : List ℕ). bytes ++ s) ended ∙ append-nil bytes

-- where all bytes have come no more come
pub all_stays : (a b : Option (List ℕ)) (bytes more : List ℕ) → IsAll a bytes → Consumes a b (bytes ++ more) → IsAll a (bytes ++ more)
all_stays None b bytes more all consumed = tt
all_stays (Some xs) None bytes more all consumed = absurd consumed
all_stays (Some xs) (Some ys) bytes more all consumed = all ∙ sym (append-nil bytes) ∙ ap (λ (s : List ℕ). bytes ++ s) (sym (none_more bytes more ys (sym all ∙ consumed)))
  where
    length_zero : (xs : List ℕ) → length xs ≡ 0 → xs ≡ []
    length_zero [] is = refl
    length_zero (x ∷ xs) is = absurd (omega (arith, is))

    none_more : (bytes more rest : List ℕ) → bytes ≡ (bytes ++ more) ++ rest → more ≡ []
    none_more bytes more rest same = length_zero more (omega (arith, ap length same, length-append (bytes ++ more) rest, length-append bytes more))
