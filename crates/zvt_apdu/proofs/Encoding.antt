-- A slice of the spelling's own size is written whole.
use Rattle.std.proofs.Common.{◌≡◌, ℕ, List, [], ◌∷◌, ◌++◌, length, take, drop, refl, sym, ◌∙◌, ap, subst, arith, append-nil, length-drop}
use Rattle.std.proofs.Math.Seq.{take-append_seam}
use Rattle.zvt_grammar.specs.Reading.{shortest}
use Rattle.zvt_apdu.specs.declared.writer.NoRoom.{NoRoom}
use Rattle.zvt_apdu.specs.Grammar.{Spells}
use Rattle.zvt_apdu.specs.Message.{Message}
use Rattle.zvt_apdu.specs.Messages.{Encodes, HasSpelling}
use Rattle.std.specs.Prelude.{Ok, Err}

pub has_room : (m : Message) (old new : List ℕ) (size : ℕ) (fault : NoRoom) → (s : HasSpelling m) → ((bytes : List ℕ) → Spells shortest m bytes → size ≡ length bytes)
    → length old ≡ size → Encodes m old new (Err fault) → ⊥
has_room m old new size fault s sized is encodes =
    let short = encodes s.bytes s.spelled in omega (arith, short.1, short.2, is, sized s.bytes s.spelled)

pub fills : (m : Message) (old new rest : List ℕ) (size count len : ℕ) → (s : HasSpelling m) → ((bytes : List ℕ) → Spells shortest m bytes → size ≡ length bytes)
    → length old ≡ size → len ≡ size → Encodes m old new (Ok count) → Spells shortest m (take len (new ++ rest))
fills m old new rest size count len s sized is is_len encodes =
    let written = encodes s.bytes s.spelled in
    let none : length (drop count old) ≡ 0 = omega (arith, length-drop count old, written.1, is, sized s.bytes s.spelled) in
    let all : new ≡ s.bytes = written.0 ∙ ap (λ r. s.bytes ++ r) (empty (drop count old) none) ∙ append-nil s.bytes in
    let same : take len (new ++ rest) ≡ s.bytes =
    ap (λ n. take n (new ++ rest)) (is_len ∙ sized s.bytes s.spelled) ∙ ap (λ b. take (length s.bytes) (b ++ rest)) all ∙ take-append_seam s.bytes rest in
    subst (λ b. Spells shortest m b) (sym same) s.spelled
  where
    empty : (xs : List ℕ) → length xs ≡ 0 → xs ≡ []
    empty [] e = refl
    empty (x ∷ xs) e = absurd (omega (arith, e))
