use Rattle.std.proofs.Common.{◌≡◌, ℕ, ◌+◌, ◌≤◌, ◌∷◌, ◌++◌, length, arith, refl, length-append, subst}
use Rattle.zvt_grammar.specs.Reading.{AreBytes}
use Rattle.zvt_tlv.proofs.Alive.{bytes_joined}
use Rattle.zvt_tlv.proofs.Writing.{PutAll, puts_after}
use Rattle.zvt_apdu.proofs.DataMoves.{are_bytes}
use Rattle.zvt_term.proofs.SpellingLemmas.{put_spelled, text_data}
use Rattle.zvt_term.proofs.writer.put_text.Goals as goal

pub returns-clause-written : goal.returns-clause-written
returns-clause-written c =
    let words = c.args.words.now in
    let more = c.args.more.now in
    let size = 1 + length words + length more in
    let same : size ≡ length (0 ∷ (words ++ more)) = omega (arith, length-append words more) in
    let few : length (0 ∷ (words ++ more)) ≤ 29 = omega (arith, length-append words more, c.requires.short) in
    let are : AreBytes (words ++ more) =
    bytes_joined words more (are_bytes words (λ i. omega (arith, c.type_inv.words i))) (are_bytes more (λ i. omega (arith, c.type_inv.more i))) in
    put_spelled _ 0x06 0xD1 (0 ∷ (words ++ more)) _ _ _ refl few (text_data (words ++ more) are)
    (subst (λ (n : ℕ). PutAll (0x06 ∷ 0xD1 ∷ n ∷ 0 ∷ (words ++ more)) c.put_after-at.result c.put_bytes.result c.args.out.now c.put_after-at.new.out c.put_bytes.new.out) same
    (puts_after (0x06 ∷ 0xD1 ∷ size ∷ 0 ∷ words) more c.args.out.now c.put_after-at.new.out c.put_bytes.new.out c.put_after-at.result c.put_bytes.result c.put_after-at.ensures.written c.put_bytes.ensures))
