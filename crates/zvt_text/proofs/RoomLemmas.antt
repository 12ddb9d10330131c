-- Text in a room, part by part.
use Rattle.std.proofs.Common.{◌≡◌, ◌∙◌, ap, sym, subst, arith, ℕ, ◌+◌, ◌<◌, ◌≤◌, List, ◌++◌, length, take, MatchResult, Result, append_assoc, length-append}
use Rattle.std.proofs.Math.Seq.{take-append-add}
use Rattle.std.proofs.lemmas.List.{length-take-le, take-append-le}
use Rattle.std.proofs.lemmas.Result.{MatchResult-weaker}
use Rattle.zvt_text.specs.Writing.{Puts}

-- the same text in the buffer, by other words
pub puts_same : {E : Type 0} (result : Result ℕ E) (buffer text other : List ℕ) → text ≡ other →
    MatchResult result (λ end. (end ≤ length buffer) × (take end buffer ≡ text)) (λ _. length buffer < length text) →
    MatchResult result (λ end. (end ≤ length buffer) × (take end buffer ≡ other)) (λ _. length buffer < length other)
puts_same result buffer text other same puts =
    MatchResult-weaker result puts (λ end p. (p.0, p.1 ∙ same)) (λ _ full. subst (λ (text : List ℕ). length buffer < length text) same full)

-- one part after another
pub puts_more : {E : Type 0} (result : Result ℕ E) (at middle : ℕ) (old between new one two : List ℕ) → take middle between ≡ take at old ++ one → Puts result middle between new two → Puts result at old new (one ++ two)
puts_more result at middle old between new one two first = puts_same result new _ _ (ap (λ (t : List ℕ). t ++ two) first ∙ append_assoc (take at old) one two)

-- where a buffer is full at a prefix of a text, it has no capacity for the text
pub prefix_full : (buffer : ℕ) (prefix rest text : List ℕ) → prefix ++ rest ≡ text → buffer < length prefix → buffer < length text
prefix_full buffer prefix rest text e full = subst (λ (t : List ℕ). buffer < length t) e (omega (arith, full, length-append prefix rest))

-- what was put into the buffer after a text comes after it
pub put_after : (size end : ℕ) (items put more said : List ℕ) → size ≤ length items → end ≤ length put → take end put ≡ said
    → (size + end ≤ length (take size items ++ (put ++ more))) × (take (size + end) (take size items ++ (put ++ more)) ≡ take size items ++ said)
put_after size end items put more said inside most is =
    let text = take size items in
    let has : length text ≡ size = length-take-le size items inside in (
      omega (arith, has, length-append text (put ++ more), length-append put more),
      ap (λ (n : ℕ). take (n + end) (text ++ (put ++ more))) (sym has) ∙ take-append-add text (put ++ more) end ∙ ap (λ (l : List ℕ). text ++ l) (take-append-le end put more most ∙ is),
    )
