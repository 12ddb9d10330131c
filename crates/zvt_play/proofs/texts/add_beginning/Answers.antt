use Rattle.std.proofs.Common.{◌≡◌, ◌++◌, ◌∙◌, ℕ, ap, length, min, rules, take}
use Rattle.hex.specs.Hex.{encode_upper}
use Rattle.zvt_play.proofs.TextLemmas.{added, five}
use Rattle.zvt_play.proofs.texts.add_beginning.Goals as goal

pub returns : goal.returns
returns c =
    let wanted = c.args.bytes.now in
    let two : c.min.result ≡ min (length wanted) 2 = search rules in
    let hexadecimal = c.in_ok-hexadecimal.ensures ∙ ap (λ (n : ℕ). c.word.new.self ++ encode_upper (take n wanted)) two in
    added c.word-3.result _ _ _ c.word-3.ensures (λ end. let all = five _ _ _ _ _ _ _ _ _ _ _ c.in_ok-word.ensures hexadecimal c.in_ok-word-2.ensures c.in_ok-number.ensures end in all)
