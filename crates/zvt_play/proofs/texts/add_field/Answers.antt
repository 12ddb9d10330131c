use Rattle.std.proofs.Common.{codes, ◌∙◌, ap, ◌++◌, ◌∷◌, [], ℕ}
use Rattle.hex.specs.Hex.{encode_upper}
use Rattle.zvt_play.specs.Numbers.{bmp_of}
use Rattle.zvt_play.proofs.TextLemmas.{added, three}
use Rattle.zvt_play.proofs.texts.add_field.Goals as goal

pub returns : goal.returns
returns c =
    let hexadecimal = c.in_ok-hexadecimal.ensures ∙ ap (λ (b : ℕ). c.word.new.self ++ encode_upper (b ∷ [])) c.bmp.ensures in
    added c.word-2.result _ _ _ c.word-2.ensures (λ end. three c.args.text.now c.word.new.self c.hexadecimal.new.text c.word-2.new.self (codes "a message whose field ") (encode_upper (bmp_of c.args.field ∷ [])) (codes " has ") c.in_ok-word.ensures hexadecimal end)
