use Rattle.std.proofs.Common.{◌++◌, ◌∙◌, List, ℕ, ap}
use Rattle.zvt_play.proofs.TextLemmas.{added, five}
use Rattle.zvt_play.proofs.texts.add_refusal.Goals as goal

pub returns : goal.returns
returns c =
    let name = c.in_ok-word-3.ensures ∙ ap (λ (l : List ℕ). c.word-2.new.self ++ l) (c.as_bytes.ensures.value ∙ c.name.ensures) in
    added c.push.result _ _ _ c.push.ensures (λ end. let all = five _ _ _ _ _ _ _ _ _ _ _ c.in_ok-word.ensures c.in_ok-number.ensures c.in_ok-word-2.ensures name end in all)
