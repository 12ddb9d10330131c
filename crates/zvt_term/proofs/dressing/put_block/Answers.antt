use Rattle.std.proofs.Common.{◌≡◌, ◌∙◌, ◌+◌, ◌-◌, ◌≤◌, ◌∷◌, ℕ, List, length, drop, take, ap, arith, subst, length-drop}
use Rattle.zvt_tlv.specs.Sizes.{Puts}
use Rattle.zvt_term.proofs.DressingLemmas.{block_spelled, copied, cut_after, line_framed}
use Rattle.zvt_term.proofs.dressing.put_block.Goals as goal

pub returns-clause-written : goal.returns-clause-written
returns-clause-written c text h =
    let f = line_framed text c.args.message.now h c.requires.short in
    let same : take (length c.args.message.now - 4) (drop 4 c.args.message.now) ≡ text = cut_after 4 c.args.message.now ∙ ap (drop 4) f.whole ∙ ap (drop 1) f.is_content.0 in
    let few : length text ≤ 100 = omega (arith, ap length same, ap length (cut_after 4 c.args.message.now), length-drop 4 c.args.message.now, c.requires.short) in
    copied _ (0x06 ∷ 0xD3 ∷ (length text + 6) ∷ 0x06 ∷ (length text + 4) ∷ 0x25 ∷ (length text + 2) ∷ 0x07 ∷ length text ∷ text) _ _ _ (block_spelled text f.is_content.3 few)
    (subst (λ (t : List ℕ). Puts (0x06 ∷ 0xD3 ∷ (length t + 6) ∷ 0x06 ∷ (length t + 4) ∷ 0x25 ∷ (length t + 2) ∷ 0x07 ∷ length t ∷ t) c.args.out.now c.put_after.new.out c.put_after.result) same c.put_after.ensures.written)
