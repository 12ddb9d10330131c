use Rattle.std.proofs.Common.{ℕ, List, ◌≡◌, ◌+◌, ◌-◌, ◌≤◌, ◌++◌, arith, length, length-append, take, ap, ◌∙◌}
use Rattle.std.proofs.lemmas.List.{length-take-le, take_at}
use Rattle.std.proofs.lemmas.Slice.{take-put_mid}
use Rattle.zvt_play.proofs.player.put_line.Goals as goal
use borrow.Rule.Slice.PartMut.{put_mid}

filled : (start count n : ℕ) (first after last bytes part : List ℕ) → first ≡ take start bytes → start ≤ length bytes → last ≡ part → n ≡ start + length part → take n (put_mid start count (first ++ after) last) ≡ take start bytes ++ part
filled start count n first after last bytes part is within same all =
    let long : length first ≡ start = ap length is ∙ length-take-le start bytes within in
    take-put_mid start count (first ++ after) last n (omega (arith, all, ap length same)) (omega (arith, long, length-append first after)) ∙ ap (λ (l : List ℕ). l ++ last) (take_at first after start (omega (arith, long)) ∙ is) ∙ ap (λ (l : List ℕ). take start bytes ++ l) same

pub returns : goal.returns
returns c =
    filled (length c.args.bytes.now - length c.args.last.now) (length c.args.bytes.now - (length c.args.bytes.now - length c.args.last.now)) (length c.args.bytes.now) c.copy_from_slice.new.self _ c.copy_from_slice-2.new.self c.args.bytes.now c.args.last.now
    c.copy_from_slice.ensures.after (omega arith) c.copy_from_slice-2.ensures.after (omega (arith, c.requires.within))
