use Rattle.std.proofs.Common.{◌≡◌, ◌-◌, ℕ, ◌∙◌, List, length, reverse, refl, arith, ap}
use Rattle.std.proofs.lemmas.List.{length-reverse}
use Rattle.zvt_grammar.specs.Lengths.{reading_of}
use Rattle.zvt_stream.specs.DecoderState.{depth_of}
use Rattle.zvt_stream.specs.Moves.{at_part, outer_of}
use Rattle.zvt_stream.specs.Parts as stage
use Rattle.zvt_stream.proofs.JudgeLemmas.{advances, depth_is, opens_room}
use Rattle.zvt_stream.proofs.advance.rare_step.Goals as goal

depth : (items : List ℕ) (count d : ℕ) → count ≡ length items → d ≡ count - 1 → d ≡ depth_of (reverse items)
depth items count d e f = (let g : d ≡ length (reverse items) - 1 = omega (arith, e, f, length-reverse items) in g) ∙ depth_is (reverse items)

pub returns-in-LowSize : goal.returns-in-LowSize
returns-in-LowSize c b h =
    let r = reading_of c.args.lengths in
    advances r (stage.LowSize c.args.levels.now.high c.args.levels.now.low) (depth_of (outer_of c.args.levels.now)) c.args.byte c.args.goes.now c.judge_low_size.new.goes c.follow.new.goes c.args.levels.now c.judge_low_size.new.levels c.follow.new.levels c.judge_low_size.result c.follow.result b (omega (arith, c.ranges.byte)) (ap (λ p. at_part p c.args.goes.now.more c.args.levels.now) c.in-LowSize.is) tt refl (c.judge_low_size.ensures.judges r (depth_of (outer_of c.args.levels.now))) c.judge_low_size.ensures.keeps (c.follow.ensures r _) h

pub returns-in-HighSize : goal.returns-in-HighSize
returns-in-HighSize c b h =
    let r = reading_of c.args.lengths in
    advances r (stage.HighSize c.args.levels.now.high c.args.levels.now.low c.args.levels.now.number) (depth_of (outer_of c.args.levels.now)) c.args.byte c.args.goes.now c.judge_high_size.new.goes c.follow-in-HighSize.new.goes c.args.levels.now c.judge_high_size.new.levels c.follow-in-HighSize.new.levels c.judge_high_size.result c.follow-in-HighSize.result b (omega (arith, c.ranges.byte)) (ap (λ p. at_part p c.args.goes.now.more c.args.levels.now) c.in-HighSize.is) tt refl (c.judge_high_size.ensures.judges c.args.goes.now.left (depth_of (outer_of c.args.levels.now))) c.judge_high_size.ensures.keeps (c.follow-in-HighSize.ensures r _) h

pub returns-in-Head : goal.returns-in-Head
returns-in-Head c b h =
    let r = reading_of c.args.lengths in
    advances r (stage.Head c.args.goes.now.more c.args.levels.now.number) (depth_of (outer_of c.args.levels.now)) c.args.byte c.args.goes.now c.judge_head.new.goes c.follow-in-Head.new.goes c.args.levels.now c.judge_head.new.levels c.follow-in-Head.new.levels c.judge_head.result c.follow-in-Head.result b (omega (arith, c.ranges.byte)) (ap (λ p. at_part p c.args.goes.now.more c.args.levels.now) c.in-Head.is) tt refl (c.judge_head.ensures.judges r (depth_of (outer_of c.args.levels.now))) c.judge_head.ensures.keeps (c.follow-in-Head.ensures r _) h

pub returns-in-Container : goal.returns-in-Container
returns-in-Container c b h =
    let r = reading_of c.args.lengths in
    advances r (stage.Container c.args.levels.now.length) (depth_of (outer_of c.args.levels.now)) c.args.byte c.args.goes.now c.judge_container.new.goes c.follow-in-Container.new.goes c.args.levels.now c.judge_container.new.levels c.follow-in-Container.new.levels c.judge_container.result c.follow-in-Container.result b (omega (arith, c.ranges.byte)) (ap (λ p. at_part p c.args.goes.now.more c.args.levels.now) c.in-Container.is) tt refl (c.judge_container.ensures.judges (depth_of (outer_of c.args.levels.now))) c.judge_container.ensures.keeps (c.follow-in-Container.ensures r _) h

pub follow-requires-in-Tag : goal.follow-requires-in-Tag
follow-requires-in-Tag c =
    let r = reading_of c.args.lengths in
    opens_room r (stage.Tag c.args.levels.now.tag) c.saturating_sub-depth.result c.args.byte c.args.goes.now c.judge_object_tag.new.goes c.args.levels.now c.judge_object_tag.new.levels c.judge_object_tag.result (ap (λ p. at_part p c.args.goes.now.more c.args.levels.now) c.in-Tag.is) (depth c.args.levels.now.outer.items c.len.result c.saturating_sub-depth.result c.len.ensures.value (omega (arith, c.saturating_sub-depth.ensures))) c.judge_object_tag.ensures.judges c.judge_object_tag.ensures.keeps c.requires.judge

pub returns-in-Tag : goal.returns-in-Tag
returns-in-Tag c b h =
    let r = reading_of c.args.lengths in
    advances r (stage.Tag c.args.levels.now.tag) c.saturating_sub-depth.result c.args.byte c.args.goes.now c.judge_object_tag.new.goes c.follow-in-Tag.new.goes c.args.levels.now c.judge_object_tag.new.levels c.follow-in-Tag.new.levels c.judge_object_tag.result c.follow-in-Tag.result b (omega (arith, c.ranges.byte)) (ap (λ p. at_part p c.args.goes.now.more c.args.levels.now) c.in-Tag.is) tt (depth c.args.levels.now.outer.items c.len.result c.saturating_sub-depth.result c.len.ensures.value (omega (arith, c.saturating_sub-depth.ensures))) c.judge_object_tag.ensures.judges c.judge_object_tag.ensures.keeps (c.follow-in-Tag.ensures r _) h

pub follow-requires-in-Length : goal.follow-requires-in-Length
follow-requires-in-Length c =
    let r = reading_of c.args.lengths in
    opens_room r (stage.Length c.args.levels.now.nests c.args.levels.now.length) (depth_of (outer_of c.args.levels.now)) c.args.byte c.args.goes.now c.judge_object_length.new.goes c.args.levels.now c.judge_object_length.new.levels c.judge_object_length.result (ap (λ p. at_part p c.args.goes.now.more c.args.levels.now) c.in-Length.is) refl (c.judge_object_length.ensures.judges (depth_of (outer_of c.args.levels.now))) c.judge_object_length.ensures.keeps c.requires.judge

pub returns-in-Length : goal.returns-in-Length
returns-in-Length c b h =
    let r = reading_of c.args.lengths in
    advances r (stage.Length c.args.levels.now.nests c.args.levels.now.length) (depth_of (outer_of c.args.levels.now)) c.args.byte c.args.goes.now c.judge_object_length.new.goes c.follow-in-Length.new.goes c.args.levels.now c.judge_object_length.new.levels c.follow-in-Length.new.levels c.judge_object_length.result c.follow-in-Length.result b (omega (arith, c.ranges.byte)) (ap (λ p. at_part p c.args.goes.now.more c.args.levels.now) c.in-Length.is) tt refl (c.judge_object_length.ensures.judges (depth_of (outer_of c.args.levels.now))) c.judge_object_length.ensures.keeps (c.follow-in-Length.ensures r _) h
