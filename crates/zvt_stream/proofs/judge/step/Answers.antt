use Rattle.std.proofs.Common.{refl, arith, ap, false, true}
use Rattle.zvt_grammar.specs.Lengths.{reading_of}
use Rattle.zvt_stream.specs.DecoderState.{depth_of}
use Rattle.zvt_stream.specs.Moves.{at_part, outer_of}
use Rattle.zvt_stream.specs.Parts as stage
use Rattle.zvt_stream.proofs.JudgeLemmas.{advances, first_control, opens_room, second_control}
use Rattle.zvt_stream.proofs.judge.step.Goals as goal

pub returns-in-Digits-clause-judged : goal.returns-in-Digits-clause-judged
returns-in-Digits-clause-judged c b h =
    let r = reading_of c.args.lengths in
    advances r (stage.Content true c.args.goes.now.more) (depth_of (outer_of c.args.levels.now)) c.args.byte c.args.goes.now c.judge_digits.new.goes c.follow.new.goes c.args.levels.now c.args.levels.now c.follow.new.levels c.judge_digits.result c.follow.result b (omega (arith, c.ranges.byte)) (ap (λ p. at_part p c.args.goes.now.more c.args.levels.now) c.in-Digits.is) tt refl (c.judge_digits.ensures c.args.levels.now r (depth_of (outer_of c.args.levels.now))) (refl, refl, refl) (c.follow.ensures r _) h

pub returns-in-Content-clause-judged : goal.returns-in-Content-clause-judged
returns-in-Content-clause-judged c b h =
    let r = reading_of c.args.lengths in
    advances r (stage.Content false c.args.goes.now.more) (depth_of (outer_of c.args.levels.now)) c.args.byte c.args.goes.now c.judge_free.new.goes c.follow-in-Content.new.goes c.args.levels.now c.args.levels.now c.follow-in-Content.new.levels c.judge_free.result c.follow-in-Content.result b (omega (arith, c.ranges.byte)) (ap (λ p. at_part p c.args.goes.now.more c.args.levels.now) c.in-Content.is) tt refl (c.judge_free.ensures c.args.levels.now r (depth_of (outer_of c.args.levels.now)) c.args.byte (omega (arith, c.ranges.byte))) (refl, refl, refl) (c.follow-in-Content.ensures r _) h

pub follow-requires-in-Object : goal.follow-requires-in-Object
follow-requires-in-Object c =
    let r = reading_of c.args.lengths in
    opens_room r (stage.Object c.args.goes.now.more) (depth_of (outer_of c.args.levels.now)) c.args.byte c.args.goes.now c.judge_object_content.new.goes c.args.levels.now c.args.levels.now c.judge_object_content.result (ap (λ p. at_part p c.args.goes.now.more c.args.levels.now) c.in-Object.is) refl (c.judge_object_content.ensures c.args.levels.now r (depth_of (outer_of c.args.levels.now)) c.args.byte (omega (arith, c.ranges.byte))) (refl, refl, refl) c.requires

pub returns-in-Object-clause-judged : goal.returns-in-Object-clause-judged
returns-in-Object-clause-judged c b h =
    let r = reading_of c.args.lengths in
    advances r (stage.Object c.args.goes.now.more) (depth_of (outer_of c.args.levels.now)) c.args.byte c.args.goes.now c.judge_object_content.new.goes c.follow-in-Object.new.goes c.args.levels.now c.args.levels.now c.follow-in-Object.new.levels c.judge_object_content.result c.follow-in-Object.result b (omega (arith, c.ranges.byte)) (ap (λ p. at_part p c.args.goes.now.more c.args.levels.now) c.in-Object.is) tt refl (c.judge_object_content.ensures c.args.levels.now r (depth_of (outer_of c.args.levels.now)) c.args.byte (omega (arith, c.ranges.byte))) (refl, refl, refl) (c.follow-in-Object.ensures r _) h

pub returns-in-Payload-clause-judged : goal.returns-in-Payload-clause-judged
returns-in-Payload-clause-judged c b h =
    let r = reading_of c.args.lengths in
    advances r (stage.Payload) (depth_of (outer_of c.args.levels.now)) c.args.byte c.args.goes.now c.judge_payload.new.goes c.follow-in-Payload.new.goes c.args.levels.now c.args.levels.now c.follow-in-Payload.new.levels c.judge_payload.result c.follow-in-Payload.result b (omega (arith, c.ranges.byte)) (ap (λ p. at_part p c.args.goes.now.more c.args.levels.now) c.in-Payload.is) tt refl (c.judge_payload.ensures c.args.levels.now r (depth_of (outer_of c.args.levels.now)) c.args.byte (omega (arith, c.ranges.byte))) (refl, refl, refl) (c.follow-in-Payload.ensures r _) h

pub returns-in-Name-clause-judged : goal.returns-in-Name-clause-judged
returns-in-Name-clause-judged c b h =
    let r = reading_of c.args.lengths in
    advances r (stage.Name) (depth_of (outer_of c.args.levels.now)) c.args.byte c.args.goes.now c.judge_field.new.goes c.follow-in-Name.new.goes c.args.levels.now c.judge_field.new.levels c.follow-in-Name.new.levels c.judge_field.result c.follow-in-Name.result b (omega (arith, c.ranges.byte)) (ap (λ p. at_part p c.args.goes.now.more c.args.levels.now) c.in-Name.is) tt refl (c.judge_field.ensures.judges (depth_of (outer_of c.args.levels.now))) c.judge_field.ensures.keeps (c.follow-in-Name.ensures r _) h

pub returns-in-FirstSize-clause-judged : goal.returns-in-FirstSize-clause-judged
returns-in-FirstSize-clause-judged c b h =
    let r = reading_of c.args.lengths in
    advances r (stage.FirstSize c.args.levels.now.high c.args.levels.now.low) (depth_of (outer_of c.args.levels.now)) c.args.byte c.args.goes.now c.judge_first_size.new.goes c.follow-in-FirstSize.new.goes c.args.levels.now c.judge_first_size.new.levels c.follow-in-FirstSize.new.levels c.judge_first_size.result c.follow-in-FirstSize.result b (omega (arith, c.ranges.byte)) (ap (λ p. at_part p c.args.goes.now.more c.args.levels.now) c.in-FirstSize.is) tt refl (c.judge_first_size.ensures.judges r (depth_of (outer_of c.args.levels.now))) c.judge_first_size.ensures.keeps (c.follow-in-FirstSize.ensures r _) h

pub returns-in-Digit-clause-judged : goal.returns-in-Digit-clause-judged
returns-in-Digit-clause-judged c b h =
    let r = reading_of c.args.lengths in
    advances r (stage.Digit c.args.goes.now.more c.args.levels.now.number) (depth_of (outer_of c.args.levels.now)) c.args.byte c.args.goes.now c.judge_count.new.goes c.follow-in-Digit.new.goes c.args.levels.now c.judge_count.new.levels c.follow-in-Digit.new.levels c.judge_count.result c.follow-in-Digit.result b (omega (arith, c.ranges.byte)) (ap (λ p. at_part p c.args.goes.now.more c.args.levels.now) c.in-Digit.is) tt refl (c.judge_count.ensures.judges r (depth_of (outer_of c.args.levels.now))) c.judge_count.ensures.keeps (c.follow-in-Digit.ensures r _) h

pub returns-in-FirstControl-clause-judged : goal.returns-in-FirstControl-clause-judged
returns-in-FirstControl-clause-judged c b h = first_control (reading_of c.args.lengths) c.args.byte c.args.goes.now c.args.levels.now _ b c.in-FirstControl.is refl (omega (arith, c.ranges.byte)) h

pub returns-in-SecondControl-clause-judged : goal.returns-in-SecondControl-clause-judged
returns-in-SecondControl-clause-judged c b h = second_control (reading_of c.args.lengths) c.args.byte c.args.goes.now c.args.levels.now _ b c.in-SecondControl.is refl (omega (arith, c.ranges.byte)) h
