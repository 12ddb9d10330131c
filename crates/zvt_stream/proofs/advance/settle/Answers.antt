use Rattle.std.proofs.Common.{arith, refl, reverse}
use Rattle.std.proofs.lemmas.List.{length-reverse}
use Rattle.zvt_stream.proofs.JudgeLemmas.{settled, ended, goes_on_fields, goes_on_objects}
use Rattle.zvt_stream.proofs.advance.settle.Goals as goal

pub returns-then-len-eq1 : goal.returns-then-len-eq1
returns-then-len-eq1 c r b h =
    let s = settled r c.args.goes.now.left (reverse c.args.levels.now.outer.items) b c.in-Some.left (reverse c.close.new.outer.items) h c.in-Some.ensures in
    (goes_on_fields r c.in-Some.left (reverse c.close.new.outer.items) b s.0 s.1 (omega (arith, length-reverse c.close.new.outer.items, c.len.ensures.value, c.if-len-eq1.true)), refl, refl)

pub returns-else-len-eq1 : goal.returns-else-len-eq1
returns-else-len-eq1 c r b h =
    let s = settled r c.args.goes.now.left (reverse c.args.levels.now.outer.items) b c.in-Some.left (reverse c.close.new.outer.items) h c.in-Some.ensures in
    (goes_on_objects r c.in-Some.left (reverse c.close.new.outer.items) b s.0 s.1 (λ e. c.if-len-eq1.false (omega (arith, length-reverse c.close.new.outer.items, c.len.ensures.value, e))), refl, refl)

pub returns-in-None : goal.returns-in-None
returns-in-None c r b h = (ended r c.args.goes.now.left (reverse c.args.levels.now.outer.items) b h c.in-None.ensures.0, c.in-None.ensures.1)
