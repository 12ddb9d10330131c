use Rattle.zvt_field.proofs.single.collect.Goals as goal

pub loop-field-preserved : goal.loop-field-preserved
loop-field-preserved c = c.see.ensures c.args.fields.now c.loop-field.field-iterator c.next.new.self c.loop-field.invariant c.in-Some.ensures.steps
