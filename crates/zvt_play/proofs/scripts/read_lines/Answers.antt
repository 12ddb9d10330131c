use Rattle.std.proofs.Common.{◌+◌, refl}
use Rattle.zvt_stream.specs.LineReading.{reading_as}
use Rattle.zvt_play.specs.declared.step.ScriptStep.{ScriptStep}
use Rattle.zvt_play.proofs.ScriptLemmas.{read_nothing, read_one}
use Rattle.zvt_play.proofs.scripts.read_lines.Goals as goal

pub lines-preserved-in-Ok-None : goal.lines-preserved-in-Ok-None
lines-preserved-in-Ok-None c =
    let says = rw c.in-Ok-None.field-0-is at c.in-Ok-None.ensures.ok in
    read_nothing (reading_as c.args.role.form) c.args.role.own c.args.trace.now c.lines.rest.now c.next_line.result.0.now c.next_line.result.1.now c.lines.number c.lines.steps.items c.lines.invariant c.next_line.ensures.lines c.next_line.ensures.some says

pub lines-preserved : goal.lines-preserved
lines-preserved c =
    let says = rw c.in-Ok-Some.field-0-is at c.in-Ok-Some.ensures.ok in
    let step : ScriptStep = record { line = c.lines.number + 1; action = c.in-Ok-Some.action } in
    let more = read_one (reading_as c.args.role.form) c.args.role.own c.args.trace.now c.lines.rest.now c.next_line.result.0.now c.next_line.result.1.now c.lines.number c.lines.steps.items step c.lines.invariant c.next_line.ensures.lines c.next_line.ensures.some says refl in
    rw c.in_ok-add-in-Ok-Some.ensures more
