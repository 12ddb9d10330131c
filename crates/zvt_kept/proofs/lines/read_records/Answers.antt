use Rattle.std.proofs.Common.{◌≡◌, ◌∙◌, ap, [], Some, None}
use Rattle.zvt_kept.specs.Reading.{meant_by}
use Rattle.zvt_kept.specs.Records.{meaning_behind}
use Rattle.zvt_kept.proofs.CheckLemmas.{not_right}
use Rattle.zvt_kept.proofs.ReadLines.{read_nothing, read_one, read_wrong, wrong_kept}
use Rattle.zvt_kept.proofs.lines.read_records.Goals as goal

pub returns-in-Some : goal.returns-in-Some
returns-in-Some c = (wrong_kept c.args.text.now (not_right c.args.text.now c.in-Some.number c.in-Some.ensures), c.in-Some.ensures)

pub returns-in-Unknown : goal.returns-in-Unknown
returns-in-Unknown c =
    let e : meaning_behind c.loop-rest.last.now c.next_line.result.0.now ≡ None = c.in_ok-read_after.ensures ∙ ap meant_by c.in-Unknown.is in
    read_wrong c.args.text.now c.loop-rest.rest.now c.loop-rest.last.now c.next_line.result.0.now c.next_line.result.1.now c.loop-rest.number c.loop-rest.entries.items c.loop-rest.invariant c.next_line.ensures.lines e

pub loop-rest-preserved-in-Nothing : goal.loop-rest-preserved-in-Nothing
loop-rest-preserved-in-Nothing c =
    let e : meaning_behind c.loop-rest.last.now c.next_line.result.0.now ≡ Some [] = c.in_ok-read_after.ensures ∙ ap meant_by c.in-Nothing.is in
    read_nothing c.args.text.now c.loop-rest.rest.now c.loop-rest.last.now c.next_line.result.0.now c.next_line.result.1.now c.loop-rest.number c.loop-rest.entries.items c.loop-rest.invariant c.next_line.ensures.lines c.next_line.ensures.some e

pub loop-rest-preserved : goal.loop-rest-preserved
loop-rest-preserved c =
    let e = c.in_ok-read_after.ensures ∙ ap meant_by c.in-Kept.is in
    let more = read_one c.args.text.now c.loop-rest.rest.now c.loop-rest.last.now c.next_line.result.0.now c.next_line.result.1.now c.loop-rest.number c.loop-rest.entries.items c.in-Kept.entry c.loop-rest.invariant c.next_line.ensures.lines c.next_line.ensures.some e in
    rw c.in_ok-add-in-Kept.ensures more
