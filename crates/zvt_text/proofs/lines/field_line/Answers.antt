use Rattle.std.proofs.Common.{ap, arith, rules}
use Rattle.std.proofs.lemmas.Grind.{common_steps}
use Rattle.zvt_field.proofs.ViewLemmas.{plain_of}
use Rattle.zvt_text.specs.Lines.{field_line}
use Rattle.zvt_text.proofs.FieldLemmas.{name_full, plain_shown, tree_shown, objects_shallow}
use Rattle.zvt_text.proofs.lines.field_line.Goals as goal

pub noted_value-requires-clause-plain : goal.noted_value-requires-clause-plain
noted_value-requires-clause-plain c = (plain_of _ _ c.args.field.now.field c.in-None.ensures).0

pub object_lines-requires-clause-shallow : goal.object_lines-requires-clause-shallow
object_lines-requires-clause-shallow c = objects_shallow c.args.field.now c.in-Some.objects c.in-Some.ensures

pub returns-in_err-at : goal.returns-in_err-at
returns-in_err-at c = let full = name_full c.args.options c.args.field.now _ _ c.in_err-at.ensures in search (rules, full)

pub returns-in_err-at-in-None : goal.returns-in_err-at-in-None
returns-in_err-at-in-None c = let e = ap (field_line c.args.options) (plain_shown c.args.field.now c.in-None.ensures) in rw e (grind (arith, common_steps))

pub returns-in_err-at-in-None-2 : goal.returns-in_err-at-in-None-2
returns-in_err-at-in-None-2 c = let e = ap (field_line c.args.options) (plain_shown c.args.field.now c.in-None.ensures) in rw e (grind (arith, common_steps))

pub returns-in_err-at-in-Some : goal.returns-in_err-at-in-Some
returns-in_err-at-in-Some c = let e = ap (field_line c.args.options) (tree_shown c.args.field.now c.in-Some.objects c.in-Some.ensures) in rw e (grind (arith, common_steps))

pub returns-in_ok-at-in-None-2 : goal.returns-in_ok-at-in-None-2
returns-in_ok-at-in-None-2 c = let e = ap (field_line c.args.options) (plain_shown c.args.field.now c.in-None.ensures) in rw e (grind (arith, common_steps))

pub returns-in_ok-at-in-Some : goal.returns-in_ok-at-in-Some
returns-in_ok-at-in-Some c = let e = ap (field_line c.args.options) (tree_shown c.args.field.now c.in-Some.objects c.in-Some.ensures) in rw e (grind (arith, common_steps))
