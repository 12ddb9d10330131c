use Rattle.zvt_field.proofs.ViewLemmas.{plain_of}
use Rattle.zvt_text.proofs.FieldLemmas.{plain_shown, tree_shown, objects_shallow}
use Rattle.zvt_json.proofs.TextLemmas.{tree_said}
use Rattle.zvt_json.proofs.fields.field.Goals as goal

pub plain-requires-clause-plain : goal.plain-requires-clause-plain
plain-requires-clause-plain c = (plain_of _ _ c.args.field.now.field c.in-None.ensures).0

pub tree-requires-in-Some-clause-shallow : goal.tree-requires-in-Some-clause-shallow
tree-requires-in-Some-clause-shallow c = objects_shallow c.args.field.now c.in-Some.inner c.in-Some.ensures

pub returns-in-None : goal.returns-in-None
returns-in-None c = rw (plain_shown c.args.field.now c.in-None.ensures) c.plain.ensures

pub returns-in-Some : goal.returns-in-Some
returns-in-Some c = let same = tree_said c.args.field.now.bmp c.in-Some.inner in rw (tree_shown c.args.field.now c.in-Some.inner c.in-Some.ensures, ← same) c.tree-in-Some.ensures
