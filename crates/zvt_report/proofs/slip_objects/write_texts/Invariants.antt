use Rattle.std.proofs.Common.{◌≡◌, ◌++◌, false, length}
use Rattle.serde_json.specs.Written.{items_text}
use Rattle.zvt_report.specs.SlipObjects.{text_items}
use Rattle.zvt_report.proofs.slip_objects.write_texts.Given as goal

abbrev pub invariant-texts : goal.invariant-texts
invariant-texts l = l.text ++ items_text l.later (text_items l.rest) ≡ l.initial.text ++ items_text false (text_items l.fn.texts)

abbrev pub decreases-texts : goal.decreases-texts
decreases-texts l = length l.rest
