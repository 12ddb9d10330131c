use Rattle.std.proofs.Common.{◌≡◌, ◌≤◌, ◌-◌, ◌++◌, length, take, true, false}
use Rattle.serde_json.specs.Written.{items_text}
use Rattle.zvt_tlv.specs.Checks.{is_shallow}
use Rattle.zvt_json.specs.Fields.{object_values}
use Rattle.zvt_json.proofs.objects.+objects.Given as goal

abbrev pub decreases-objects : goal.decreases-objects
decreases-objects l = 7 - l.depth

abbrev pub invariant-loop-object : goal.invariant-loop-object
invariant-loop-object l = record {
  inside : l.end ≤ length l.buffer;
  shallow : is_shallow l.depth l.object-iterator ≡ true;
  written : take l.end l.buffer ++ items_text l.later (object_values l.object-iterator) ≡ take l.at l.initial.buffer ++ items_text false (object_values l.initial.object-iterator);
}
