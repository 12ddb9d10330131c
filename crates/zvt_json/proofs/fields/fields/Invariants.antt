use Rattle.std.proofs.Common.{◌≡◌, ◌≤◌, ◌++◌, false, length, take}
use Rattle.serde_json.specs.Written.{items_text}
use Rattle.zvt_json.specs.Fields.{field_values}
use Rattle.zvt_json.proofs.fields.fields.Given as goal

abbrev pub invariant-loop-one : goal.invariant-loop-one
invariant-loop-one l = record {
  inside : l.end ≤ length l.buffer;
  written : take l.end l.buffer ++ items_text l.later (field_values l.one-iterator) ≡ take l.at l.initial.buffer ++ items_text false (field_values l.initial.one-iterator);
}
