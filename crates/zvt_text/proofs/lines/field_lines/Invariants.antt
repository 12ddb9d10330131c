use Rattle.std.proofs.Common.{◌≡◌, ◌≤◌, ◌++◌, length, take}
use Rattle.zvt_text.specs.Lines.{field_lines}
use Rattle.zvt_text.proofs.lines.field_lines.Given as goal

abbrev pub invariant-loop-field : goal.invariant-loop-field
invariant-loop-field l = record {
  inside : l.end ≤ length l.buffer;
  written : take l.end l.buffer ++ field_lines l.options l.field-iterator ≡ take l.at l.initial.buffer ++ field_lines l.options l.initial.field-iterator;
}
