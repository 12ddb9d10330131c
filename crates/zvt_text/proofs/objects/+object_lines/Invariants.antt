use Rattle.std.proofs.Common.{◌≡◌, ◌≤◌, ◌-◌, ◌++◌, length, take, true}
use Rattle.zvt_tlv.specs.Checks.{is_shallow}
use Rattle.zvt_text.specs.Lines.{object_lines}
use Rattle.zvt_text.proofs.objects.+object_lines.Given as goal

abbrev pub decreases-object_lines : goal.decreases-object_lines
decreases-object_lines l = 7 - l.depth

abbrev pub invariant-loop-object : goal.invariant-loop-object
invariant-loop-object l = record {
  inside : l.end ≤ length l.buffer;
  shallow : is_shallow l.depth l.object-iterator ≡ true;
  lines : take l.end l.buffer ++ object_lines l.options l.depth l.object-iterator ≡ take l.at l.initial.buffer ++ object_lines l.options l.depth l.initial.object-iterator;
}
