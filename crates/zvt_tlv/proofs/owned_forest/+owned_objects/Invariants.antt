use Rattle.std.proofs.Common.{◌≡◌, ◌≤◌}
use Rattle.zvt_tlv.specs.Checks.{AllParts}
use Rattle.zvt_tlv.specs.Trees.{objects_of}
use Rattle.zvt_tlv.specs.Sizes.{size_of}
use Rattle.zvt_tlv.proofs.Spelling.{joined}
use Rattle.zvt_tlv.proofs.owned_forest.+owned_objects.Given as goal

abbrev pub decreases-owned_objects : goal.decreases-owned_objects
decreases-owned_objects l = size_of l.objects

abbrev pub invariant-loop-object : goal.invariant-loop-object
invariant-loop-object l = record {
  whole : joined (objects_of l.made.items) l.object-iterator ≡ l.initial.object-iterator;
  parts : ∥ AllParts l.object-iterator ∥₁;
  size : size_of l.object-iterator ≤ size_of l.initial.object-iterator;
}
