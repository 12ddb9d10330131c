use Rattle.std.proofs.Common.{◌≡◌, ◌-◌, ◌++◌, length}
use Rattle.zvt_report.specs.Wrapping.{wrapped_from}
use Rattle.zvt_report.proofs.wrapping.wrapped.Given as goal

abbrev pub invariant-letters : goal.invariant-letters
invariant-letters l = record {
  so_far : l.text ++ wrapped_from l.indent l.width l.free l.rest ≡ l.initial.text ++ wrapped_from l.indent (76 - l.indent) (76 - l.indent) l.sentence;
  width : l.width ≡ 76 - l.indent;
}

abbrev pub decreases-letters : goal.decreases-letters
decreases-letters l = length l.rest
