use Rattle.std.proofs.Common.{◌≡◌, ◌+◌, ◌≤◌, ◌++◌, length}
use Rattle.zvt_report.specs.Masking.{masked, masked_from}
use Rattle.zvt_report.proofs.masking.masked.Given as goal

abbrev pub invariant-characters : goal.invariant-characters
invariant-characters l = record {
  so_far : l.text ++ masked_from l.before l.joined l.rest ≡ l.initial.text ++ masked l.bytes;
  left : l.before + length l.rest ≤ length l.bytes;
}

abbrev pub decreases-characters : goal.decreases-characters
decreases-characters l = length l.rest
