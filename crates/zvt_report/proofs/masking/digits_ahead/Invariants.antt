use Rattle.std.proofs.Common.{◌≡◌, ◌+◌, ◌≤◌, false, length}
use Rattle.zvt_report.specs.Masking.{digits_ahead}
use Rattle.zvt_report.proofs.masking.digits_ahead.Given as goal

abbrev pub invariant-digits : goal.invariant-digits
invariant-digits l = record {
  so_far : l.found + digits_ahead l.joined l.left ≡ digits_ahead false l.fn.rest;
  few : l.found ≤ 12;
}

abbrev pub decreases-digits : goal.decreases-digits
decreases-digits l = length l.left
