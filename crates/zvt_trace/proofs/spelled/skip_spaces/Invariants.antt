use Rattle.std.proofs.Common.{◌≡◌, ◌≤◌, length}
use Rattle.zvt_trace.specs.Meanings.{without_spaces}
use Rattle.zvt_trace.proofs.spelled.skip_spaces.Given as goal

abbrev pub invariant-spaces : goal.invariant-spaces
invariant-spaces l = record {
  same : without_spaces l.rest ≡ without_spaces l.text;
  shorter : length l.rest ≤ length l.text;
}

abbrev pub decreases-spaces : goal.decreases-spaces
decreases-spaces l = length l.rest
