use Rattle.std.proofs.Common.{◌≡◌, ◌≤◌, ◌++◌, length, take}
use Rattle.zvt_text.specs.Bytes.{escaped_text}
use Rattle.zvt_text.proofs.bytes.escape_all.Given as goal

abbrev pub invariant-runs : goal.invariant-runs
invariant-runs l = record {
  inside : l.end ≤ length l.buffer;
  written : take l.end l.buffer ++ escaped_text l.rest ≡ take l.at l.initial.buffer ++ escaped_text l.bytes;
}

abbrev pub decreases-runs : goal.decreases-runs
decreases-runs l = length l.rest
