use Rattle.std.proofs.Common.{◌≡◌, ◌≤◌, ◌++◌, length, take}
use Rattle.json.specs.Print.{escape}
use Rattle.zvt_text.specs.Bytes.{escaped_text}
use Rattle.zvt_json.proofs.strings.escape_all.Given as goal

abbrev pub invariant-runs : goal.invariant-runs
invariant-runs l = record {
  inside : l.end ≤ length l.buffer;
  written : take l.end l.buffer ++ escape (escaped_text l.rest) ≡ take l.at l.initial.buffer ++ escape (escaped_text l.bytes);
}

abbrev pub decreases-runs : goal.decreases-runs
decreases-runs l = length l.rest
