use Rattle.std.proofs.Common.{◌≡◌, ◌≢◌, ◌≤◌, ◌+◌, ◌*◌, length, take, slice_index}
use Rattle.zvt_trace.specs.Meanings.{without_spaces}
use Rattle.zvt_trace.specs.Spelled.{after_bytes, spells}
use Rattle.zvt_trace.proofs.spelled.read.Given as goal

abbrev pub invariant-pairs : goal.invariant-pairs
invariant-pairs l = record {
  so_far : after_bytes (take l.count l.buffer) (spells (without_spaces l.rest)) ≡ spells (without_spaces l.text);
  none : slice_index l.rest 0 ≢ 32;
  within : l.count ≤ length l.buffer;
  size : length l.buffer ≡ length l.initial.buffer;
  few : 2 * l.count + length l.rest ≤ length l.text;
}

abbrev pub decreases-pairs : goal.decreases-pairs
decreases-pairs l = length l.rest
