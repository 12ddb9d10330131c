use Rattle.std.proofs.Common.{◌≡◌, ◌≤◌, ◌-◌, length}
use Rattle.zvt_trace.specs.Meanings.{ReadsPairs}
use Rattle.zvt_trace.proofs.spelled.read_pairs.Given as goal

abbrev pub invariant-pairs : goal.invariant-pairs
invariant-pairs l = record {
  few : l.count ≤ l.most;
  size : length l.buffer ≡ length l.initial.buffer;
  so_far : ReadsPairs l.text l.count l.buffer;
}

abbrev pub decreases-pairs : goal.decreases-pairs
decreases-pairs l = length l.text - l.count
