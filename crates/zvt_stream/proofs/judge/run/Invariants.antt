use Rattle.std.proofs.Common.{◌≡◌, ◌≤◌, ℕ, ◌+◌, ◌-◌, List, ◌++◌, length, min, take}
use Rattle.zvt_grammar.specs.Lengths.{reading_of}
use Rattle.zvt_stream.specs.Judge.{StandsFor, judged_of, state_of}
use Rattle.zvt_stream.proofs.judge.run.Given as goal

abbrev pub invariant-bytes : goal.invariant-bytes
invariant-bytes l = record {
  judge : (held : List ℕ) × StandsFor (state_of (reading_of l.lengths) l.now l.levels) (held ++ take l.taken l.bytes) × (min (length held + length l.bytes) 65540 ≤ length held + length l.room);
  stands : (held : List ℕ) → StandsFor (state_of (reading_of l.lengths) l.fn.goes l.fn.levels) held → StandsFor (state_of (reading_of l.lengths) l.now l.levels) (held ++ take l.taken l.bytes);
  few : l.taken ≤ length l.bytes;
  count : judged_of l.steps ≡ judged_of l.fn.steps + l.taken;
  written : take l.taken l.room ≡ take l.taken l.bytes;
  size : length l.room ≡ length l.fn.room;
}

abbrev pub decreases-bytes : goal.decreases-bytes
decreases-bytes l = length l.bytes - l.taken
