use Rattle.std.proofs.Common.{◌≡◌, ◌≤◌, ◌++◌, length, replicate, take}
use Rattle.zvt_text.proofs.cursor.repeat.Given as goal

abbrev pub invariant-loop : goal.invariant-loop
invariant-loop l = record {
  inside : l.end ≤ length l.buffer;
  written : take l.end l.buffer ≡ take l.at l.initial.buffer ++ replicate l.counter l.character;
}
