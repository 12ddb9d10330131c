use Rattle.std.proofs.Common.{◌≡◌, ◌≤◌, ◌++◌, drop, length, take}
use Rattle.zvt_text.specs.Codepages.{decoded_by}
use Rattle.zvt_text.proofs.codepages.decode_by.Given as goal

abbrev pub invariant-loop-byte : goal.invariant-loop-byte
invariant-loop-byte l = record {
  inside : l.end ≤ length l.buffer;
  written : take l.end l.buffer ++ decoded_by l.characters l.quotes (drop l.byte-index l.bytes) ≡ take l.at l.initial.buffer ++ decoded_by l.characters l.quotes l.bytes;
}
