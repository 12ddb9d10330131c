use Rattle.std.proofs.Common.{◌≡◌, ◌≤◌, ◌++◌, drop, flat_map, length, map, take}
use Rattle.zvt_text.specs.Receipts.{receipt_line}
use Rattle.zvt_text.proofs.receipts.put_lines.Given as goal

abbrev pub invariant-loop-line : goal.invariant-loop-line
invariant-loop-line l = record {
  inside : l.end ≤ length l.buffer;
  written : take l.end l.buffer ++ flat_map (receipt_line l.codepage) (map (λ line. line.now) (drop l.line-index l.lines))
      ≡ take l.at l.initial.buffer ++ flat_map (receipt_line l.codepage) (map (λ line. line.now) l.lines);
}
