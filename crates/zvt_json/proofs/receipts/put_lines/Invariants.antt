use Rattle.std.proofs.Common.{◌≡◌, ◌≤◌, ◌++◌, drop, length, map, take}
use Rattle.zvt_json.specs.Receipts.{receipt_lines_text}
use Rattle.zvt_json.proofs.receipts.put_lines.Given as goal

abbrev pub invariant-loop-text : goal.invariant-loop-text
invariant-loop-text l = record {
  inside : l.end ≤ length l.buffer;
  written : take l.end l.buffer ++ receipt_lines_text l.receipt_type l.line (map (λ text. text.now) (drop l.text-index l.texts))
      ≡ take 0 l.initial.buffer ++ receipt_lines_text l.receipt_type l.line (map (λ text. text.now) l.texts);
}
