use Rattle.std.proofs.Common.{◌≡◌, ◌≤◌, ◌++◌, drop, length}
use Rattle.zvt_c.specs.Cards.{before_zero}
use Rattle.zvt_c.proofs.card.name_in.Given as goal

abbrev pub invariant-loop-byte : goal.invariant-loop-byte
invariant-loop-byte l = record {
  few : length l.name.items ≤ l.byte-index;
  named : l.name.items ++ before_zero (drop l.byte-index l.content) ≡ before_zero l.content;
}
