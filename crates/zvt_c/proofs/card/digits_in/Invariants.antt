use Rattle.std.proofs.Common.{◌≡◌, ◌≤◌, ◌*◌, ◌++◌, drop, length}
use Rattle.zvt_c.specs.Cards.{digits_in}
use Rattle.zvt_c.proofs.card.digits_in.Given as goal

abbrev pub invariant-loop-byte : goal.invariant-loop-byte
invariant-loop-byte l = record {
  few : length l.digits.items ≤ 2 * l.byte-index;
  read : l.digits.items ++ digits_in (drop l.byte-index l.content) ≡ digits_in l.content;
}
