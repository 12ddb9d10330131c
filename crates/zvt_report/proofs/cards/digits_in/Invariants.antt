use Rattle.std.proofs.Common.{◌≡◌, ◌≤◌, ◌*◌, take}
use Rattle.zvt_report.specs.Cards.{digits_in}
use Rattle.zvt_report.proofs.cards.digits_in.Given as goal

abbrev pub invariant-loop-byte : goal.invariant-loop-byte
invariant-loop-byte l = record {
  sum : l.count ≡ digits_in l.least l.most (take l.byte-index l.number);
  bound : l.count ≤ 2 * l.byte-index;
}
