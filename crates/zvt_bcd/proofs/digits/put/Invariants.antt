use Rattle.std.proofs.Common.{◌≡◌, ◌+◌, ◌*◌, ◌^◌, ◌-◌, length, drop}
use Rattle.zvt_bcd.specs.Digits.{AreDigits, number_of}
use Rattle.zvt_bcd.proofs.digits.put.Given as goal

abbrev pub invariant-loop-at : goal.invariant-loop-at
invariant-loop-at l = record {
  digits : AreDigits (drop l.at l.out);
  value : l.rest * 100 ^ (length l.out - l.at) + number_of (drop l.at l.out) ≡ l.number;
}
