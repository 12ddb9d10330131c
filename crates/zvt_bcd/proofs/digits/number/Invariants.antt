use Rattle.std.proofs.Common.{◌≡◌, ◌^◌, ◌<◌, take}
use Rattle.zvt_bcd.specs.Digits.{number_of}
use Rattle.zvt_bcd.proofs.digits.number.Given as goal

abbrev pub invariant-loop-byte : goal.invariant-loop-byte
invariant-loop-byte l = record {
  value : l.total ≡ number_of (take l.byte-index l.bytes);
  bound : l.total < 100 ^ l.byte-index;
}
