use Rattle.std.proofs.Common.{◌≡◌, length}
use Rattle.std.specs.List.{list_any}
use Rattle.zvt_play.specs.Numbers.{is_number}
use Rattle.zvt_play.proofs.numbers.Names.has.Given as goal

abbrev pub invariant-numbers : goal.invariant-numbers
invariant-numbers l = list_any (is_number l.bytes) l.self.numbers ≡ list_any (is_number l.bytes) l.rest

abbrev pub decreases-numbers : goal.decreases-numbers
decreases-numbers l = length l.rest
