use Rattle.std.proofs.Common.{◌≡◌, ◌++◌, map, take}
use Rattle.zvt_c.specs.Cards.{symbol}
use Rattle.zvt_c.proofs.card.add_symbols.Given as goal

abbrev pub invariant-loop-digit : goal.invariant-loop-digit
invariant-loop-digit l = l.text.items ≡ l.initial.text.items ++ map symbol (take l.digit-index l.digits)
