use Rattle.std.proofs.Common.{◌≡◌, ◌++◌, length}
use Rattle.std.specs.List.{flat_map}
use Rattle.zvt_web.specs.Connection.{event_letter}
use Rattle.zvt_web.proofs.sending.put_letters.Given as goal

abbrev pub invariant-letters : goal.invariant-letters
invariant-letters l = l.out.items ++ flat_map event_letter l.rest ≡ l.initial.out.items ++ flat_map event_letter l.text

abbrev pub decreases-letters : goal.decreases-letters
decreases-letters l = length l.rest
