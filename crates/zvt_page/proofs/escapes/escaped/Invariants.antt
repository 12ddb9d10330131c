use Rattle.std.proofs.Common.{◌≡◌, ◌++◌, length}
use Rattle.std.specs.List.{flat_map}
use Rattle.zvt_page.specs.Html.{escaped_letter}
use Rattle.zvt_page.proofs.escapes.escaped.Given as goal

abbrev pub invariant-letters : goal.invariant-letters
invariant-letters l = l.text ++ flat_map escaped_letter l.rest ≡ l.initial.text ++ flat_map escaped_letter l.characters

abbrev pub decreases-letters : goal.decreases-letters
decreases-letters l = length l.rest
